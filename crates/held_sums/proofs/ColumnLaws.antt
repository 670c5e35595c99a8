-- A turn of a loop over the polynomials of a list, one after another, each of which is lent and comes back changed.
-- Assumes nothing.
use mathlib.Core.Path.{◌≡◌, refl, ap, sym, ◌∙◌, subst}
use mathlib.Core.List.{List, ◌++◌}
use mathlib.Core.Logic.{◌⊎◌, inl, inr}
use Prim.Native.Nat.{ℕ, suc, ◌+◌, ◌*◌, ◌-◌, ◌/◌, ◌%◌, ◌≤◌, ◌<◌}
use native.Mathlib.Nat.{le_of_suc-le-suc, eq-or-lt_of_le, mul-le-mul_right, suc-mul, mod-lt, mod-add-div', div-lt_iff_lt-mul}
use native.Mathlib.Numerals.{add-one}
use native.Mathlib.Omega.{arith}
use lib.ListN.{get_or, length, take, drop, length-append, length-drop, get_or-append}
use lib.Seq.{ext_get_or, get_or-append-add, get_or-take, get_or-drop, length-take-le}
use Rattle.torus.specs.Sum.{chunk}
use Rattle.torus.proofs.Joined.{chunk_at, chunk_inside, length_chunk}

-- The list s with ys for the part of m elements from p on.
abbrev put : (p m : ℕ) (s ys : List ℕ) → List ℕ
put p m s ys = take p s ++ (ys ++ drop m (drop p s))

module _ (p m : ℕ) (s ys : List ℕ) (inside : p + m ≤ length s) (size : length ys ≡ m) where
  front : length (take p s) ≡ p
  front = length-take-le p s (omega arith)

  put_length : length (put p m s ys) ≡ length s
  put_length =
      length-append (take p s) _ ∙ ap (λ n. n + length (ys ++ drop m (drop p s))) front
      ∙ omega (arith, length-append ys (drop m (drop p s)), length-drop m (drop p s), length-drop p s)

  put_before : (i : ℕ) → i < p → get_or (put p m s ys) i 0 ≡ get_or s i 0
  put_before i l = get_or-append (take p s) _ 0 i (omega (arith, front)) ∙ get_or-take p s i 0 l

  put_past : (i : ℕ) → get_or (put p m s ys) (p + i) 0 ≡ get_or (ys ++ drop m (drop p s)) i 0
  put_past i = ap (λ n. get_or (put p m s ys) (n + i) 0) (sym front) ∙ get_or-append-add (take p s) _ i 0

  put_in : (i : ℕ) → i < m → get_or (put p m s ys) (p + i) 0 ≡ get_or ys i 0
  put_in i l = put_past i ∙ get_or-append ys _ 0 i (omega arith)

  put_after : (i : ℕ) → p + m ≤ i → get_or (put p m s ys) i 0 ≡ get_or s i 0
  put_after i l =
      let e : i ≡ p + (m + (i - p - m)) = omega arith in
      let f : p + (m + (i - p - m)) ≡ i = omega arith in
      ap (λ n. get_or (put p m s ys) n 0) e ∙ put_past (m + (i - p - m))
      ∙ ap (λ n. get_or (ys ++ drop m (drop p s)) (n + (i - p - m)) 0) (sym size) ∙ get_or-append-add ys _ (i - p - m) 0
      ∙ get_or-drop m (drop p s) (i - p - m) 0 ∙ get_or-drop p s (m + (i - p - m)) 0 ∙ ap (λ n. get_or s n 0) f

-- Part j becomes ys, and the others stay.
module _ (m j K : ℕ) (s ys : List ℕ) (few : length s ≡ K * m) (lj : j < K) (size : length ys ≡ m) where
  room : j * m + m ≤ length s
  room = omega (arith, chunk_inside j K m lj)

  part_length : (d : ℕ) → d < K → length (chunk m d (put (j * m) m s ys)) ≡ m
  part_length d l = length_chunk m d _ (omega (arith, chunk_inside d K m l, put_length (j * m) m s ys room size))

  part_same : chunk m j (put (j * m) m s ys) ≡ ys
  part_same = ext_get_or 0 _ _ (part_length j lj ∙ sym size)
      (λ i l. let li : i < m = rw (part_length j lj) at l in chunk_at m j _ i li ∙ put_in (j * m) m s ys room size i li)

  part_other : (d : ℕ) → d < K → (d < j) ⊎ (j < d) → chunk m d (put (j * m) m s ys) ≡ chunk m d s
  part_other d l o = ext_get_or 0 _ _ (part_length d l ∙ sym (length_chunk m d s (omega (arith, chunk_inside d K m l))))
      (λ i li. let h : i < m = rw (part_length d l) at li in
      chunk_at m d _ i h ∙ go i h o ∙ sym (chunk_at m d s i h))
    where
      go : (i : ℕ) → i < m → (d < j) ⊎ (j < d) → get_or (put (j * m) m s ys) (d * m + i) 0 ≡ get_or s (d * m + i) 0
      go i h (inl g) = put_before (j * m) m s ys room size (d * m + i) (omega (arith, chunk_inside d j m g))
      go i h (inr g) = put_after (j * m) m s ys room size (d * m + i) (omega (arith, mul-le-mul_right m g, suc-mul j m))

-- After j turns: R holds of the first j parts, and the others are as they were.
pub record Turned (m K j : ℕ) (R : ℕ → List ℕ → List ℕ → Type 0) (a c : List ℕ) : Type 0 where
  pub size : length a ≡ K * m
  pub len : length c ≡ length a
  pub done : (d : ℕ) → d < j → R d (chunk m d a) (chunk m d c)
  pub rest : (d : ℕ) → j ≤ d → d < K → chunk m d c ≡ chunk m d a

pub turned_none : (m K : ℕ) (R : ℕ → List ℕ → List ℕ → Type 0) (a : List ℕ) → length a ≡ K * m → Turned m K 0 R a a
turned_none m K R a e = record { size = e; len = refl; done = λ d l. let f : ⊥ = omega arith in absurd f; rest = λ d l g. refl }

module _ (m K j p q : ℕ) (R : ℕ → List ℕ → List ℕ → Type 0) (a c : List ℕ) (T : Turned m K j R a c) (lj : j < K) (ep : p ≡ j * m) (eq : q ≡ m) where
  -- The part that is lent: it is not yet changed.
  pub lent_part : take q (drop p c) ≡ chunk m j a
  lent_part = rw (ep, eq) (T.rest j (omega arith) lj)

  pub lent_length : length (take q (drop p c)) ≡ m
  lent_length = rw lent_part (length_chunk m j a (omega (arith, T.size, chunk_inside j K m lj)))

  -- What holds of every element of the list holds of those of the part.
  pub lent_all : (P : ℕ → Type 0) → ((i : ℕ) → i < length a → P (get_or a i 0)) → (i : ℕ) → i < length (take q (drop p c)) → P (get_or (take q (drop p c)) i 0)
  lent_all P h i l =
      let li : i < m = rw lent_length at l in
      subst (λ s. P (get_or s i 0)) (sym lent_part) (subst P (sym (chunk_at m j a i li)) (h (j * m + i) (omega (arith, T.size, chunk_inside j K m lj))))

  -- One turn more: part j comes back as ys.
  pub turned_more : (ys : List ℕ) → length ys ≡ m → R j (take q (drop p c)) ys → Turned m K (j + 1) R a (take p c ++ (ys ++ drop q (drop p c)))
  turned_more ys l r = rw (ep, eq) (record {
    size = T.size;
    len = put_length (j * m) m c ys inside l ∙ T.len;
    done = λ d g. done d (eq-or-lt_of_le (le_of_suc-le-suc (rw (add-one j) at g)));
    rest = λ d g f. part_other m j K c ys few lj l d f (inr (omega arith)) ∙ T.rest d (omega arith) f;
  })
    where
      few : length c ≡ K * m
      few = T.len ∙ T.size

      inside : j * m + m ≤ length c
      inside = omega (arith, chunk_inside j K m lj, few)

      done : (d : ℕ) → (d ≡ j) ⊎ (d < j) → R d (chunk m d a) (chunk m d (put (j * m) m c ys))
      done d (inl e) = rw (e, part_same m j K c ys few lj l) (rw lent_part at r)
      done d (inr g) = rw (part_other m j K c ys few lj l d (omega arith) (inl g)) (T.done d g)

-- Element i of a list of K parts, as one of part i / m.
pub in_part : (m K i : ℕ) (l : List ℕ) → 0 < m → length l ≡ K * m → i < length l
    → (i / m < K) × (i % m < m) × (get_or (chunk m (i / m) l) (i % m) 0 ≡ get_or l i 0)
in_part m K i l pos e li =
    let f : i / m * m + i % m ≡ i = omega (arith, mod-add-div' i m) in
    let lm : i % m < m = mod-lt i pos in
    ((div-lt_iff_lt-mul pos).1 (omega arith), lm, chunk_at m (i / m) l (i % m) lm ∙ ap (λ j. get_or l j 0) f)

-- Polynomial c of k + 1 lies inside, in words and in bytes.
pub column_inside : (c k m size a b : ℕ) → size ≡ m → c < suc k → a ≡ suc k * m → b ≡ 4 * (suc k * m)
    → (c * size + size ≤ a) × (4 * (c * size) + 4 * size ≤ b)
column_inside c k m size a b e l ha hb =
    rw (e, ha, hb) (chunk_inside c (suc k) m l, let h = chunk_inside c (suc k) m l in omega arith)
