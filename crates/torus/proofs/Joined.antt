-- Lists made up of parts of one length, and what a loop makes that writes one part a turn.
-- Assumes nothing.
use Rattle.std.proofs.Common.{◌≡◌, ℕ, zero, suc, ◌+◌, ◌*◌, ◌<◌, ◌≤◌, ◌⊎◌, List, ◌++◌, length, get_or, take, drop, sym, refl, ap, ◌∙◌, ap₂, inl, inr, append_assoc, append-nil, le_of_suc-le-suc, mul-le-mul_right, suc-mul, eq-or-lt_of_le, zero-mul, add-one, arith, length-append, length-drop, drop_of_length-le, length-take, length-take-le, get_or-drop, get_or-take, drop-drop, take_at, get_or-append-add, ext_get_or, take-add, drop_at}
use lib.ListN.{get_or-append}
use lib.Seq.{take-append-le, drop-append-le}
use Rattle.torus.specs.Sum.{joined, chunk}
use Rattle.torus.specs.Bytes.{words}
use Rattle.torus.proofs.Lists.{append_below, all_below}
use Rattle.torus.proofs.Parts.{words_lent, words_back}

-- Part c of n lies inside.
pub chunk_inside : (c n m : ℕ) → c < n → c * m + m ≤ n * m
chunk_inside c n m l = omega (arith, mul-le-mul_right m l, suc-mul c m)

-- An element of a part.
pub chunk_at : (m c : ℕ) (l : List ℕ) (i : ℕ) → i < m → get_or (chunk m c l) i 0 ≡ get_or l (c * m + i) 0
chunk_at m c l i h = get_or-take m (drop (c * m) l) i 0 h ∙ get_or-drop (c * m) l i 0

pub length_chunk : (m c : ℕ) (l : List ℕ) → c * m + m ≤ length l → length (chunk m c l) ≡ m
length_chunk m c l h = length-take-le m (drop (c * m) l) (omega (arith, length-drop (c * m) l))

-- A part of a list has no greater elements.
pub chunk_below : (m n c : ℕ) (l : List ℕ) → 0 < m → ((i : ℕ) → get_or l i 0 < m) → (i : ℕ) → get_or (chunk n c l) i 0 < m
chunk_below m n c l some below =
    all_below m (chunk n c l) some
    (λ i h. let inside : i < n = omega (arith, length-take n (drop (c * n) l)) in rw (chunk_at n c l i inside) (below (c * n + i)))

-- A part that lies in the first of two lists.
pub chunk_append : (m c : ℕ) (l r : List ℕ) → c * m + m ≤ length l → chunk m c (l ++ r) ≡ chunk m c l
chunk_append m c l r h =
    let room : m ≤ length (drop (c * m) l) = omega (arith, length-drop (c * m) l) in
    ap (take m) (drop-append-le (c * m) l r (omega arith)) ∙ take-append-le m (drop (c * m) l) r room

-- A part of the words, lent as bytes.
pub words_chunk : (m c : ℕ) (s : List ℕ) → words (chunk (4 * m) c s) ≡ chunk m c (words s)
words_chunk m c s = words_lent (c * m) m (c * (4 * m)) (4 * m) s (omega arith) refl

-- Parts of one length, as far as the n-th.
abbrev pub Each : (n m : ℕ) → (ℕ → List ℕ) → Type 0
Each n m f = (c : ℕ) → c < n → length (f c) ≡ m

pub length_joined : (n m : ℕ) (f : ℕ → List ℕ) → Each n m f → length (joined n f) ≡ n * m
unfolding joined
length_joined zero m f h = sym (zero-mul m)
length_joined (suc n) m f h =
    length-append (joined n f) (f n)
    ∙ ap₂ ◌+◌ (length_joined n m f (λ c l. h c (omega arith))) (h n (omega arith)) ∙ sym (suc-mul n m)

pub joined_cong : (n : ℕ) (f g : ℕ → List ℕ) → ((c : ℕ) → c < n → f c ≡ g c) → joined n f ≡ joined n g
unfolding joined
joined_cong zero f g h = refl
joined_cong (suc n) f g h = ap₂ ◌++◌ (joined_cong n f g (λ c l. h c (omega arith))) (h n (omega arith))

joined_last : (n m : ℕ) (f : ℕ → List ℕ) → length (joined n f) ≡ n * m → (c i : ℕ) → (c < n → get_or (joined n f) (c * m + i) 0 ≡ get_or (f c) i 0)
    → i < m → (c ≡ n) ⊎ (c < n) → get_or (joined n f ++ f n) (c * m + i) 0 ≡ get_or (f c) i 0
joined_last n m f size c i ih li (inl e) =
    rw e (ap (λ k. get_or (joined n f ++ f n) (k + i) 0) (sym size) ∙ get_or-append-add (joined n f) (f n) i 0)
joined_last n m f size c i ih li (inr l) =
    get_or-append (joined n f) (f n) 0 (c * m + i) (omega (arith, chunk_inside c n m l, size)) ∙ ih l

-- Element i of part c.
pub joined_at : (n m : ℕ) (f : ℕ → List ℕ) → Each n m f → (c i : ℕ) → c < n → i < m → get_or (joined n f) (c * m + i) 0 ≡ get_or (f c) i 0
unfolding joined
joined_at zero m f h c i lc li = absurd (omega arith)
joined_at (suc n) m f h c i lc li =
    let each : Each n m f = λ d l. h d (omega arith) in
    joined_last n m f (length_joined n m f each) c i (λ l. joined_at n m f each c i l li) li (eq-or-lt_of_le (le_of_suc-le-suc lc))

-- Part c.
pub chunk_joined : (n m : ℕ) (f : ℕ → List ℕ) → Each n m f → (c : ℕ) → c < n → chunk m c (joined n f) ≡ f c
chunk_joined n m f each c l =
    let size : length (chunk m c (joined n f)) ≡ m =
    length_chunk m c (joined n f) (omega (arith, chunk_inside c n m l, length_joined n m f each)) in
    ext_get_or 0 _ _ (size ∙ sym (each c l))
    (λ i h. let li : i < m = omega arith in chunk_at m c (joined n f) i li ∙ joined_at n m f each c i l li)

-- The first n parts of a list make up its front.
pub joined_chunks : (n m : ℕ) (l : List ℕ) → joined n (λ c. chunk m c l) ≡ take (n * m) l
unfolding joined
joined_chunks zero m l = ap (λ k. take k l) (sym (zero-mul m))
joined_chunks (suc n) m l =
    ap (λ f. f ++ chunk m n l) (joined_chunks n m l) ∙ sym (take-add (n * m) m l) ∙ ap (λ k. take k l) (sym (suc-mul n m))

pub joined_below : (m n : ℕ) (f : ℕ → List ℕ) → 0 < m → ((c i : ℕ) → get_or (f c) i 0 < m) → (i : ℕ) → get_or (joined n f) i 0 < m
unfolding joined
joined_below m zero f z h i = z
joined_below m (suc n) f z h i = append_below m (joined n f) (f n) (joined_below m n f z h) (h n) i

-- ---- loops

-- l with its first n parts of m elements replaced by f 0 to f (n - 1).
abbrev pub Written : (m n : ℕ) (f : ℕ → List ℕ) (l out : List ℕ) → Type 0
Written m n f l out = out ≡ joined n f ++ drop (n * m) l

pub written_none : (m : ℕ) (f : ℕ → List ℕ) (l : List ℕ) → Written m 0 f l l
unfolding joined
written_none m f l = ap (λ k. drop k l) (sym (zero-mul m))

-- All parts are replaced.
pub written_all : (m n : ℕ) (f : ℕ → List ℕ) (l out : List ℕ) → length l ≡ n * m → Written m n f l out → out ≡ joined n f
written_all m n f l out e h =
    let none : length l ≤ n * m = omega arith in
    h ∙ ap (λ t. joined n f ++ t) (drop_of_length-le l none) ∙ append-nil (joined n f)

module _ (m n p q : ℕ) (f : ℕ → List ℕ) (l s : List ℕ) (each : Each n m f) (h : Written m n f l (words s)) (ep : p ≡ 4 * (n * m)) (eq : q ≡ 4 * m) where
  rest : drop (n * m) (words s) ≡ drop (n * m) l
  rest = ap (drop (n * m)) h ∙ drop_at (joined n f) _ (n * m) (length_joined n m f each)

  -- What is read of part n, lent as bytes from p on: it is not yet replaced.
  pub written_lent : words (take q (drop p s)) ≡ chunk m n l
  written_lent = words_lent (n * m) m p q s ep eq ∙ ap (take m) rest

  -- One turn more: part n comes back as ys.
  pub written_more : (ys : List ℕ) → p ≤ length s → length ys ≡ q → words ys ≡ f n
      → Written m (n + 1) f l (words (take p s ++ (ys ++ drop q (drop p s))))
  unfolding joined
  written_more ys inside len e = rw (add-one n)
      (words_back (n * m) m p q s ys ep eq inside len
      ∙ ap₂ ◌++◌ (ap (take (n * m)) h ∙ take_at (joined n f) _ (n * m) (length_joined n m f each))
      (ap₂ ◌++◌ e (ap (drop m) rest ∙ drop-drop m (n * m) l ∙ ap (λ k. drop k l) (sym (suc-mul n m))))
      ∙ sym (append_assoc (joined n f) (f n) (drop (suc n * m) l)))
