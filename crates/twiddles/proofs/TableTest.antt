-- What the transforms ask of a prime's tables: one test, which antt computes for each prime, and laws that read it.
-- Assumes nothing.
use mathlib.Core.Path.{◌≡◌, refl, sym, subst, ◌∙◌}
use mathlib.Core.Bool.{Bool, true, false, ◌&&◌}
use mathlib.Core.List.{List, [], ◌∷◌}
use mathlib.Core.Logic.{⊎_elim}
use Prim.Native.Nat.{ℕ, zero, suc, ◌+◌, ◌*◌, ◌-◌, ◌/◌, ◌%◌, ◌^◌, ◌≤◌, ◌<◌}
use native.Mathlib.Nat.{add-zero, zero-add, add-suc, suc-add, le_of_suc-le-suc, not-suc-le-zero, eq-or-lt_of_le, mod-eq_of_lt}
use native.Mathlib.Omega.{arith}
use lib.Dec.{T, ltb, eqb, ltb→lt, eqb→eq}
use lib.ListN.{length, get_or, drop}
use lib.Pow.{pow_mono}
use lib.Seq.{get_or-drop}
use mir.Facts.{and_yes}
use Rattle.butterflies.specs.Same.{Same}
use Rattle.ntt.specs.Nodes.{signed}
use Rattle.butterflies.specs.Butterflies.{Ready}
use Rattle.ntt.specs.Transforms.{Twiddles}
use Rattle.butterflies.proofs.SameLaws.{eq_same}
use Rattle.twiddles.specs.Primes.{P1, P2, modulus}
use Rattle.twiddles.specs.declared.Prime.{Prime}
use Rattle.twiddles.specs.declared.Prime.TheVariants.{First, Second}
use Rattle.twiddles.specs.Tables.{t1, q1, w1, v1, t2, q2, w2, v2, roots_of, quotients_of, scales_of, scale_quotients_of}

-- The test f passes at each number below n.
abbrev pub all_below : ℕ → (ℕ → Bool) → Bool
all_below zero f = true
all_below (suc n) f = f n && all_below n f

below : (f : ℕ → Bool) (n : ℕ) → T (all_below n f) → (i : ℕ) → i < n → T (f i)
below f zero h i l = absurd (not-suc-le-zero l)
below f (suc n) h i l =
    ⊎_elim
    (λ e. subst (λ k. T (f k)) (sym e) (and_yes (f n) (all_below n f) h).0)
    (below f n (and_yes (f n) (all_below n f) h).1 i)
    (eq-or-lt_of_le (le_of_suc-le-suc l))

-- The test f passes at each place, counted from i, of two lists of one length. To walk the lists is cheaper than to look each place up.
abbrev pub every : (ℕ → ℕ → ℕ → Bool) → ℕ → List ℕ → List ℕ → Bool
every f i [] [] = true
every f i [] (y ∷ ys) = false
every f i (x ∷ xs) [] = false
every f i (x ∷ xs) (y ∷ ys) = f i x y && every f (suc i) xs ys

from : (f : ℕ → ℕ → ℕ → Bool) (xs ys : List ℕ) (i : ℕ) → T (every f i xs ys) → (k : ℕ) → k < length xs
    → T (f (i + k) (get_or xs k 0) (get_or ys k 0))
from f [] ys i h k l = absurd (not-suc-le-zero l)
from f (x ∷ xs) [] i h k l = absurd h
from f (x ∷ xs) (y ∷ ys) i h zero l = rw (add-zero i) (and_yes (f i x y) (every f (suc i) xs ys) h).0
from f (x ∷ xs) (y ∷ ys) i h (suc k) l =
    rw (add-suc i k, ← suc-add i k) (from f xs ys (suc i) (and_yes (f i x y) (every f (suc i) xs ys) h).1 k (le_of_suc-le-suc l))

at : (f : ℕ → ℕ → ℕ → Bool) (xs ys : List ℕ) → T (every f 0 xs ys) → (k : ℕ) → k < length xs → T (f k (get_or xs k 0) (get_or ys k 0))
at f xs ys h k l = rw (zero-add k) at (from f xs ys 0 h k l)

-- x is below p, and v is its quotient.
abbrev pub is_ready : (p x v : ℕ) → Bool
is_ready p x v = ltb x p && eqb v (x * 4294967296 / p)

-- Root i: its square is root i / 2, or minus that at an odd i.
abbrev pub is_root : (p : ℕ) (t : List ℕ) (i x : ℕ) → Bool
is_root p t i x = eqb (x * x % p) (signed (p - 1) (i % 2) (get_or t (i / 2) 0) % p)

abbrev pub is_twiddle : (p : ℕ) (t : List ℕ) (i x v : ℕ) → Bool
is_twiddle p t i x v = is_ready p x v && is_root p t i x

-- Numbers j and m - 1 - j of u multiply to minus one.
abbrev pub is_mirrored : (p m : ℕ) (u : List ℕ) (j : ℕ) → Bool
is_mirrored p m u j = eqb (get_or u (m - suc j) 0 * get_or u j 0 % p) (p - 1)

-- Level d of the roots, which begins at place 2^d.
abbrev pub is_level : (p : ℕ) (t : List ℕ) (d : ℕ) → Bool
is_level p t d = all_below (2 ^ d) (is_mirrored p (2 ^ d) (drop (2 ^ d) t))

-- The inverse of 2^n.
abbrev pub is_scale : (p n x v : ℕ) → Bool
is_scale p n x v = is_ready p x v && eqb (2 ^ n * x % p) 1

-- What is tested of a prime's tables.
record Right (p : ℕ) (t q w v : List ℕ) : Type 0 where
  pos : 1 < p
  small : p < 1073741824
  roots : length t ≡ 1024
  quotients : length q ≡ 1024
  scales : length w ≡ 11
  each_root : T (every (is_twiddle p t) 0 t q)
  each_level : T (all_below 10 (is_level p t))
  each_scale : T (every (is_scale p) 0 w v)

right1 : Right P1 t1 q1 w1 v1
unfolding t1 q1 w1 v1 signed
right1 =
    record { pos = omega arith; small = omega arith; roots = refl; quotients = refl; scales = refl; each_root = tt; each_level = tt; each_scale = tt }

right2 : Right P2 t2 q2 w2 v2
unfolding t2 q2 w2 v2 signed
right2 =
    record { pos = omega arith; small = omega arith; roots = refl; quotients = refl; scales = refl; each_root = tt; each_level = tt; each_scale = tt }

-- What the tests say.
module _ {p : ℕ} {t q w v : List ℕ} (r : Right p t q w v) where
  ready : (x y : ℕ) → T (is_ready p x y) → Ready p x y
  ready x y h =
      let g = and_yes (ltb x p) (eqb y (x * 4294967296 / p)) h in
      record { low = ltb→lt _ _ g.0; small = r.small; quotient = eqb→eq _ _ g.1 }

  twiddle : (i : ℕ) → i < 1024 → Ready p (get_or t i 0) (get_or q i 0) × Same p (get_or t i 0 * get_or t i 0) (signed (p - 1) (i % 2) (get_or t (i / 2) 0))
  twiddle i l =
      let x = get_or t i 0 in
      let y = get_or q i 0 in
      let g = and_yes (is_ready p x y) (is_root p t i x) (at (is_twiddle p t) t q r.each_root i (omega (arith, r.roots))) in
      (ready x y g.0, eq_same (eqb→eq _ _ g.1))

  mirrored : (d j : ℕ) → d < 10 → j < 2 ^ d → Same p (get_or t (2 ^ d + (2 ^ d - suc j)) 0 * get_or t (2 ^ d + j) 0) (p - 1)
  mirrored d j few l =
      let m = 2 ^ d in
      let h : get_or (drop m t) (m - suc j) 0 * get_or (drop m t) j 0 % p ≡ p - 1 =
      eqb→eq _ _ (below (is_mirrored p m (drop m t)) m (below (is_level p t) 10 r.each_level d few) j l) in
      eq_same (rw (get_or-drop m t (m - suc j) 0, get_or-drop m t j 0) at h ∙ sym (mod-eq_of_lt (omega (arith, r.pos))))

  -- Root 1 is its own mirror, hence a root of minus one.
  twiddles : (n : ℕ) → n ≤ 10 → Twiddles p n t q
  twiddles n few =
      let most : 2 ^ n ≤ 1024 = pow_mono few in
      record {
        table = record {
          long = omega (arith, most, r.roots);
          longq = omega (arith, most, r.quotients);
          small = r.small;
          pos = omega (arith, r.pos);
          ready = λ i l h. (twiddle i (omega (arith, most))).0;
        };
        rooted = record { first = λ l. mirrored 0 0 (omega arith) (omega arith); next = λ i l h. (twiddle i (omega (arith, most))).1 };
        mirrored = λ d j l h. mirrored d j (omega arith) h;
      }

  scale : (n : ℕ) → n ≤ 10 → Ready p (get_or w n 0) (get_or v n 0) × Same p (2 ^ n * get_or w n 0) 1
  scale n few =
      let x = get_or w n 0 in
      let y = get_or v n 0 in
      let g = and_yes (is_ready p x y) (eqb (2 ^ n * x % p) 1) (at (is_scale p) w v r.each_scale n (omega (arith, r.scales))) in
      (ready x y g.0, eq_same (eqb→eq _ _ g.1 ∙ sym (mod-eq_of_lt r.pos)))

-- What is known of a prime and its tables.
pub record Lawful (prime : Prime) (n : ℕ) : Type 0 where
  pub big : 4294967296 ≤ 6 * modulus prime
  pub twiddles : Twiddles (modulus prime) n (roots_of prime) (quotients_of prime)
  pub ready : Ready (modulus prime) (get_or (scales_of prime) n 0) (get_or (scale_quotients_of prime) n 0)
  pub inverse : Same (modulus prime) (2 ^ n * get_or (scales_of prime) n 0) 1

pub lawful : (prime : Prime) (n : ℕ) → n ≤ 10 → Lawful prime n
unfolding roots_of quotients_of scales_of scale_quotients_of
lawful First n few = record {
  big = omega arith;
  twiddles = twiddles right1 n few;
  ready = (scale right1 n few).0;
  inverse = (scale right1 n few).1;
}
lawful Second n few = record {
  big = omega arith;
  twiddles = twiddles right2 n few;
  ready = (scale right2 n few).0;
  inverse = (scale right2 n few).1;
}

-- The same of tables that were handed out, which are known by equations.
pub handed : (prime : Prime) {n p : ℕ} {t q : List ℕ} → p ≡ modulus prime → t ≡ roots_of prime → q ≡ quotients_of prime → n ≤ 10
    → Twiddles p n t q × (4294967296 ≤ 6 * p)
handed prime {n} e f g few = rw (e, f, g) ((lawful prime n few).twiddles, (lawful prime n few).big)

pub handed_scale : (prime : Prime) {n p w v : ℕ} {ws vs : List ℕ} → p ≡ modulus prime → ws ≡ scales_of prime → vs ≡ scale_quotients_of prime
    → w ≡ get_or ws n 0 → v ≡ get_or vs n 0 → n ≤ 10 → Ready p w v × Same p (2 ^ n * w) 1
handed_scale prime {n} e f g i j few = rw (i, j, e, f, g) ((lawful prime n few).ready, (lawful prime n few).inverse)
