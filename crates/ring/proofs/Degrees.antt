-- A degree as a fact and as a test, and the power of two that it is.
-- Assumes nothing.
use mathlib.Core.Path.{◌≡◌, refl, ap, ◌∙◌}
use mathlib.Core.Bool.{true}
use mathlib.Core.Logic.{◌⊎◌, inl, inr, ⊎_elim}
use Prim.Native.Nat.{ℕ, zero, suc, ◌+◌, ◌*◌, ◌/◌, ◌%◌, ◌^◌, ◌≤◌, ◌<◌}
use native.Mathlib.Nat.{pow-succ', eq-zero-or-pos, lt_of_le_of_lt, lt_of_not-le}
use native.Mathlib.Decide.{dec_le}
use native.Mathlib.Omega.{arith}
use lib.Count.{ones, ones_in, count_trailing_zeros, ones_step}
use lib.Dec.{eqb, lit<}
use lib.Pow.{pow_pos, pow_mono}
use borrow.Author.Tests.{leb-true, eqb-true, le-leb, eq-eqb}
use Rattle.torus.proofs.Tests.{both}
use Rattle.ring.specs.Polynomial.{Degree, is_degree, log}

pub test_degree : (N : ℕ) → is_degree N ≡ true → Degree N
test_degree N e =
    let p = both (eqb (ones N) 1) _ e in
    record { power = eqb-true (ones N) 1 p.0; most = leb-true N 1024 p.1 }

pub degree_test : (N : ℕ) → Degree N → is_degree N ≡ true
degree_test N ok = simp (eq-eqb (ones N) 1 ok.power, le-leb N 1024 ok.most)

-- ---- one set bit

parity : (x : ℕ) → (x % 2 ≡ 0) ⊎ (x % 2 ≡ 1)
parity x = ⊎_elim (λ e. inl e) (λ p. let h : x % 2 ≡ 1 = omega arith in inr h) (eq-zero-or-pos (x % 2))

ones_zero : ones 0 ≡ 0
unfolding ones ones_in
ones_zero = refl

none_set : (k x : ℕ) → x < 2 ^ k → ones x ≡ 0 → x ≡ 0
none_set zero x h e = omega arith
none_set (suc k) x h e =
    let r : x / 2 ≡ 0 = none_set k (x / 2) (omega (arith, pow-succ' 2 k)) (omega (arith, ones_step x)) in
    omega (arith, ones_step x)

-- A number with one set bit is the power of two that its trailing zeros tell.
pub one_set : (k x : ℕ) → x < 2 ^ k → ones x ≡ 1 → x ≡ 2 ^ count_trailing_zeros k x
unfolding count_trailing_zeros
one_set zero x h e =
    let z : x ≡ 0 = omega arith in
    let o : ones x ≡ 0 = ap ones z ∙ ones_zero in
    absurd (omega arith)
one_set (suc k) x h e =
    let s : ones x ≡ x % 2 + ones (x / 2) = ones_step x in
    let p : 2 ^ suc k ≡ 2 * 2 ^ k = pow-succ' 2 k in
    ⊎_elim
    (λ (z : x % 2 ≡ 0).
    let r : x / 2 ≡ 2 ^ count_trailing_zeros k (x / 2) = one_set k (x / 2) (omega arith) (omega arith) in
    rw z (omega (arith, pow-succ' 2 (count_trailing_zeros k (x / 2)))))
    (λ (z : x % 2 ≡ 1). let r : x / 2 ≡ 0 = none_set k (x / 2) (omega arith) (omega arith) in rw z (omega arith))
    (parity x)

-- "a power of two from 1 to 1,024"
pub degree_power : (N : ℕ) → Degree N → N ≡ 2 ^ count_trailing_zeros 64 N
degree_power N ok = one_set 64 N (lt_of_le_of_lt ok.most (lit< tt)) ok.power

pub degree_pos : (N : ℕ) → Degree N → 0 < N
degree_pos N ok = omega (arith, degree_power N ok, pow_pos (count_trailing_zeros 64 N))

-- The exponent of a degree is at most 10.
pub exponent_few : (N : ℕ) → Degree N → log N ≤ 10
exponent_few N D = go (dec_le (log N) 10)
  where
    go : Dec (log N ≤ 10) → log N ≤ 10
    go (yes g) = g
    go (no g) =
        let l : 11 ≤ log N = lt_of_not-le g in
        let f : ⊥ = omega (arith, pow_mono {i = 11} {j = log N} l, degree_power N D, D.most) in absurd f
