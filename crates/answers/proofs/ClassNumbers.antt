-- A number of classes as a fact and as a test, the power of two that it is, and the band of a class.
-- Assumes nothing.
use mathlib.Core.Path.{◌≡◌, ap, sym, ◌∙◌}
use mathlib.Core.Bool.{true}
use Prim.Native.Nat.{ℕ, ◌+◌, ◌-◌, ◌*◌, ◌/◌, ◌^◌, ◌≤◌, ◌<◌}
use native.Mathlib.Nat.{lt_of_le_of_lt, lt_of_not-le, div-eq_of_eq-mul_right}
use native.Mathlib.Decide.{dec_le}
use native.Mathlib.Omega.{arith}
use lib.Count.{ones, count_trailing_zeros}
use lib.Dec.{eqb, leb, lit<}
use lib.Pow.{pow-add, pow_pos, pow_mono}
use borrow.Author.Tests.{leb-true, eqb-true, le-leb, eq-eqb}
use Rattle.torus.proofs.Tests.{both}
use Rattle.ring.proofs.Degrees.{one_set}
use Rattle.answers.specs.Checks.{ClassNumber, is_class_number}

pub test_class_number : (M : ℕ) → is_class_number M ≡ true → ClassNumber M
test_class_number M e =
    let p = both (eqb (ones M) 1) _ e in
    let q = both (leb 2 M) _ p.1 in
    record { power = eqb-true (ones M) 1 p.0; least = leb-true 2 M q.0; most = leb-true M 65536 q.1 }

pub class_number_test : (M : ℕ) → ClassNumber M → is_class_number M ≡ true
class_number_test M ok = simp (eq-eqb (ones M) 1 ok.power, le-leb 2 M ok.least, le-leb M 65536 ok.most)

module _ (M : ℕ) (ok : ClassNumber M) where
  -- "a power of two from 2 to 65,536"
  pub class_power : M ≡ 2 ^ count_trailing_zeros 64 M
  class_power = one_set 64 M (lt_of_le_of_lt ok.most (lit< tt)) ok.power

  exponent_le : count_trailing_zeros 64 M ≤ 16
  exponent_le = go (dec_le (count_trailing_zeros 64 M) 16)
    where
      go : Dec (count_trailing_zeros 64 M ≤ 16) → count_trailing_zeros 64 M ≤ 16
      go (yes h) = h
      go (no n) =
          let big : 2 ^ 17 ≤ 2 ^ count_trailing_zeros 64 M = pow_mono {i = 17} (lt_of_not-le n) in
          absurd (omega (arith, class_power, ok.most))

  -- Half of the torus is M halves of a band.
  half_power : 2 ^ 31 ≡ M * 2 ^ (31 - count_trailing_zeros 64 M)
  half_power =
      let v : ℕ = count_trailing_zeros 64 M in
      let e : 31 ≡ v + (31 - v) = omega (arith, exponent_le) in
      ap (λ k. 2 ^ k) e ∙ pow-add 2 v (31 - v) ∙ ap (λ x. x * 2 ^ (31 - v)) (sym class_power)

  half_is : 2 ^ 31 / M ≡ 2 ^ (31 - count_trailing_zeros 64 M)
  half_is = let some : 0 < M = omega (arith, ok.least) in div-eq_of_eq-mul_right some half_power

  -- A band has two halves of at least one word.
  pub half_some : 1 ≤ 2 ^ 31 / M
  half_some = rw half_is (pow_pos (31 - count_trailing_zeros 64 M))

  two_halves : 2 ^ 32 ≡ M * (2 ^ 31 / M + 2 ^ 31 / M)
  two_halves = let half : 2 ^ 31 ≡ M * (2 ^ 31 / M) = half_power ∙ ap (λ x. M * x) (sym half_is) in omega arith

  -- The two halves of a band.
  pub half_band : 2 ^ 32 / M ≡ 2 ^ 31 / M + 2 ^ 31 / M
  half_band = let some : 0 < M = omega (arith, ok.least) in div-eq_of_eq-mul_right some two_halves

  -- M bands make up the torus.
  pub band : M * (2 ^ 32 / M) ≡ 2 ^ 32
  band = ap (λ x. M * x) half_band ∙ sym two_halves
