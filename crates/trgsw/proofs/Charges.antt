-- The greatest sizes and the greatest charge, so that 64 bits hold them and their parts.
-- Assumes nothing.
use Prim.Native.Nat.{ℕ, suc, ◌+◌, ◌*◌, ◌^◌, ◌≤◌}
use native.Mathlib.Nat.{mul-le-mul}
use native.Mathlib.Omega.{arith}
use Rattle.gadget.specs.Digits.{half, precision}
use Rattle.gadget.proofs.Bounds.{count_le}
use Rattle.gadget.proofs.Laws.{halves_le}
use Rattle.gadget.proofs.Rounding.{precision_le}
use Rattle.trgsw.specs.declared.Parameters.{Parameters}
use Rattle.trgsw.specs.Parameters.{Sized, sample_size, row_count, block_size}
use Rattle.trgsw.specs.External.{charge}

module _ (p : Parameters) (ok : Sized p) where
  -- The sizes.
  polynomials_le : suc p.k ≤ 5
  polynomials_le = omega (arith, ok.masks)

  pub sample_size_le : sample_size p ≤ 5120
  sample_size_le = mul-le-mul polynomials_le ok.degree

  pub rows_le : row_count p ≤ 160
  rows_le = mul-le-mul polynomials_le (count_le p.g p.L ok.gadget)

  pub block_size_le : block_size p ≤ 819200
  block_size_le = omega (arith, mul-le-mul rows_le sample_size_le)

  -- The products of the first term of a charge, from the left on.
  pub words_le : row_count p * p.N ≤ 163840
  words_le = mul-le-mul rows_le ok.degree

  pub digits_le : row_count p * p.N * half p.g ≤ 335544320
  digits_le =
      let halves : p.L * half p.g * p.N ≤ 2 ^ 16 * 1024 = mul-le-mul (halves_le p.g p.L ok.gadget) ok.degree in
      omega (arith, mul-le-mul polynomials_le halves)

  pub noise_le : (A : ℕ) → A ≤ 2 ^ 31 → row_count p * p.N * half p.g * A ≤ 5 * 2 ^ 57
  noise_le A small = mul-le-mul digits_le small

  -- The second term.
  pub rounding_le : (1 + p.W) * precision p.g p.L ≤ 4097 * 2 ^ 31
  rounding_le = let h : 1 + p.W ≤ 4097 = omega (arith, ok.weight) in mul-le-mul h (precision_le p.g p.L)

  pub charge_le : (A : ℕ) → A ≤ 2 ^ 31 → charge p A ≤ 5 * 2 ^ 57 + 4097 * 2 ^ 31
  unfolding charge
  charge_le A small = omega (arith, noise_le A small, rounding_le)
