-- The product by a constant, by its quotient made beforehand.
-- Assumes nothing.
use Prim.Native.Nat.{ℕ, ◌+◌, ◌*◌, ◌-◌, ◌/◌, ◌≤◌, ◌<◌}
use native.Mathlib.Nat.{mul-le-mul_right, mul-le-mul_left, le_of_mul-le-mul_right, div-mul-le_self, lt-div-mul-add, lt_of_not-le}
use native.Mathlib.Omega.{arith}
use Rattle.butterflies.specs.Same.{Same}
use Rattle.butterflies.specs.Butterflies.{Ready}

module _ {p w v : ℕ} (h : Ready p w v) where
  pub quotient_le : v * p ≤ w * 4294967296
  quotient_le = rw h.quotient (div-mul-le_self (w * 4294967296) p)

  pub quotient_lt : w * 4294967296 < v * p + p
  quotient_lt = rw h.quotient (lt-div-mul-add (let l = h.low in omega arith))

  module _ (y : ℕ) (ly : y < 4294967296) where
    pub shoup_le : y * v / 4294967296 * p ≤ y * w
    shoup_le =
        let l : y * v / 4294967296 * 4294967296 ≤ y * v = omega arith in
        le_of_mul-le-mul_right {k = 4294967296} (omega (arith, mul-le-mul_right p l, mul-le-mul_left y quotient_le)) (omega arith)

    pub shoup_lt : y * w < y * v / 4294967296 * p + (p + p)
    shoup_lt =
        let l : y * v < y * v / 4294967296 * 4294967296 + 4294967296 = omega arith in
        lt_of_not-le (λ g. let lp = h.low in let f : ⊥ = omega (arith, mul-le-mul_right p l, mul-le-mul_left y quotient_lt, mul-le-mul_right p ly, mul-le-mul_right 4294967296 g) in f)

    pub shoup_same : Same p (y * w - y * v / 4294967296 * p) (y * w)
    shoup_same = record { s = y * v / 4294967296; t = 0; same = omega (arith, shoup_le) }
