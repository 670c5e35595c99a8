-- The limits on the base and the number of digits, as facts and as a test.
-- Assumes nothing.
use mathlib.Core.Path.{◌≡◌}
use mathlib.Core.Bool.{true, false}
use Prim.Native.Nat.{ℕ, ◌*◌, ◌≤◌}
use native.Mathlib.Nat.{mul-le-mul_left, mul-le-mul_right, one-mul, mul-one}
use native.Mathlib.Omega.{arith}
use lib.Dec.{leb}
use borrow.Author.Tests.{leb-true, le-leb}
use Rattle.torus.proofs.Tests.{both, refuted}
use Rattle.gadget.specs.Digits.{Lawful, is_lawful}

pub test_lawful : (g L : ℕ) → is_lawful g L ≡ true → Lawful g L
test_lawful g L e =
    let p = both (leb 1 g) _ e in
    let q = both (leb g 16) _ p.1 in
    let r = both (leb 1 L) _ q.1 in
    record {
      low = leb-true 1 g p.0;
      high = leb-true g 16 q.0;
      some = leb-true 1 L r.0;
      room = leb-true (g * L) 32 r.1;
    }

pub lawful_test : (g L : ℕ) → Lawful g L → is_lawful g L ≡ true
lawful_test g L ok = simp (le-leb 1 g ok.low, le-leb g 16 ok.high, le-leb 1 L ok.some, le-leb (g * L) 32 ok.room)

-- Past the other limits the room decides.
pub room_only : (g L : ℕ) → 1 ≤ g → g ≤ 16 → 1 ≤ L → leb (g * L) 32 ≡ is_lawful g L
room_only g L l h s = simp (le-leb 1 g l, le-leb g 16 h, le-leb 1 L s)

-- What is not lawful fails the test.
pub refused : (g L : ℕ) → (Lawful g L → ⊥) → false ≡ is_lawful g L
refused g L never = refuted (is_lawful g L) (test_lawful g L) never

-- There are at most 32 digits.
pub count_le : (g L : ℕ) → Lawful g L → L ≤ 32
count_le g L ok = omega (arith, mul-le-mul_right L ok.low, one-mul L, ok.room)

-- A place takes up at least the bits of one digit.
pub base_le : (g j : ℕ) → 1 ≤ j → g ≤ g * j
base_le g j h = omega (arith, mul-le-mul_left g h, mul-one g)
