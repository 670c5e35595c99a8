-- TRGSW blocks ("selector blocks") with k masks: (k + 1)·L TRLWE samples as rows, one after another, L rows for each mask and
-- then L for the body. Document 01 has k = 1: "A selector block has 2·L samples as rows, 4·L·N words." In the thesis (source
-- document 001) Definition 3.2.8 has them with k masks.
-- Assumes nothing.
use Rattle.std.specs.Prelude.{cond, List, ℕ, ◌*◌, ◌≤◌, ◌<◌, eqb, ltb}
use Rattle.torus.specs.Word.{sub, mul, distance}
use Rattle.gadget.specs.Digits.{step}
use Rattle.trlwe.specs.Sample.{part, phase}
use Rattle.trgsw.specs.declared.Parameters.{Parameters}
use Rattle.trgsw.specs.Parameters.{row_count}
-- The polynomial that a row is for, and its number among the rows for that polynomial.
pub use Rattle.row_terms.specs.Rows.{component, place}
use Rattle.row_terms.specs.Rows as Rows

-- Row r of a block: a sample.
abbrev pub row : (p : Parameters) (r : ℕ) (block : List ℕ) → List ℕ
row p r block = Rows.row p.N p.k r block

-- m·h_j for row r.
abbrev pub scaled_step : (p : Parameters) (m r : ℕ) → ℕ
scaled_step p m r = m * step p.g (place p.L r)

-- Word t of gadget row r. "Gadget row j (j = 1 to L) of bit m is m·h_j in the mask's constant coefficient; row L + j has m·h_j
-- in the body's."
abbrev pub gadget_row : (p : Parameters) (m r t : ℕ) → ℕ
gadget_row p m r t = cond (eqb t (component p.L r * p.N)) (scaled_step p m r) 0

-- Coefficient i of the phase that row r should have: "the phases should be -m·h_j·K and m·h_j".
unfoldable pub row_phase : (p : Parameters) (m : ℕ) (key : List ℕ) (r i : ℕ) → ℕ
row_phase p m key r i =
    cond (ltb (component p.L r) p.k)
    (sub 0 (mul (scaled_step p m r) (part p.N key (component p.L r) i)))
    (cond (eqb i 0) (scaled_step p m r) 0)

-- "The block holds m within A under K if every phase coefficient of every row is at distance at most A from it."
abbrev pub Holds : (p : Parameters) (m A : ℕ) (key block : List ℕ) → Type 0
Holds p m A key block =
    (r i : ℕ) → r < row_count p → i < p.N → distance (phase p.N p.k key (row p r block) i) (row_phase p m key r i) ≤ A
