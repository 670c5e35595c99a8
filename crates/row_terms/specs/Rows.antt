-- The rows of a block and the digit polynomials that go with them, as lists of words. A block has (k + 1)·L rows, which are samples of
-- k + 1 polynomials, L rows for each mask and then L for the body.
-- Assumes nothing.
use Rattle.std.specs.Prelude.{◌≡◌, List, ℕ, suc, ◌+◌, ◌*◌, ◌/◌, ◌%◌, get_or, length}
use Rattle.torus.specs.Sum.{chunk}
use Rattle.gadget.specs.Digits.{Lawful, digit}

-- The words of a block.
abbrev pub block_size : (N k L : ℕ) → ℕ
block_size N k L = suc k * L * (suc k * N)

-- Row r of a block: a sample.
abbrev pub row : (N k r : ℕ) (block : List ℕ) → List ℕ
row N k r block = chunk (suc k * N) r block

-- The polynomial of a sample that row r is for: a mask, or the body where this is k.
abbrev pub component : (L r : ℕ) → ℕ
component L r = r / L

-- The number j, from 1 to L, of row r among the rows for that polynomial.
abbrev pub place : (L r : ℕ) → ℕ
place L r = suc (r % L)

-- Coefficient i of the digit polynomial of the sample x that goes with row r: "mask digits with the first L rows, body digits
-- with the last L".
abbrev pub row_digits : (N g L : ℕ) (x : List ℕ) (r i : ℕ) → ℕ
row_digits N g L x r i = digit g L (get_or x (component L r * N + i) 0) (place L r)

-- Coefficient i of polynomial c of row r.
abbrev pub row_part : (N k : ℕ) (block : List ℕ) (r c i : ℕ) → ℕ
row_part N k block r c i = get_or (row N k r block) (c * N + i) 0

-- The same, of row j of those from row r on.
abbrev pub rows_from : (N k : ℕ) (block : List ℕ) (r j c i : ℕ) → ℕ
rows_from N k block r j c = row_part N k block (r + j) c

abbrev pub digits_from : (N g L : ℕ) (x : List ℕ) (r j i : ℕ) → ℕ
digits_from N g L x r j = row_digits N g L x (r + j)

-- What the code asks of its numbers and bytes: room for a digit polynomial, a block, and a sample.
pub record Operands (N k g L : ℕ) (room block x : List ℕ) : Type 0 where
  pub lawful : Lawful g L
  pub room_length : length room ≡ 4 * N
  pub block_length : length block ≡ 4 * block_size N k L
  pub x_length : length x ≡ 4 * (suc k * N)
