-- One term of an external product as a total call: a polynomial to which the digit polynomial of another times a row is added.
-- Assumes nothing.
use Rattle.std.specs.Prelude.{◌≡◌, cond, List, ℕ, eqb, length}
use Rattle.torus.specs.Bytes.{words, bytes}
use Rattle.gadget.specs.Digits.{digit_polynomial}
use Rattle.ring.specs.Polynomial.{add_product}
use Rattle.answers.specs.Checks as Check
use Rattle.answers.specs.Checks.{Checked, ◌or_else◌}
use Rattle.answers.specs.Answers as Answers

-- The checks: 1 the degree, 2 the gadget, 4 the number j of the digit, which is from 1 to L, 5 a length in bytes.
unfoldable pub checks : (N g L j x row digits out : ℕ) → Checked
checks N g L j x row digits out =
    Check.degree N
    or_else Check.gadget g L
    or_else Check.count L j
    or_else Check.exact x N
    or_else Check.exact row N
    or_else Check.exact digits N
    or_else Check.exact out N

-- 0 if all fits, else the number of the first fault.
unfoldable pub number : (N g L j x row digits out : ℕ) → ℕ
number N g L j x row digits out = Answers.number (checks N g L j x row digits out)

-- The bytes of the digits, and those of the accumulator, after an accepted call.
unfoldable pub digit_bytes : (N g L j : ℕ) → List ℕ → List ℕ
digit_bytes N g L j x = bytes (digit_polynomial N g L j (words x))

unfoldable pub sum_bytes : (N g L j : ℕ) → List ℕ → List ℕ → List ℕ → List ℕ
sum_bytes N g L j x row out = bytes (add_product N (words out) (digit_polynomial N g L j (words x)) (words row))

-- What a call answers and leaves in the slices that it may write. A refusal changes no byte.
pub record Answered (N g L j : ℕ) (x row digits out : List ℕ) (answer : ℕ) (digits' out' : List ℕ) : Type 0 where
  pub number_is : answer ≡ number N g L j (length x) (length row) (length digits) (length out)
  pub digits_are : digits' ≡ cond (eqb answer 0) (digit_bytes N g L j x) digits
  pub out_is : out' ≡ cond (eqb answer 0) (sum_bytes N g L j x row out) out
