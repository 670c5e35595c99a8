-- Definitions that the exercises of the course add to those of the library, lesson by lesson.
-- Assumes nothing.
use Rattle.std.specs.Prelude.{ℕ, ◌+◌, ◌-◌, ◌*◌, ◌/◌, ◌%◌, ◌^◌, max, List, [], ◌∷◌, length, slice_index, slice_set}
use Rattle.torus.specs.Word.{sub}
use Rattle.torus.specs.Bytes.{words, bytes}
use Rattle.gadget.specs.Digits.{step, rounded}
use Rattle.ring.specs.Polynomial.{coefficients, inside, passed}
use Rattle.answers.specs.Answers.{Answer, accepted, noise, after}
use Rattle.answers.specs.Checks as Check
use Rattle.answers.specs.Checks.{◌or_else◌}

-- ---- lesson 1

-- The word whose centred reading is -w.
abbrev pub negative : (w : ℕ) → ℕ
negative w = sub 0 w

-- The polynomial X.
abbrev pub X : ℕ → ℕ
X = coefficients (0 ∷ 1 ∷ [])

-- A product modulo X^N - 1, for comparison: a term that passes the end keeps its sign.
abbrev pub cyclic : (N : ℕ) (y p : ℕ → ℕ) (k : ℕ) → ℕ
cyclic N y p k = (inside y p k + passed N y p k) % 2 ^ 32

-- ---- lesson 2

-- Digit j of w by plain places, for comparison: from 0 to 2^g - 1.
abbrev pub plain_digit : (g L w j : ℕ) → ℕ
plain_digit g L w j = rounded g L w / step g j % 2 ^ g

-- ---- lesson 4

-- A tree whose samples are numbers. With this join each sample counts the CMuxes that it took:
abbrev pub counted : (i x₀ x₁ : ℕ) → ℕ
counted i x₀ x₁ = x₀ + x₁ + 1

-- and with this one the CMuxes on the longest path to it.
abbrev pub deepest : (i x₀ x₁ : ℕ) → ℕ
deepest i x₀ x₁ = max x₀ x₁ + 1

-- ---- lesson 6

-- The answer of a lookup in a public table in the horizontal packing, of d selectors that all have the charge c, as far as M, d and c
-- decide it.
unfoldable pub equal_charges : (M d c : ℕ) → Answer
equal_charges M d c = Check.class_number M or_else Check.depth 10 d or_else noise M (d * c) (2 ^ d - 1)

-- A call in small: coefficient p of a polynomial of degree N is negated in its slice. Its answer, and what it leaves there.
unfoldable pub negate_coefficient : (N p : ℕ) (slice : List ℕ) → Answer
negate_coefficient N p slice = Check.degree N or_else Check.position N p or_else Check.exact (length slice) N or_else accepted

unfoldable pub negate_coefficient_slice : (N p : ℕ) (slice : List ℕ) → List ℕ
negate_coefficient_slice N p slice =
    after (negate_coefficient N p slice) (bytes (slice_set (words slice) p (negative (slice_index (words slice) p)))) slice
