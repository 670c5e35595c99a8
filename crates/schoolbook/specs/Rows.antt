-- What the inner functions of the product say of their tables and sums.
-- Assumes nothing.
use Rattle.std.specs.Prelude.{◌≡◌, List, ℕ, ◌+◌, ◌-◌, ◌*◌, ◌<◌}
use Rattle.torus.specs.Sum.{sum}
use Rattle.torus.specs.Word.{sub}
use Rattle.ring.specs.Polynomial.{coefficients}

-- The first m coefficients of p stand in the table from place n on, and their negatives from place 0 on.
abbrev pub BothSigns : ℕ → List ℕ → ℕ → List ℕ → Type 0
BothSigns n p m table = (i : ℕ) → i < m
    → (coefficients table i ≡ sub 0 (coefficients p i)) × (coefficients table (n + i) ≡ coefficients p i)

-- What the last m coefficients of y add to coefficient k of the product: y_i, for i = n - (j + 1), times word k of X^i·p, which is
-- word n - i + k of the table.
unfoldable pub row_sum : ℕ → List ℕ → List ℕ → ℕ → ℕ → ℕ
row_sum n y table m k = sum m (λ j. coefficients y (n - (j + 1)) * coefficients table (j + 1 + k))
