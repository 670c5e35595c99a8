-- What the code needs that makes a product coefficient by coefficient.
-- Assumes nothing.
use mathlib.Core.Path.{◌≡◌, ap, ap₂, ◌∙◌}
use Prim.Native.Nat.{ℕ, suc, ◌+◌, ◌-◌, ◌*◌, ◌%◌, ◌^◌, ◌<◌}
use native.Mathlib.Nat.{zero-add}
use native.Mathlib.Numerals.{add-one}
use native.Mathlib.Omega.{arith}
use Rattle.torus.specs.Sum.{sum}
use Rattle.torus.specs.Word.{sub}
use Rattle.torus.proofs.Sums.{sum_cong}
use Rattle.ring.specs.Polynomial.{product}

-- Coefficient k as the code sums it up: the places of p go down, from k and from the last one.
pub coefficient_product : (n k a b : ℕ) (y p : ℕ → ℕ) → k < n → a ≡ sum (k + 1) (λ i. y (0 + i) * p (k - i)) % 2 ^ 32
    → b ≡ sum (n - (k + 1)) (λ i. y (k + 1 + i) * p (n - 1 - i)) % 2 ^ 32 → sub a b ≡ product n y p k
unfolding product
coefficient_product n k a b y p l ea eb =
    ap₂ sub
    (ea ∙ ap (λ m. sum m (λ i. y (0 + i) * p (k - i)) % 2 ^ 32) (add-one k)
    ∙ ap (λ x. x % 2 ^ 32) (sum_cong (suc k) _ _ (λ i li. ap (λ j. y j * p (k - i)) (zero-add i))))
    (eb ∙ ap (λ m. sum (n - m) (λ i. y (m + i) * p (n - 1 - i)) % 2 ^ 32) (add-one k)
    ∙ ap (λ x. x % 2 ^ 32) (sum_cong (n - suc k) _ _ (λ i li. let e : n - 1 - i ≡ n + k - (suc k + i) = omega arith in ap (λ j. y (suc k + i) * p j) e)))
