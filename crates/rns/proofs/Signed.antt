-- A product of two polynomials with signs, modulo any number: a difference of two sums that do not depend on it.
-- Assumes nothing.
use mathlib.Core.Path.{◌≡◌, ap, ap₂, ◌∙◌}
use Prim.Native.Nat.{ℕ, zero, suc, ◌+◌, ◌*◌, ◌-◌, ◌≤◌, ◌<◌}
use native.Mathlib.Nat.{mul-le-mul}
use native.Mathlib.Omega.{arith}
use Rattle.torus.specs.Sum.{sum}
use Rattle.ring.specs.Polynomial.{inside, passed}
use Rattle.ring.proofs.Poly.{Poly, ◌⊕◌, ◌⊙◌, mul, mul_linear, mul_linear_left}
use Rattle.ring.proofs.Terms.{mul_at}
use Rattle.butterflies.specs.Same.{Same}
use Rattle.butterflies.proofs.SameLaws.{same_trans, same_path}

-- What is added of the product of a - d and b - e, and what is taken away.
abbrev pub plus : (N : ℕ) (a d b e : Poly) → ℕ → ℕ
plus N a d b e k = inside a b k + inside d e k + passed N a e k + passed N d b k

abbrev pub less : (N : ℕ) (a d b e : Poly) → ℕ → ℕ
less N a d b e k = inside a e k + inside d b k + passed N a b k + passed N d e k

-- The product of a + z·d and b + z·e, term by term.
expanded : (z N : ℕ) (a d b e : Poly) (k : ℕ) → k < N
    → mul z N (a ⊕ z ⊙ d) (b ⊕ z ⊙ e) k
    ≡ inside a b k + z * passed N a b k + z * (inside a e k + z * passed N a e k)
    + z * (inside d b k + z * passed N d b k + z * (inside d e k + z * passed N d e k))
unfolding ◌⊕◌ ◌⊙◌
expanded z N a d b e k l =
    let q = b ⊕ z ⊙ e in
    ap (λ f. f k) ((mul_linear_left z N q).on_add a (z ⊙ d))
    ∙ ap₂ ◌+◌ (right a) (ap (λ f. f k) ((mul_linear_left z N q).on_scale z d) ∙ ap (λ x. z * x) (right d))
  where
    right : (y : Poly) → mul z N y (b ⊕ z ⊙ e) k ≡ inside y b k + z * passed N y b k + z * (inside y e k + z * passed N y e k)
    right y =
        ap (λ f. f k) ((mul_linear z N y).on_add b (z ⊙ e))
        ∙ ap₂ ◌+◌ (mul_at z N y b k l) (ap (λ f. f k) ((mul_linear z N y).on_scale z e) ∙ ap (λ x. z * x) (mul_at z N y e k l))

cleared : (z p₁ p₂ p₃ p₄ i₁ i₂ i₃ i₄ : ℕ)
    → Same (suc z) (i₁ + z * p₁ + z * (i₂ + z * p₂) + z * (i₃ + z * p₃ + z * (i₄ + z * p₄))) (i₁ + i₄ + p₂ + p₃ + z * (i₂ + i₃ + p₁ + p₄))
cleared z p₁ p₂ p₃ p₄ i₁ i₂ i₃ i₄ = record {
  s = p₂ + p₃ + i₄ + z * p₄;
  t = z * (p₂ + p₃ + i₄) + z * z * p₄;
  same = omega arith;
}

pub signed_product : (z N : ℕ) (a d b e : Poly) (k : ℕ) → k < N
    → Same (suc z) (mul z N (a ⊕ z ⊙ d) (b ⊕ z ⊙ e) k) (plus N a d b e k + z * less N a d b e k)
signed_product z N a d b e k l = same_trans (same_path (expanded z N a d b e k l)) (cleared z _ _ _ _ _ _ _ _)

-- ---- sizes

pub sum_le : (n B : ℕ) (f : ℕ → ℕ) → ((i : ℕ) → i < n → f i ≤ B) → sum n f ≤ n * B
unfolding sum
sum_le zero B f h = omega arith
sum_le (suc n) B f h = omega (arith, sum_le n B f (λ i l. h i (omega arith)), h n (omega arith))

pub sum_add_scale : (z n : ℕ) (f g : ℕ → ℕ) → sum n (λ i. f i + z * g i) ≡ sum n f + z * sum n g
unfolding sum
sum_add_scale z zero f g = omega arith
sum_add_scale z (suc n) f g = omega (arith, sum_add_scale z n f g)

-- The terms of a product, their signs left out.
terms_le : (N D W : ℕ) (s t : Poly) → ((i : ℕ) → i < N → s i ≤ D) → ((i : ℕ) → i < N → t i ≤ W) → (k : ℕ) → k < N
    → inside s t k + passed N s t k ≤ N * (D * W)
terms_le N D W s t hs ht k l =
    let h : inside s t k ≤ suc k * (D * W) = sum_le (suc k) (D * W) _ (λ i li. mul-le-mul (hs i (omega arith)) (ht (k - i) (omega arith))) in
    let g : passed N s t k ≤ (N - suc k) * (D * W) =
    sum_le (N - suc k) (D * W) _ (λ i li. mul-le-mul (hs (suc k + i) (omega arith)) (ht (N + k - (suc k + i)) (omega arith))) in
    let e : N ≡ suc k + (N - suc k) = omega arith in
    let f : N * (D * W) ≡ suc k * (D * W) + (N - suc k) * (D * W) = ap (λ n. n * (D * W)) e ∙ omega arith in
    omega arith

pub size_le : (N D W : ℕ) (a d b e : Poly) → ((i : ℕ) → i < N → a i + d i ≤ D) → ((i : ℕ) → i < N → b i + e i ≤ W) → (k : ℕ) → k < N
    → plus N a d b e k + less N a d b e k ≤ N * (D * W)
unfolding ◌⊕◌ ◌⊙◌
size_le N D W a d b e h g k l =
    let whole = mul_at 1 N (λ i. a i + 1 * d i) (λ i. b i + 1 * e i) k l in
    let terms = expanded 1 N a d b e k l in
    let bound = terms_le N D W (λ i. a i + 1 * d i) (λ i. b i + 1 * e i) (λ i li. let x = h i li in omega arith) (λ i li. let x = g i li in omega arith) k l in
    omega (arith, whole, terms, bound)
