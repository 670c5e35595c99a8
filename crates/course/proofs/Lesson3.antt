-- Lesson 3, the CMux: the exercises, each with its solution.
-- Assumes nothing.
use Rattle.std.proofs.Common.{◌≡◌, ℕ, zero, suc, ◌+◌, ◌-◌, ◌*◌, ◌%◌, ◌^◌, ◌<◌, ◌≤◌, max, List, length, get_or, sym, refl, ap, ◌∙◌, inl, le_refl, mod-lt, mul-le-mul, mul-zero, zero-mul, arith, lit<, pow_pos}
use native.Mathlib.Nat.{zero-mod}
use Rattle.torus.specs.Sum.{sum, tabulate}
use Rattle.torus.specs.Word.{add, sub, distance}
use Rattle.torus.proofs.Lists.{tabulate_below}
use Rattle.torus.proofs.Sums.{sum_cong, sum_const}
use Rattle.gadget.specs.Digits.{Lawful, half, step, precision, rounded, digit}
use Rattle.gadget.proofs.Laws.{digits_unique}
use Rattle.gadget.proofs.Rounding.{precision_none}
use Rattle.ring.specs.Polynomial.{inside, passed, product}
use Rattle.trlwe.specs.Sample.{part, phase}
use Rattle.trlwe.proofs.Polynomials.{polynomials_cong, polynomials_self}
use Rattle.trgsw.specs.declared.Parameters.{Parameters}
use Rattle.trgsw.specs.Parameters.{sample_size, row_count}
use Rattle.trgsw.specs.Block.{component, place}
use Rattle.trgsw.specs.External.{row_digits, external, difference, cmux_sample, picked, charge, Selecting}
use Rattle.trgsw.proofs.OneMask.{one}
use Rattle.trgsw.proofs.Words.{cmux_below}
use Rattle.trgsw.proofs.Noise.{cmux_within}
use Rattle.course.proofs.Lesson2.{rounded_whole}

-- Exercise 3.1. With N = 1,024, g = 8, L = 2 and amplitude 1 a charge is 34111488. Compute it for amplitude 0: what is left is
-- rounding. Compute it for amplitude 1 with g = 16, where nothing is rounded.
pub rounding_alone : charge (one 1024 8 2) 0 ≡ 33587200
unfolding charge precision
rounding_alone = refl

pub noise_alone : charge (one 1024 16 2) 1 ≡ 134217728
unfolding charge precision
noise_alone = refl

-- Exercise 3.2. A block with a smaller amplitude is charged no more.
pub charge_mono : (p : Parameters) (A B : ℕ) → A ≤ B → charge p A ≤ charge p B
unfolding charge
charge_mono p A B h = omega (arith, mul-le-mul (le_refl (row_count p * p.N * half p.g)) h)

-- Exercise 3.3. Where g·L is 32 and the block has no noise, a CMux adds none.
pub charge_none : (p : Parameters) → p.g * p.L ≡ 32 → charge p 0 ≡ 0
unfolding charge
charge_none p h = omega (arith, precision_none p.g p.L h, ap (λ E. (1 + p.W) * E) (precision_none p.g p.L h))

-- Exercise 3.4. The digits of 0 are 0: they are in range, and their sum is right. Hint: `rounded_whole` of lesson 2.
pub digit_zero : (g L j : ℕ) → Lawful g L → 1 ≤ j → j ≤ L → digit g L 0 j ≡ 0
digit_zero g L j ok l u =
    let none : sum L (λ i. 0 * step g (suc i)) ≡ 0 =
    sum_cong L _ (λ i. 0) (λ i h. zero-mul (step g (suc i))) ∙ sum_const L 0 ∙ mul-zero L in
    let total : sum L (λ i. 0 * step g (suc i)) % 2 ^ 32 ≡ rounded g L 0 =
    ap (λ x. x % 2 ^ 32) none ∙ sym (rounded_whole g L 0 (lit< tt) (zero-mod (step g L))) in
    sym (digits_unique g L 0 (λ i. 0) ok (λ i a b. inl (pow_pos (g - 1))) total j l u)

-- Exercise 3.5. A CMux of a sample with itself gives that sample, word for word, whatever the block holds. Four steps lead
-- there.
--
-- (a) A product with the polynomial 0 is 0.
pub product_none : (N : ℕ) (y p : ℕ → ℕ) (k : ℕ) → k < N → ((i : ℕ) → i < N → y i ≡ 0) → product N y p k ≡ 0
unfolding product
product_none N y p k l none = rw (low, high) refl
  where
    zeros : (n : ℕ) (f q : ℕ → ℕ) → ((i : ℕ) → i < n → f i ≡ 0) → sum n (λ i. f i * q i) ≡ 0
    zeros n f q h = sum_cong n _ (λ i. 0) (λ i b. ap (λ x. x * q i) (h i b) ∙ zero-mul (q i)) ∙ sum_const n 0 ∙ mul-zero n

    low : inside y p k ≡ 0
    low = zeros (suc k) y (λ i. p (k - i)) (λ i b. none i (omega arith))

    high : passed N y p k ≡ 0
    high = zeros (N - suc k) (λ i. y (suc k + i)) (λ i. p (N + k - (suc k + i))) (λ i b. none (suc k + i) (omega arith))

-- (b) A sample less itself has the words 0.
pub difference_none : (n : ℕ) (x : List ℕ) → ((t : ℕ) → get_or x t 0 < 2 ^ 32) → (t : ℕ) → get_or (difference n x x) t 0 ≡ 0
unfolding difference
difference_none n x word t =
    let low : get_or (tabulate n (λ t. sub (get_or x t 0) (get_or x t 0))) t 0 < 1 =
    tabulate_below 1 n (λ t. sub (get_or x t 0) (get_or x t 0)) (lit< tt) (λ t. omega (arith, word t)) t in
    omega arith

-- (c) The digits of a sample whose words are 0 are 0, and so is its external product with any block.
pub external_none : (p : Parameters) (block x : List ℕ) (c i : ℕ) → Lawful p.g p.L → i < p.N → ((t : ℕ) → get_or x t 0 ≡ 0)
    → external p block x c i ≡ 0
unfolding external
external_none p block x c i ok l none =
    ap (λ t. t % 2 ^ 32)
    (sum_cong (row_count p) _ (λ r. 0)
    (λ r b. product_none p.N (row_digits p x r) _ i l
    (λ j h. ap (λ w. digit p.g p.L w (place p.L r)) (none (component p.L r * p.N + j))
    ∙ digit_zero p.g p.L (place p.L r) ok (omega arith) (mod-lt r ok.some)))
    ∙ sum_const (row_count p) 0 ∙ mul-zero (row_count p))

-- (d) What remains is the sample to which 0 is added.
pub cmux_same : (p : Parameters) (block x : List ℕ) → Lawful p.g p.L → 0 < p.N → length x ≡ sample_size p → ((t : ℕ) → get_or x t 0 < 2 ^ 32)
    → cmux_sample p block x x ≡ x
unfolding cmux_sample
cmux_same p block x ok pos size word =
    polynomials_cong p.N (suc p.k) _ (part p.N x)
    (λ c i lc li. ap (add (part p.N x c i)) (external_none p block _ c i ok li (difference_none (sample_size p) x word))
    ∙ omega (arith, word (c * p.N + i)))
    ∙ polynomials_self p.N (suc p.k) x pos size

-- Exercise 3.6. Two CMuxes in a row: the first picks x₀ or x₁ by the bit m, the second picks this result, by a block that holds
-- 0, and not x₂. If all three samples are within C of their messages, the charges of both come on top, and nothing else.
pub two_in_a_row : (p : Parameters) (m A B C : ℕ) (K block other x₀ x₁ x₂ : List ℕ) (f₀ f₁ f₂ : ℕ → ℕ)
    → Selecting p m A K block → Selecting p 0 B K other → ((t : ℕ) → get_or x₀ t 0 < 2 ^ 32)
    → ((i : ℕ) → i < p.N → f₀ i < 2 ^ 32) → ((i : ℕ) → i < p.N → f₁ i < 2 ^ 32) → ((i : ℕ) → i < p.N → f₂ i < 2 ^ 32)
    → ((i : ℕ) → i < p.N → distance (phase p.N p.k K x₀ i) (f₀ i) ≤ C) → ((i : ℕ) → i < p.N → distance (phase p.N p.k K x₁ i) (f₁ i) ≤ C)
    → ((i : ℕ) → i < p.N → distance (phase p.N p.k K x₂ i) (f₂ i) ≤ C)
    → (i : ℕ) → i < p.N
    → distance (phase p.N p.k K (cmux_sample p other (cmux_sample p block x₀ x₁) x₂) i) (picked m f₀ f₁ i) ≤ C + charge p A + charge p B
two_in_a_row p m A B C K block other x₀ x₁ x₂ f₀ f₁ f₂ given none word w₀ w₁ w₂ h₀ h₁ h₂ i l =
    let first : (i : ℕ) → i < p.N
    → distance (phase p.N p.k K (cmux_sample p block x₀ x₁) i) (picked m f₀ f₁ i) ≤ max C C + charge p A =
    cmux_within p m A C C K block x₀ x₁ f₀ f₁ given word w₀ w₁ h₀ h₁ in
    let last =
    cmux_within p 0 B (max C C + charge p A) C K other (cmux_sample p block x₀ x₁) x₂ (picked m f₀ f₁) f₂
    none (cmux_below p block x₀ x₁) (picked_word m given.bit) w₂ first h₂ i l in
    omega (arith, last)
  where
    picked_word : (m : ℕ) → m ≤ 1 → (i : ℕ) → i < p.N → picked m f₀ f₁ i < 2 ^ 32
    picked_word zero lm i l = w₀ i l
    picked_word (suc zero) lm i l = w₁ i l
    picked_word (suc (suc m)) lm i l = absurd (omega arith)

-- Exercise 3.7. With N = 1,024, g = 8, L = 2 and amplitude 1, compute the charge for keys of up to 64 ones. Each one more costs E.
pub charge_thin : charge (record (one 1024 8 2) { W = 64 }) 1 ≡ 2654208
unfolding charge precision
charge_thin = refl

pub charge_each : (p : Parameters) (W A : ℕ) → charge (record p { W = suc W }) A ≡ charge (record p { W = W }) A + precision p.g p.L
unfolding charge
charge_each p W A = omega arith
