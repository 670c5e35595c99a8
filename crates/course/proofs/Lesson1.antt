-- Lesson 1, words and polynomials: the exercises, each with its solution. The function of exercise 1.4 is in src/lib.rt.
-- Assumes nothing.
use Rattle.std.proofs.Common.{◌≡◌, ℕ, zero, suc, ◌+◌, ◌*◌, ◌%◌, ◌^◌, ◌<◌, ◌≤◌, [], ◌∷◌, sym, refl, ap, ◌∙◌, mod-lt, mod-eq_of_lt, arith, lit<}
use native.Mathlib.Nat.{mod-add-mod}
use Rattle.torus.specs.Sum.{sum, tabulate}
use Rattle.torus.specs.Word.{add, magnitude, distance}
use Rattle.torus.proofs.Magnitudes.{magnitude_min, magnitude_add, distance_zero, distance_sym}
use Rattle.ring.specs.Polynomial.{Agree, coefficients, product}
use Rattle.ring.proofs.Terms.{unit, mul_swap, mul_unit, product_mul}
use Rattle.course.specs.Definitions.{negative, X, cyclic}

-- Exercise 1.1. The words 4294967295 and 2 read as -1 and 2. Compute their distance, and the magnitude of 2147483648.
pub across_zero : distance 4294967295 2 ≡ 3
unfolding magnitude
across_zero = refl

pub greatest_word : magnitude 2147483648 ≡ 2147483648
unfolding magnitude
greatest_word = refl

-- Exercise 1.2. With N = 2, X·X is -1, and with N = 4, X·X^3 is -1: compute the words.
pub square_of_x : tabulate 2 (product 2 X X) ≡ 4294967295 ∷ 0 ∷ []
unfolding tabulate product sum
square_of_x = refl

pub fourth_power_of_x : tabulate 4 (product 4 X (coefficients (0 ∷ 0 ∷ 0 ∷ 1 ∷ []))) ≡ 4294967295 ∷ 0 ∷ 0 ∷ 0 ∷ []
unfolding tabulate product sum
fourth_power_of_x = refl

-- Exercise 1.3. Case h of the exercise table is (1 + 2X)·X with N = 2. Compute what it would be if a term that passes the end
-- kept its sign, and how far the two are apart in the constant coefficient.
pub sign_kept : tabulate 2 (cyclic 2 (coefficients (1 ∷ 2 ∷ [])) X) ≡ 2 ∷ 1 ∷ []
unfolding tabulate sum
sign_kept = refl

pub sign_matters : distance (product 2 (coefficients (1 ∷ 2 ∷ [])) X 0) (cyclic 2 (coefficients (1 ∷ 2 ∷ [])) X 0) ≡ 4
unfolding product sum magnitude
sign_matters = refl

-- Exercise 1.4. Write the function `negate`, with the contract that its result is `negative w`. Then show that a word and its
-- negative have one magnitude. Hint: the distance is symmetric.
pub magnitude_negative : (w : ℕ) → w < 2 ^ 32 → magnitude (negative w) ≡ magnitude w
magnitude_negative w h = distance_sym 0 w (omega arith) (omega arith) ∙ distance_zero w h

-- Exercise 1.5. Products of words commute, and 1 is their unit. Hint: `product_mul` leads to the laws of the ring.
pub product_swap : (N : ℕ) (y p : ℕ → ℕ) → Agree N (product N y p) (product N p y)
product_swap N y p k h =
    product_mul N y p k h ∙ ap (λ x. x % 2 ^ 32) (mul_swap 4294967295 N y p k h) ∙ sym (product_mul N p y k h)

pub product_unit : (N : ℕ) (p : ℕ → ℕ) → ((k : ℕ) → p k < 2 ^ 32) → Agree N (product N p (unit 0)) p
product_unit N p word k h =
    product_mul N p (unit 0) k h ∙ ap (λ x. x % 2 ^ 32) (mul_unit 4294967295 N p k h) ∙ mod-eq_of_lt (word k)

-- Exercise 1.6. Noise adds up: the sum of n words of magnitudes up to A has a magnitude of at most n·A.
pub magnitude_sum : (n A : ℕ) (f : ℕ → ℕ) → ((i : ℕ) → i < n → f i < 2 ^ 32) → ((i : ℕ) → i < n → magnitude (f i) ≤ A)
    → magnitude (sum n f % 2 ^ 32) ≤ n * A
unfolding sum
magnitude_sum zero A f word small = omega (arith, magnitude_min 0)
magnitude_sum (suc n) A f word small =
    let rest : magnitude (sum n f % 2 ^ 32) ≤ n * A =
    magnitude_sum n A f (λ i l. word i (omega arith)) (λ i l. small i (omega arith)) in
    let more : magnitude (add (sum n f % 2 ^ 32) (f n)) ≤ magnitude (sum n f % 2 ^ 32) + magnitude (f n) =
    magnitude_add (sum n f % 2 ^ 32) (f n) (mod-lt _ (lit< tt)) (word n (omega arith)) in
    rw (← mod-add-mod (sum n f) (2 ^ 32) (f n)) (omega (arith, small n (omega arith)))
