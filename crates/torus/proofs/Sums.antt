-- Laws of finite sums.
-- Assumes nothing.
use Rattle.std.proofs.Common.{◌≡◌, ℕ, zero, suc, ◌+◌, ◌*◌, ◌%◌, ◌^◌, ◌<◌, ◌≤◌, sym, refl, ap, ◌∙◌, ap₂, le_refl, add-zero, add_assoc, add-suc, suc-mul, add-mul, zero-mul, add-one, arith}
use native.Mathlib.Nat.{mod-add-mod, add-mod-mod}
use Rattle.torus.specs.Sum.{sum}

pub sum_cong : (n : ℕ) (f g : ℕ → ℕ) → ((i : ℕ) → i < n → f i ≡ g i) → sum n f ≡ sum n g
unfolding sum
sum_cong zero f g h = refl
sum_cong (suc n) f g h = ap₂ ◌+◌ (sum_cong n f g (λ i l. h i (omega arith))) (h n (omega arith))

pub sum_const : (n a : ℕ) → sum n (λ i. a) ≡ n * a
unfolding sum
sum_const zero a = sym (zero-mul a)
sum_const (suc n) a = ap (λ x. x + a) (sum_const n a) ∙ sym (suc-mul n a)

pub sum_add : (n : ℕ) (f g : ℕ → ℕ) → sum n (λ i. f i + g i) ≡ sum n f + sum n g
unfolding sum
sum_add zero f g = refl
sum_add (suc n) f g = omega (arith, sum_add n f g)

pub sum_mul : (n : ℕ) (f : ℕ → ℕ) (a : ℕ) → sum n (λ i. f i * a) ≡ sum n f * a
unfolding sum
sum_mul zero f a = sym (zero-mul a)
sum_mul (suc n) f a = ap (λ x. x + f n * a) (sum_mul n f a) ∙ sym (add-mul (sum n f) (f n) a)

-- A sum is that of its first n terms and that of the m after them.
pub sum_append : (n m : ℕ) (f : ℕ → ℕ) → sum (n + m) f ≡ sum n f + sum m (λ i. f (n + i))
unfolding sum
sum_append n zero f = ap (λ k. sum k f) (add-zero n) ∙ sym (add-zero (sum n f))
sum_append n (suc m) f =
    ap (λ k. sum k f) (add-suc n m) ∙ ap (λ x. x + f (n + m)) (sum_append n m f) ∙ add_assoc (sum n f) _ _

-- A sum of k·N terms is that of k sums of N terms each.
pub sum_blocks : (k N : ℕ) (f : ℕ → ℕ) → sum (k * N) f ≡ sum k (λ c. sum N (λ j. f (c * N + j)))
unfolding sum
sum_blocks zero N f = ap (λ n. sum n f) (zero-mul N)
sum_blocks (suc k) N f =
    ap (λ n. sum n f) (suc-mul k N) ∙ sum_append (k * N) N f ∙ ap (λ x. x + sum N (λ j. f (k * N + j))) (sum_blocks k N f)

-- A sum of 0s and 1s is at most the number of its terms.
pub ones_le : (n : ℕ) (f : ℕ → ℕ) → ((i : ℕ) → i < n → f i ≤ 1) → sum n f ≤ n
unfolding sum
ones_le zero f h = le_refl 0
ones_le (suc n) f h = omega (arith, ones_le n f (λ i l. h i (omega arith)), h n (omega arith))

-- What a loop that adds up words has before its first turn.
pub summed_none : (f : ℕ → ℕ) → 0 ≡ sum 0 f % 2 ^ 32
unfolding sum
summed_none f = refl

-- One turn more: v is added.
pub summed_more : (n : ℕ) (f : ℕ → ℕ) (total v : ℕ) → total ≡ sum n f % 2 ^ 32 → v ≡ f n % 2 ^ 32
    → (total + v) % 2 ^ 32 ≡ sum (n + 1) f % 2 ^ 32
unfolding sum
summed_more n f total v e h = rw (add-one n)
    (ap₂ (λ x y. (x + y) % 2 ^ 32) e h ∙ mod-add-mod (sum n f) (2 ^ 32) _ ∙ add-mod-mod (sum n f) (f n) (2 ^ 32))

-- Numbers added to a word one after the other, as words.
pub add_add : (o s p : ℕ) → ((o + s % 2 ^ 32) % 2 ^ 32 + p) % 2 ^ 32 ≡ (o + (s + p) % 2 ^ 32) % 2 ^ 32
add_add o s p = omega arith
