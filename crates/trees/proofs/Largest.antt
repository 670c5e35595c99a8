-- Laws of the largest of some numbers.
-- Assumes nothing.
use Rattle.std.proofs.Common.{◌≡◌, ℕ, zero, suc, ◌≤◌, ◌<◌, ◌⊎◌, inl, inr, refl, ap₂, arith}
use Prim.Native.Nat.{max}
use native.Mathlib.Nat.{eq-or-lt_of_le, le_of_suc-le-suc}
use Rattle.trees.specs.LookedUp.{largest}

-- One number more.
one_more : (n : ℕ) (f : ℕ → ℕ) (i : ℕ) → (i < n → f i ≤ largest n f) → (i ≡ n) ⊎ (i < n) → f i ≤ max (largest n f) (f n)
one_more n f i rest (inl e) = rw e (omega arith)
one_more n f i rest (inr m) = omega (arith, rest m)

pub largest_at : (n : ℕ) (f : ℕ → ℕ) (i : ℕ) → i < n → f i ≤ largest n f
unfolding largest
largest_at zero f i l = absurd (omega arith)
largest_at (suc n) f i l = one_more n f i (λ m. largest_at n f i m) (eq-or-lt_of_le (le_of_suc-le-suc l))

-- It is the least that none of them passes.
pub largest_le : (n : ℕ) (f : ℕ → ℕ) (A : ℕ) → ((i : ℕ) → i < n → f i ≤ A) → largest n f ≤ A
unfolding largest
largest_le zero f A h = omega arith
largest_le (suc n) f A h = omega (arith, largest_le n f A (λ i l. h i (omega arith)), h n (omega arith))

pub largest_cong : (n : ℕ) (f g : ℕ → ℕ) → ((i : ℕ) → i < n → f i ≡ g i) → largest n f ≡ largest n g
unfolding largest
largest_cong zero f g h = refl
largest_cong (suc n) f g h = ap₂ max (largest_cong n f g (λ i l. h i (omega arith))) (h n (omega arith))

-- Where all are 0 it is 0.
pub largest_none : (n : ℕ) → largest n (λ i. 0) ≡ 0
largest_none n = omega (arith, largest_le n (λ i. 0) 0 (λ i l. omega arith))

-- One more, for a loop that takes one a turn.
pub largest_first : (f : ℕ → ℕ) → largest 0 f ≡ 0
unfolding largest
largest_first f = refl

pub largest_more : (n : ℕ) (f : ℕ → ℕ) → largest (suc n) f ≡ max (largest n f) (f n)
unfolding largest
largest_more n f = refl
