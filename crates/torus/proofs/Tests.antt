-- Laws of tests, for the checks of every layer.
-- Assumes nothing.
use Rattle.std.proofs.Common.{◌≡◌, ℕ, suc, Bool, true, false, cond, ◌&&◌, refl, sym, arith}

-- Both halves of a test that holds.
pub both : (a b : Bool) → a && b ≡ true → (a ≡ true) × (b ≡ true)
both true b e = (refl, e)
both false b e = absurd (let z : ◌≡◌ {A = ℕ} 0 1 = cc in omega arith)

-- Two tests of which each holds where the other does.
pub same_truth : (s t : Bool) → (s ≡ true → t ≡ true) → (t ≡ true → s ≡ true) → s ≡ t
same_truth true t there back = sym (there refl)
same_truth false true there back = back refl
same_truth false false there back = refl

-- A test of what is not so fails.
pub refuted : (b : Bool) {P : Type 0} → (b ≡ true → P) → (P → ⊥) → false ≡ b
refuted true told never = absurd (never (told refl))
refuted false told never = refl

-- A check that answers 0 held its test, and so did the checks behind it.
pub held : (b : Bool) (x k : ℕ) → cond b x (suc k) ≡ 0 → (b ≡ true) × (x ≡ 0)
held true x k e = (refl, e)
held false x k e = absurd (omega arith)
