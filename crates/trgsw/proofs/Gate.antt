-- The external product and the CMux over polynomials: the phases of their results. Rows are numbered from 0 on, L rows for each
-- of the n polynomials of a sample: row r is for polynomial r / L, with the step h (r % L).
-- Assumes nothing.
use mathlib.Core.Path.{◌≡◌, ap, ap₂, sym, ◌∙◌, fun_ext}
use Prim.Native.Nat.{ℕ, zero, suc, ◌+◌, ◌*◌, ◌/◌, ◌%◌, ◌≤◌, ◌<◌}
use native.Mathlib.Nat.{le_refl, le_of_eq}
use native.Mathlib.Omega.{arith}
use lib.Arith.{digits_div, digits_mod}
use Rattle.torus.specs.Sum.{sum}
use Rattle.torus.proofs.Sums.{sum_mul, sum_blocks}
use Rattle.torus.proofs.Near.{near_refl, near_path}
use Rattle.ring.proofs.Poly.{Poly, ◌⊕◌, ◌⊙◌, nil, psum, psum_cong, psum_linear, psum_scale, scale_mul, mul, mul_linear, mul_linear_left}
use Rattle.ring.proofs.Terms.{mul_swap}
use Rattle.ring.proofs.Close.{Close, close_weaken, close_trans, close_from, close_add, close_scale, close_psum, close_psum_const, mul_close}
use Rattle.trgsw.proofs.Signed.{Sample, dot, dot_psum, dot_mul, dot_add, dot_scale, Weight}

-- A sum over the rows is one over the polynomials and the L rows for each.
psum_blocks : (n L : ℕ) (f : ℕ → Poly) → psum (n * L) f ≡ psum n (λ c. psum L (λ j. f (c * L + j)))
unfolding psum
psum_blocks n L f = fun_ext λ i. sum_blocks n L (λ r. f r i)

-- ---- the external product

-- The sum over the rows of the digit polynomial times the row.
unfoldable pub row_sum : (z N n L : ℕ) (R : ℕ → Sample) (D : ℕ → Poly) → Sample
row_sum z N n L R D c = psum (n * L) (λ r. mul z N (D r) (R r c))

-- The rows hold the bit m within A under the key s.
abbrev pub HoldsRows : (z N n L : ℕ) (s : ℕ → Poly) (h : ℕ → ℕ) (A m : ℕ) (R : ℕ → Sample) → Type 0
HoldsRows z N n L s h A m R = (r : ℕ) → r < n * L → Close (suc z) N A (dot z N n s (R r)) ((m * h (r % L)) ⊙ s (r / L))

-- Digits of x: each is within B of 0, and of each polynomial they add up, with the steps, to what is within E of it.
pub record Digits (z N n L : ℕ) (h : ℕ → ℕ) (B E : ℕ) (x : Sample) (D : ℕ → Poly) : Type 0 where
  pub low : (r : ℕ) → r < n * L → Close (suc z) N B (D r) nil
  pub near : (c : ℕ) → c < n → Close (suc z) N E (psum L (λ j. h j ⊙ D (c * L + j))) (x c)

module _ (z N n L : ℕ) (s : ℕ → Poly) where
  -- Its phase is the sum over the rows of the digit polynomial times the row's phase.
  row_phases : (R : ℕ → Sample) (D : ℕ → Poly) → dot z N n s (row_sum z N n L R D) ≡ psum (n * L) (λ r. mul z N (D r) (dot z N n s (R r)))
  unfolding row_sum
  row_phases R D =
      dot_psum z N n s (n * L) (λ r c. mul z N (D r) (R r c)) ∙ psum_cong (n * L) _ _ (λ r l. dot_mul z N n s (D r) (R r))

  -- What the rows for one polynomial give if their phases are exact.
  ideal_rows : (m : ℕ) (h : ℕ → ℕ) (D : ℕ → Poly) (t : Poly)
      → psum L (λ j. mul z N (D j) ((m * h j) ⊙ t)) ≡ m ⊙ mul z N (psum L (λ j. h j ⊙ D j)) t
  ideal_rows m h D t =
      psum_cong L _ _
      (λ j l. (mul_linear z N (D j)).on_scale (m * h j) t ∙ scale_mul m (h j) _ ∙ ap (λ q. m ⊙ q) (sym ((mul_linear_left z N t).on_scale (h j) (D j))))
      ∙ psum_scale m L _ ∙ ap (λ q. m ⊙ q) (sym (psum_linear (mul_linear_left z N t) L _))

  -- And all rows.
  ideal : (m : ℕ) (h : ℕ → ℕ) (D : ℕ → Poly)
      → psum (n * L) (λ r. mul z N (D r) ((m * h (r % L)) ⊙ s (r / L))) ≡ m ⊙ psum n (λ c. mul z N (psum L (λ j. h j ⊙ D (c * L + j))) (s c))
  ideal m h D =
      psum_blocks n L _
      ∙ psum_cong n _ _
      (λ c lc. psum_cong L _ _ (λ j lj. ap₂ (λ u v. mul z N (D (c * L + j)) ((m * h u) ⊙ s v)) (digits_mod c lj) (digits_div c lj))
      ∙ ideal_rows m h (λ j. D (c * L + j)) (s c))
      ∙ psum_scale m n _

  -- The phase of an external product is within this of m times the sample's.
  pub external_close : (h w : ℕ → ℕ) (A B E m : ℕ) (R : ℕ → Sample) (x : Sample) (D : ℕ → Poly)
      → ((c : ℕ) → c < n → Weight z N (s c) (w c)) → HoldsRows z N n L s h A m R → Digits z N n L h B E x D
      → Close (suc z) N (n * L * (N * (B * A)) + m * (sum n w * E)) (dot z N n s (row_sum z N n L R D)) (m ⊙ dot z N n s x)
  unfolding dot
  external_close h w A B E m R x D hw h_r h_d =
      close_from (λ i l. ap (λ p. p i) (row_phases R D))
      (close_trans (close_psum_const (n * L) (N * (B * A)) (λ r l. mul_close z N (D r) (h_d.low r l) (h_r r l)))
      (close_from (λ i l. ap (λ p. p i) (ideal m h D))
      (close_scale m
      (close_weaken (le_of_eq (sum_mul n w E))
      (close_psum n (λ c. w c * E) (λ c l. close_from (mul_swap z N _ (s c)) (hw c l E _ _ (h_d.near c l))))))))

-- ---- the CMux

-- x₁ - x₀
unfoldable pub minus : ℕ → Sample → Sample → Sample
minus z x₁ x₀ c = x₁ c ⊕ z ⊙ x₀ c

-- The one that the bit m names.
abbrev pub pick {ℓ} : {S : Type ℓ} → ℕ → S → S → S
pick zero a b = a
pick (suc m) a b = b

-- f₀ + 0·(f₁ - f₀) = f₀ and f₀ + 1·(f₁ - f₀) = f₁.
chosen : (z N m : ℕ) (f₀ f₁ : Poly) → m ≤ 1 → Close (suc z) N 0 (f₀ ⊕ m ⊙ (f₁ ⊕ z ⊙ f₀)) (pick m f₀ f₁)
unfolding ◌⊕◌ ◌⊙◌
chosen z N zero f₀ f₁ l i li = near_path (omega arith)
chosen z N (suc zero) f₀ f₁ l i li = record { u = 0; v = 0; s = 0; t = f₀ i; same = omega arith; small = le_refl 0 }
chosen z N (suc (suc m)) f₀ f₁ l i li = absurd (omega arith)

module _ (z N n : ℕ) (s : ℕ → Poly) where
  -- The phase of a difference is the difference of the phases.
  phase_minus : (x₁ x₀ : Sample) → dot z N n s (minus z x₁ x₀) ≡ dot z N n s x₁ ⊕ z ⊙ dot z N n s x₀
  unfolding minus
  phase_minus x₁ x₀ = dot_add z N n s x₁ (λ c. z ⊙ x₀ c) ∙ ap (λ q. dot z N n s x₁ ⊕ q) (dot_scale z N n s z x₀)

  -- If y's phase is within C of m times that of x₁ - x₀, that of x₀ + y is within C of the phase that m names.
  pub cmux_close : (C m : ℕ) (y x₀ x₁ : Sample) → m ≤ 1 → Close (suc z) N C (dot z N n s y) (m ⊙ dot z N n s (minus z x₁ x₀))
      → Close (suc z) N C (dot z N n s (λ c. x₀ c ⊕ y c)) (pick m (dot z N n s x₀) (dot z N n s x₁))
  cmux_close C m y x₀ x₁ l h =
      close_weaken (omega arith)
      (close_trans
      (close_from (λ i li. ap (λ p. p i) (dot_add z N n s x₀ y)) (close_add {A = 0} (λ i li. near_refl _) h))
      (close_from (λ i li. ap (λ q. (dot z N n s x₀ ⊕ m ⊙ q) i) (phase_minus x₁ x₀)) (chosen z N m _ _ l)))
