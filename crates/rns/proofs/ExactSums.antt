-- The words of sums of products, from their remainders modulo the two primes.
-- Assumes nothing.
use mathlib.Core.Path.{◌≡◌, refl, sym, subst}
use Prim.Native.Nat.{ℕ, suc, ◌+◌, ◌*◌, ◌-◌, ◌^◌, ◌≤◌, ◌<◌}
use native.Mathlib.Nat.{mul-le-mul_right}
use native.Mathlib.Omega.{arith}
use Rattle.torus.specs.Sum.{sum}
use Rattle.torus.specs.Word.{magnitude}
use Rattle.torus.proofs.Sums.{sum_add}
use Rattle.torus.proofs.Magnitudes.{magnitude_le}
use Rattle.ring.specs.Polynomial.{product}
use Rattle.ring.proofs.Poly.{Poly, ◌⊕◌, ◌⊙◌, mul}
use Rattle.ring.proofs.Terms.{product_mul}
use Rattle.butterflies.specs.Same.{Same}
use Rattle.butterflies.proofs.SameLaws.{same_refl, same_sym, same_trans, same_path, same_sum, same_mod}
use Rattle.ntt.proofs.Split.{mul_cong}
use Rattle.twiddles.specs.Primes.{P1, P2}
use Rattle.residues.specs.Residues.{above, below, residue, residues, Word}
use Rattle.held_sums.specs.Sums.{row_sums}
use Rattle.residues.proofs.Words.{parts_magnitude, word_residue}
use Rattle.held_sums.proofs.Rows.{product_modulo_mul}
use Rattle.rns.proofs.Signed.{plus, less, signed_product, sum_le, sum_add_scale, size_le}

-- The two sides of a sum over R rows.
module _ (N R D : ℕ) (y b : ℕ → Poly) (room : R * (N * D) ≤ 268415999) (small : (r i : ℕ) → r < R → i < N → magnitude (y r i) ≤ D)
    (yw : (r i : ℕ) → r < R → i < N → y r i < 2 ^ 32) (bw : (r i : ℕ) → r < R → i < N → b r i < 2 ^ 32) (k : ℕ) (lk : k < N) where
  ups : (ℕ → Poly) → ℕ → Poly
  ups f r i = above (f r i)

  downs : (ℕ → Poly) → ℕ → Poly
  downs f r i = below (f r i)

  added : ℕ → ℕ
  added r = plus N (ups y r) (downs y r) (ups b r) (downs b r) k

  taken : ℕ → ℕ
  taken r = less N (ups y r) (downs y r) (ups b r) (downs b r) k

  bounded : sum R added + sum R taken ≤ 576418972683954176
  unfolding added taken ups downs
  bounded =
      let h : sum R (λ r. added r + taken r) ≤ R * (N * (D * 2147483648)) =
      sum_le R (N * (D * 2147483648)) _ (λ r lr. size_le N D 2147483648 (ups y r) (downs y r) (ups b r) (downs b r)
      (λ i li. rw (parts_magnitude (y r i)) (small r i lr li)) (λ i li. rw (parts_magnitude (b r i)) (magnitude_le (b r i))) k lk) in
      let e : R * (N * (D * 2147483648)) ≡ R * (N * D) * 2147483648 = omega arith in
      omega (arith, sum_add R added taken, mul-le-mul_right 2147483648 room)

  -- At any modulus.
  at : (z : ℕ) → Same (suc z) (sum R (λ r. mul z N (ups y r ⊕ z ⊙ downs y r) (ups b r ⊕ z ⊙ downs b r) k)) (sum R added + z * sum R taken)
  unfolding added taken
  at z = same_trans (same_sum R (λ r l. signed_product z N (ups y r) (downs y r) (ups b r) (downs b r) k lk)) (same_path (sum_add_scale z R added taken))

  modulo : (p : ℕ) → suc (p - 1) ≡ p → Same p (row_sums p N R y b k) (sum R added + (p - 1) * sum R taken)
  unfolding row_sums residues residue ups downs ◌⊕◌ ◌⊙◌
  modulo p o =
      same_trans (same_sum R (λ r l. same_path (sym (product_modulo_mul p N (residues p (y r)) (residues p (b r)) k lk))))
      (subst (λ q. Same q (sum R (λ r. mul (p - 1) N (residues p (y r)) (residues p (b r)) k)) (sum R added + (p - 1) * sum R taken)) o (at (p - 1)))

  words : Same 4294967296 (sum R (λ r. product N (y r) (b r) k)) (sum R added + 4294967295 * sum R taken)
  unfolding ups downs ◌⊕◌ ◌⊙◌
  words =
      same_trans (same_sum R (λ r l. same_trans (same_path (product_mul N (y r) (b r) k lk)) (same_trans (same_mod 4294967296 _)
      (mul_cong N (same_refl 4294967295) (λ i li. word_residue (y r i) (omega (arith, yw r i l li))) (λ i li. word_residue (b r i) (omega (arith, bw r i l li))) k lk))))
      (at 4294967295)

  -- The word of two remainders of the sum is the sum's.
  pub exact_word : (x₁ x₂ w : ℕ) → Word x₁ x₂ w → Same P1 x₁ (row_sums P1 N R y b k) → Same P2 x₂ (row_sums P2 N R y b k)
      → Same 4294967296 w (sum R (λ r. product N (y r) (b r) k))
  unfolding Word
  exact_word x₁ x₂ w W h g =
      same_trans (W (sum R added) (sum R taken) bounded (same_trans h (modulo P1 refl)) (same_trans g (modulo P2 refl)))
      (same_sym words)
