-- Sample extraction: the words of an extracted sample, and its phase.
-- Assumes nothing.
use mathlib.Core.Path.{◌≡◌, ap, ap₂, sym, ◌∙◌}
use mathlib.Core.Bool.{Bool, true, false, cond}
use mathlib.Core.List.{List, [], ◌∷◌}
use Prim.Native.Nat.{ℕ, ◌+◌, ◌-◌, ◌*◌, ◌/◌, ◌%◌, ◌^◌, ◌≤◌, ◌<◌}
use native.Mathlib.Nat.{zero-add, mul_comm, lt_of_not-le, mod-lt}
use native.Mathlib.Decide.{dec_le}
use native.Mathlib.Omega.{arith}
use lib.Arith.{digits_div, digits_mod, digits_lt}
use lib.Dec.{lit<, leb}
use lib.ListN.{length, get_or, length-append, get_or-append}
use lib.Seq.{get_or_at}
use borrow.Author.Tests.{le-leb, lt-leb}
use Rattle.torus.specs.Sum.{sum, tabulate}
use Rattle.torus.specs.Word.{sub}
use Rattle.torus.proofs.Sums.{sum_cong, sum_blocks}
use Rattle.torus.proofs.Lists.{length_tabulate, tabulate_at, tabulate_below, append_below}
use Rattle.torus.proofs.Near.{Near, near_path, near_sym, congruent_trans, congruent_scale, congruent_sum, near_mod, near_eq, sub_near}
use Rattle.ring.specs.Polynomial.{product}
use Rattle.ring.proofs.Poly.{◌⊙◌, psum, rotn, mul}
use Rattle.ring.proofs.Terms.{rotn_low, rotn_high, product_mul}
use Rattle.trlwe.specs.Sample.{part, masked, phase}
use Rattle.lwe.specs.Scalar.{scalar_phase, extracted_word, extracted}

-- ---- one mask

cond_below : (m : ℕ) (b : Bool) (x y : ℕ) → x < m → y < m → cond b x y < m
cond_below m true x y hx hy = hx
cond_below m false x y hx hy = hy

module _ (N p : ℕ) (a : ℕ → ℕ) where
  pub word_low : (j : ℕ) → j ≤ p → extracted_word N p a j ≡ a (p - j)
  unfolding extracted_word
  word_low j l = simp (le-leb j p l)

  pub word_high : (j : ℕ) → p < j → extracted_word N p a j ≡ sub 0 (a (N + p - j))
  unfolding extracted_word
  word_high j l = simp (lt-leb j p l)

module _ (N p : ℕ) (a : ℕ → ℕ) (words : (i : ℕ) → a i < 2 ^ 32) where
  word_below : (j : ℕ) → extracted_word N p a j < 2 ^ 32
  unfolding extracted_word
  word_below j = cond_below (2 ^ 32) (leb j p) (a (p - j)) (sub 0 (a (N + p - j))) (words (p - j)) (mod-lt _ (lit< tt))

  -- Mask word j is coefficient p of X^j·a.
  word_turned : (j : ℕ) → j < N → Near (2 ^ 32) 0 (extracted_word N p a j) (rotn 4294967295 N j a p)
  word_turned j l = go (dec_le j p)
    where
      go : Dec (j ≤ p) → Near (2 ^ 32) 0 (extracted_word N p a j) (rotn 4294967295 N j a p)
      go (yes h) = near_path (word_low N p a j h ∙ sym (rotn_low 4294967295 N j a p h))
      go (no n) =
          let h : p < j = lt_of_not-le n in
          let word : a (N + p - j) < 2 ^ 32 = words (N + p - j) in
          congruent_trans (near_path (word_high N p a j h))
          (congruent_trans (sub_near 0 (a (N + p - j)) (omega arith))
          (near_path (zero-add _ ∙ sym (rotn_high 4294967295 N j a p h (omega arith)))))

  -- The sum of the mask words times y's coefficients is coefficient p of y·a.
  mask_product : (y : ℕ → ℕ) → p < N → Near (2 ^ 32) 0 (sum N (λ j. extracted_word N p a j * y j)) (product N y a p)
  unfolding mul psum ◌⊙◌
  mask_product y l =
      congruent_trans
      (congruent_sum N _ (λ j. y j * rotn 4294967295 N j a p)
      (λ j lj. congruent_trans (near_path (mul_comm _ (y j))) (congruent_scale (y j) (word_turned j lj))))
      (congruent_trans (near_sym (near_mod _)) (near_path (sym (product_mul N y a p l))))

-- ---- the sample

-- Word t of the extracted masks, one after another.
abbrev pub mask_word : (N p : ℕ) → List ℕ → ℕ → ℕ
mask_word N p sample t = extracted_word N p (part N sample (t / N)) (t % N)

abbrev masks : (N k p : ℕ) → List ℕ → List ℕ
masks N k p sample = tabulate (k * N) (mask_word N p sample)

module _ (N k p : ℕ) (sample : List ℕ) where
  length_masks : length (masks N k p sample) ≡ k * N
  length_masks = length_tabulate (k * N) (mask_word N p sample)

  pub length_extracted : length (extracted N k p sample) ≡ k * N + 1
  unfolding extracted
  length_extracted = length-append (masks N k p sample) (part N sample k p ∷ []) ∙ ap (λ n. n + 1) length_masks

  -- Word j of mask c.
  extracted_mask : (c j : ℕ) → c < k → j < N → get_or (extracted N k p sample) (c * N + j) 0 ≡ extracted_word N p (part N sample c) j
  unfolding extracted
  extracted_mask c j lc lj =
      let before : c * N + j < k * N = digits_lt lc lj in
      get_or-append (masks N k p sample) (part N sample k p ∷ []) 0 (c * N + j) (omega (arith, length_masks))
      ∙ tabulate_at (k * N) (mask_word N p sample) (c * N + j) before
      ∙ ap₂ (λ d r. extracted_word N p (part N sample d) r) (digits_div c lj) (digits_mod c lj)

  extracted_body : get_or (extracted N k p sample) (k * N) 0 ≡ part N sample k p
  unfolding extracted
  extracted_body = get_or_at (masks N k p sample) (part N sample k p) [] 0 (k * N) length_masks

  -- Every word of it is a word.
  pub extracted_below : ((i : ℕ) → get_or sample i 0 < 2 ^ 32) → (i : ℕ) → get_or (extracted N k p sample) i 0 < 2 ^ 32
  unfolding extracted tabulate
  extracted_below words =
      append_below (2 ^ 32) (masks N k p sample) (part N sample k p ∷ [])
      (tabulate_below (2 ^ 32) (k * N) (mask_word N p sample) (lit< tt)
      (λ t. word_below N p (part N sample (t / N)) (λ i. words (t / N * N + i)) (t % N)))
      (tabulate_below (2 ^ 32) 1 (λ i. part N sample k p) (lit< tt) (λ i. words (k * N + p)))

-- Extraction keeps the phase: that of the scalar sample is coefficient p of that of the sample.
pub extract_phase : (N k p : ℕ) (key sample : List ℕ) → p < N → ((i : ℕ) → get_or sample i 0 < 2 ^ 32)
    → scalar_phase (k * N) key (extracted N k p sample) ≡ phase N k key sample p
unfolding scalar_phase phase masked
extract_phase N k p key sample l words =
    ap₂ sub (extracted_body N k p sample)
    (ap (λ x. x % 2 ^ 32) (sum_blocks k N _)
    ∙ near_eq {Q = 2 ^ 32} (congruent_sum k _ _
    (λ c lc.
    congruent_trans (near_path (sum_cong N _ _ (λ j lj. ap (λ x. x * part N key c j) (extracted_mask N k p sample c j lc lj))))
    (mask_product N p (part N sample c) (λ i. words (c * N + i)) (part N key c) l))))
