-- An encrypted block holds its bit: within the greatest magnitude of its errors, under every key, for k masks and every gadget.
-- Assumes nothing.
use mathlib.Core.Path.{◌≡◌, refl, ap, sym, ◌∙◌}
use mathlib.Core.Logic.{◌≢◌}
use mathlib.Core.Bool.{cond}
use mathlib.Core.List.{List}
use Prim.Native.Nat.{ℕ, zero, suc, ◌+◌, ◌*◌, ◌/◌, ◌^◌, ◌≤◌, ◌<◌}
use native.Mathlib.Nat.{add-zero, zero-add, mul-zero, le_of_eq, le_trans, mod-lt}
use native.Mathlib.Decide.{ℕ_discrete}
use native.Mathlib.Omega.{arith}
use lib.Arith.{digits_div, digits_lt}
use lib.Dec.{eqb, lit<}
use lib.ListN.{length, get_or}
use borrow.Author.Tests.{eq-eqb, ne_eqb}
use Rattle.torus.specs.Sum.{chunk}
use Rattle.torus.specs.Word.{magnitude, distance}
use Rattle.torus.proofs.Lists.{length_tabulate, tabulate_at, tabulate_below}
use Rattle.torus.proofs.Joined.{chunk_inside, chunk_at, length_chunk, chunk_joined, joined_below}
use Rattle.torus.proofs.Near.{Near, near_path, near_sym, near_add, near_weaken, congruent_trans, near_congruent, congruent_add, near_mod}
use Rattle.torus.proofs.Magnitudes.{near_distance, magnitude_near}
use Rattle.ring.specs.Polynomial.{Agree}
use Rattle.ring.proofs.Poly.{Poly, ◌⊕◌, ◌⊙◌, nil, psum_only, mul, mul_linear}
use Rattle.ring.proofs.Terms.{unit, mul_unit}
use Rattle.ring.proofs.Close.{Close}
use Rattle.row_terms.proofs.RowLaws.{component_lt}
use Rattle.trlwe.specs.Sample.{part, phase, encryption}
use Rattle.trlwe.proofs.Phases.{encryption_phase}
use Rattle.trgsw.specs.declared.Parameters.{Parameters}
use Rattle.trgsw.specs.Parameters.{key_size, sample_size, row_count}
use Rattle.trgsw.specs.Block.{row, scaled_step, row_phase, Holds}
use Rattle.selectors.specs.Encrypted.{encrypted_row, encrypted_block}
use Rattle.trgsw.proofs.Signed.{Sample, dot, dot_add, dot_congruent, weights, signed_weight, signed_key, phase_signed}
use Rattle.trgsw.proofs.Rows.{row_phase_near, row_phase_le}

-- ---- a gadget row's phase

-- The gadget row for polynomial d: S in its constant coefficient.
unfoldable constant : (S d : ℕ) → Sample
constant S d c = cond (eqb c d) (S ⊙ unit 0) nil

module _ (z N n : ℕ) (s : ℕ → Poly) (S d : ℕ) where
  -- The other polynomials of the row give nothing, and that one S times the key's.
  constant_other : (c : ℕ) → c ≢ d → mul z N (s c) (constant S d c) ≡ nil
  unfolding constant
  constant_other c h = rw (ne_eqb c d h) (mul_linear z N (s c)).on_nil

  constant_same : mul z N (s d) (constant S d d) ≡ S ⊙ mul z N (s d) (unit 0)
  unfolding constant
  constant_same = rw (eq-eqb d d refl) ((mul_linear z N (s d)).on_scale S (unit 0))

  -- Its phase is S times the key's polynomial.
  constant_phase : d < n → Agree N (dot z N n s (constant S d)) (S ⊙ s d)
  unfolding dot ◌⊙◌
  constant_phase l i li =
      ap (λ p. p i) (psum_only n d (λ c. mul z N (s c) (constant S d c)) constant_other l ∙ constant_same)
      ∙ ap (λ x. S * x) (mul_unit z N (s d) i li)

-- The words of the row, by the cases of the polynomial.
constant_words : (N S c d i : ℕ) → i < N → Dec (c ≡ d) → cond (eqb (c * N + i) (d * N)) S 0 ≡ constant S d c i
unfolding constant nil ◌⊙◌ unit
constant_words N S c d zero li (yes e) = rw (e, eq-eqb d d refl, eq-eqb (d * N + 0) (d * N) (omega arith)) (omega arith)
constant_words N S c d (suc i) li (yes e) = rw (e, eq-eqb d d refl, ne_eqb (d * N + suc i) (d * N) (omega arith)) (sym (mul-zero S))
constant_words N S c d i li (no h) =
    let other : c * N + i ≡ d * N → ⊥ = λ e. h (sym (digits_div c li) ∙ ap (λ t. t / N) (e ∙ sym (add-zero (d * N))) ∙ digits_div d (omega arith)) in
    rw (ne_eqb c d h, ne_eqb (c * N + i) (d * N) other)

-- ---- an encrypted row's phase

module _ (p : Parameters) (m : ℕ) (K a errors : List ℕ) (r : ℕ) where
  -- The encryption of 0 in the row.
  abbrev hidden : List ℕ
  hidden = encryption p.N p.k K a errors (λ i. 0)

  -- A polynomial of the row is congruent to the sum of the encryption's and the gadget row's.
  row_words : (c : ℕ) → c < suc p.k
      → Close (2 ^ 32) p.N 0 (part p.N (encrypted_row p m K a errors r) c) (part p.N hidden c ⊕ constant (scaled_step p m r) (r / p.L) c)
  unfolding encrypted_row ◌⊕◌
  row_words c lc i li =
      congruent_trans (near_path (tabulate_at (sample_size p) _ (c * p.N + i) (digits_lt lc li)))
      (congruent_trans (near_mod _)
      (near_path (ap (λ x. part p.N hidden c i + x) (constant_words p.N (scaled_step p m r) c (r / p.L) i li (ℕ_discrete c (r / p.L))))))

  -- And so are the phases.
  row_signed : r / p.L < suc p.k
      → Close (2 ^ 32) p.N 0 (phase p.N p.k K (encrypted_row p m K a errors r))
      (phase p.N p.k K hidden ⊕ scaled_step p m r ⊙ signed_key p.N p.k K (r / p.L))
  unfolding ◌⊕◌
  row_signed lr i li =
      congruent_trans (phase_signed p.N p.k K (encrypted_row p m K a errors r) i li)
      (congruent_trans
      (dot_congruent 4294967295 p.N (suc p.k) (signed_key p.N p.k K) (weights p.N p.k (part p.N K)) (signed_weight 4294967295 p.N p.k (part p.N K)) _
      (λ c. part p.N hidden c ⊕ constant (scaled_step p m r) (r / p.L) c) row_words i li)
      (congruent_trans (near_path (ap (λ q. q i) (dot_add 4294967295 p.N (suc p.k) (signed_key p.N p.k K) (part p.N hidden) _)))
      (congruent_add (near_sym (phase_signed p.N p.k K hidden i li))
      (near_path (constant_phase 4294967295 p.N (suc p.k) (signed_key p.N p.k K) (scaled_step p m r) (r / p.L) lr i li)))))

  -- The phase of the encryption is the error, which is within its magnitude of 0.
  hidden_near : length a ≡ key_size p → (i : ℕ) → i < p.N → get_or errors i 0 < 2 ^ 32
      → Near (2 ^ 32) (magnitude (get_or errors i 0)) (phase p.N p.k K hidden i) 0
  hidden_near size i li word =
      congruent_trans (near_path (encryption_phase p.N p.k K a errors (λ j. 0) size i li))
      (congruent_trans (near_mod (0 + get_or errors i 0)) (congruent_trans (near_path (zero-add _)) (magnitude_near word)))

  -- The row's phase is within the error's magnitude of what it should be.
  row_holds : length a ≡ key_size p → m ≤ 1 → r / p.L < suc p.k → (i : ℕ) → i < p.N → get_or errors i 0 < 2 ^ 32
      → distance (phase p.N p.k K (encrypted_row p m K a errors r) i) (row_phase p m K r i) ≤ magnitude (get_or errors i 0)
  unfolding ◌⊕◌
  row_holds size lm lr i li word =
      near_distance (row_phase_le p m K r i lm)
      (congruent_trans (row_signed lr i li)
      (near_congruent
      (near_weaken (le_of_eq (add-zero _)) (near_add (hidden_near size i li word) (near_sym (row_phase_near p m K r i li))))
      (near_path (zero-add _))))

-- ---- the block

-- A row has the length of a sample.
pub length_row : (p : Parameters) (m : ℕ) (K a errors : List ℕ) (r : ℕ) → length (encrypted_row p m K a errors r) ≡ sample_size p
unfolding encrypted_row
length_row p m K a errors r = length_tabulate (sample_size p) _

-- Row r of the block.
block_row : (p : Parameters) (m : ℕ) (K masks errors : List ℕ) (r : ℕ) → r < row_count p
    → row p r (encrypted_block p m K masks errors) ≡ encrypted_row p m K (chunk (key_size p) r masks) (chunk p.N r errors) r
unfolding encrypted_block
block_row p m K masks errors r l = chunk_joined (row_count p) (sample_size p) _ (λ c lc. length_row p m K _ _ c) r l

-- A block that encrypts m with errors of magnitudes up to A holds m within A.
pub encrypted_holds : (p : Parameters) (m A : ℕ) (K masks errors : List ℕ) → m ≤ 1 → length masks ≡ row_count p * key_size p
    → ((t : ℕ) → t < row_count p * p.N → get_or errors t 0 < 2 ^ 32) → ((t : ℕ) → t < row_count p * p.N → magnitude (get_or errors t 0) ≤ A)
    → Holds p m A K (encrypted_block p m K masks errors)
encrypted_holds p m A K masks errors lm size word small r i lr li =
    let at : get_or (chunk p.N r errors) i 0 ≡ get_or errors (r * p.N + i) 0 = chunk_at p.N r errors i li in
    let inside : r * p.N + i < row_count p * p.N = digits_lt lr li in
    let long : length (chunk (key_size p) r masks) ≡ key_size p =
    length_chunk (key_size p) r masks (omega (arith, chunk_inside r (row_count p) (key_size p) lr)) in
    rw (block_row p m K masks errors r lr)
    (le_trans (row_holds p m K (chunk (key_size p) r masks) (chunk p.N r errors) r long lm (component_lt p.k p.L r lr) i li (rw at (word _ inside)))
    (rw at (small _ inside)))

-- A block is of words, so what is left as bytes is the block.
row_below : (p : Parameters) (m : ℕ) (K a errors : List ℕ) (r t : ℕ) → get_or (encrypted_row p m K a errors r) t 0 < 2 ^ 32
unfolding encrypted_row
row_below p m K a errors r = tabulate_below (2 ^ 32) _ _ (lit< tt) (λ t. mod-lt _ (lit< tt))

pub block_below : (p : Parameters) (m : ℕ) (K masks errors : List ℕ) (t : ℕ) → get_or (encrypted_block p m K masks errors) t 0 < 2 ^ 32
unfolding encrypted_block
block_below p m K masks errors = joined_below (2 ^ 32) _ _ (lit< tt) (λ r. row_below p m K _ _ r)
