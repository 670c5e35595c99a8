-- What the external product and the CMux do to the noise, on lists of words: for k masks, every lawful gadget, and every key whose
-- words add up to at most W. Their results are within the charge of what they should be, in every coefficient of the phase.
-- Assumes nothing.
use mathlib.Core.List.{List}
use Prim.Native.Nat.{ℕ, zero, suc, ◌+◌, ◌*◌, ◌^◌, ◌≤◌, ◌<◌, max}
use native.Mathlib.Nat.{le_refl, le_of_eq, le_of_lt, add_comm, one-mul, mod-lt, mul-le-mul, le-max_left, le-max_right, le_trans}
use native.Mathlib.Omega.{arith}
use lib.Arith.{digits_lt}
use lib.Dec.{lit<}
use lib.ListN.{get_or}
use borrow.Author.Tests.{ne_eqb}
use Rattle.torus.specs.Sum.{sum}
use Rattle.torus.specs.Word.{add, mul, distance}
use Rattle.torus.proofs.Sums.{ones_le}
use Rattle.torus.proofs.Lists.{tabulate_at}
use Rattle.torus.proofs.Near.{Near, near_refl, near_path, near_sym, near_trans, near_weaken, near_scale, congruent_trans, near_congruent, congruent_add, congruent_scale, near_mod, sub_near}
use Rattle.torus.proofs.Magnitudes.{near_distance, distance_near}
use Rattle.ring.specs.Polynomial.{coefficients}
use Rattle.ring.proofs.Poly.{◌⊕◌, ◌⊙◌}
use Rattle.ring.proofs.Close.{Close, close_sym, close_weaken}
use Rattle.trlwe.specs.Sample.{part, phase}
use Rattle.trlwe.proofs.Phases.{phase_le}
use Rattle.trgsw.specs.declared.Parameters.{Parameters}
use Rattle.trgsw.specs.Parameters.{sample_size}
use Rattle.trgsw.specs.External.{external, external_sample, difference, cmux_sample, picked, charge, Selecting}
use Rattle.trgsw.proofs.Signed.{dot_congruent, weights, signed_weight, signed_key, signed_phase, phase_signed}
use Rattle.trgsw.proofs.Gate.{minus, pick, cmux_close}
use Rattle.trgsw.proofs.Rows.{rows_product, external_rows, polynomials_signed, product_signed}

-- ---- the external product

-- The external product's phase is within the charge of m times the sample's.
pub external_near : (p : Parameters) (m A : ℕ) (K block x : List ℕ) → Selecting p m A K block
    → Close (2 ^ 32) p.N (charge p A) (phase p.N p.k K (external_sample p block x)) (λ i. m * phase p.N p.k K x i)
unfolding external_sample ◌⊙◌
external_near p m A K block x given i l =
    congruent_trans (polynomials_signed p.N p.k K _ (rows_product p block x) (λ c lc. external_rows p block x c) i l)
    (near_congruent (product_signed p m A K block x given i l) (congruent_scale m (near_sym (phase_signed p.N p.k K x i l))))

-- The same as a distance of words.
pub external_charge : (p : Parameters) (m A : ℕ) (K block x : List ℕ) → Selecting p m A K block
    → (i : ℕ) → i < p.N → distance (phase p.N p.k K (external_sample p block x) i) (mul m (phase p.N p.k K x i)) ≤ charge p A
external_charge p m A K block x given i l =
    near_distance (le_of_lt (mod-lt _ (lit< tt)))
    (near_congruent (external_near p m A K block x given i l) (near_sym (near_mod (m * phase p.N p.k K x i))))

-- A bit scales a distance to no more than it is.
bit_scale : (m B : ℕ) {x y : ℕ} → m ≤ 1 → Near (2 ^ 32) B x y → Near (2 ^ 32) B (m * x) (m * y)
bit_scale m B l h = near_weaken (le_trans (mul-le-mul l (le_refl B)) (le_of_eq (one-mul B))) (near_scale m h)

-- If the sample is within B of f, its product is within the charge plus B of m·f.
pub external_within : (p : Parameters) (m A B : ℕ) (K block x : List ℕ) (f : ℕ → ℕ) → Selecting p m A K block
    → ((i : ℕ) → i < p.N → f i < 2 ^ 32) → ((i : ℕ) → i < p.N → distance (phase p.N p.k K x i) (f i) ≤ B)
    → (i : ℕ) → i < p.N → distance (phase p.N p.k K (external_sample p block x) i) (mul m (f i)) ≤ charge p A + B
external_within p m A B K block x f given word near i l =
    let input : Near (2 ^ 32) B (phase p.N p.k K x i) (f i) = near_weaken (near i l) (distance_near (le_of_lt (word i l))) in
    near_distance (le_of_lt (mod-lt _ (lit< tt)))
    (near_congruent (near_trans (external_near p m A K block x given i l) (bit_scale m B given.bit input))
    (near_sym (near_mod (m * f i))))

-- ---- the CMux

-- To take the difference of two samples' words is to take the difference of their polynomials.
difference_near : (N k : ℕ) (x₀ x₁ : List ℕ) → ((t : ℕ) → get_or x₀ t 0 < 2 ^ 32) → (c : ℕ) → c < suc k
    → Close (2 ^ 32) N 0 (part N (difference (suc k * N) x₁ x₀) c) (minus 4294967295 (part N x₁) (part N x₀) c)
unfolding difference minus ◌⊕◌ ◌⊙◌
difference_near N k x₀ x₁ word c lc i li =
    congruent_trans (near_path (tabulate_at (suc k * N) _ (c * N + i) (digits_lt lc li)))
    (sub_near (part N x₁ c i) (part N x₀ c i) (le_of_lt (word (c * N + i))))

-- And so for the phase.
difference_signed : (N k : ℕ) (K x₀ x₁ : List ℕ) → ((t : ℕ) → get_or x₀ t 0 < 2 ^ 32)
    → Close (2 ^ 32) N 0 (signed_phase N k K (part N (difference (suc k * N) x₁ x₀))) (signed_phase N k K (minus 4294967295 (part N x₁) (part N x₀)))
difference_signed N k K x₀ x₁ word =
    dot_congruent 4294967295 N (suc k) (signed_key N k K) (weights N k (part N K)) (signed_weight 4294967295 N k (part N K)) _ _
    (difference_near N k x₀ x₁ word)

-- A polynomial of the CMux is congruent to the sum of the first sample's and the product's.
cmux_rows : (p : Parameters) (block x₀ d : List ℕ) (c : ℕ)
    → Close (2 ^ 32) p.N 0 (λ i. add (part p.N x₀ c i) (external p block d c i)) (part p.N x₀ c ⊕ rows_product p block d c)
unfolding ◌⊕◌
cmux_rows p block x₀ d c i l =
    congruent_trans (near_mod _) (congruent_add (near_refl (part p.N x₀ c i)) (external_rows p block d c i l))

-- The phase of the sample that the bit names.
picked_near : (N k m : ℕ) (K x₀ x₁ : List ℕ)
    → Close (2 ^ 32) N 0 (pick m (signed_phase N k K (part N x₀)) (signed_phase N k K (part N x₁))) (phase N k K (picked m x₀ x₁))
picked_near N k zero K x₀ x₁ = close_sym (phase_signed N k K x₀)
picked_near N k (suc m) K x₀ x₁ = rw (ne_eqb (suc m) 0 (omega arith)) (close_sym (phase_signed N k K x₁))

-- The CMux's phase is within the charge of that of the sample that the bit names.
pub cmux_near : (p : Parameters) (m A : ℕ) (K block x₀ x₁ : List ℕ) → Selecting p m A K block → ((t : ℕ) → get_or x₀ t 0 < 2 ^ 32)
    → Close (2 ^ 32) p.N (charge p A) (phase p.N p.k K (cmux_sample p block x₀ x₁)) (phase p.N p.k K (picked m x₀ x₁))
unfolding cmux_sample ◌⊙◌
cmux_near p m A K block x₀ x₁ given word i l =
    let d : List ℕ = difference (sample_size p) x₁ x₀ in
    congruent_trans (polynomials_signed p.N p.k K _ (λ c. part p.N x₀ c ⊕ rows_product p block d c) (λ c lc. cmux_rows p block x₀ d c) i l)
    (near_congruent
    (cmux_close 4294967295 p.N (suc p.k) (signed_key p.N p.k K) (charge p A) m (rows_product p block d) (part p.N x₀) (part p.N x₁) given.bit
    (λ j lj. near_congruent (product_signed p m A K block d given j lj)
    (congruent_scale m (difference_signed p.N p.k K x₀ x₁ word j lj))) i l)
    (picked_near p.N p.k m K x₀ x₁ i l))

-- The same as a distance of words.
pub cmux_charge : (p : Parameters) (m A : ℕ) (K block x₀ x₁ : List ℕ) → Selecting p m A K block → ((t : ℕ) → get_or x₀ t 0 < 2 ^ 32)
    → (i : ℕ) → i < p.N → distance (phase p.N p.k K (cmux_sample p block x₀ x₁) i) (phase p.N p.k K (picked m x₀ x₁) i) ≤ charge p A
cmux_charge p m A K block x₀ x₁ given word i l =
    near_distance (phase_le p.N p.k K (picked m x₀ x₁) i) (cmux_near p m A K block x₀ x₁ given word i l)

-- Of two samples within A₀ of f₀ and within A₁ of f₁, the one that the bit names is within the greater of the message that it names.
picked_within : (N k m A₀ A₁ : ℕ) (K x₀ x₁ : List ℕ) (f₀ f₁ : ℕ → ℕ)
    → Close (2 ^ 32) N A₀ (phase N k K x₀) f₀ → Close (2 ^ 32) N A₁ (phase N k K x₁) f₁
    → Close (2 ^ 32) N (max A₀ A₁) (phase N k K (picked m x₀ x₁)) (picked m f₀ f₁)
picked_within N k zero A₀ A₁ K x₀ x₁ f₀ f₁ h₀ h₁ = close_weaken (le-max_left A₀ A₁) h₀
picked_within N k (suc m) A₀ A₁ K x₀ x₁ f₀ f₁ h₀ h₁ = rw (ne_eqb (suc m) 0 (omega arith)) (close_weaken (le-max_right A₀ A₁) h₁)

-- The message that the bit names is one of two lists of words.
picked_le : (m i : ℕ) (f₀ f₁ : ℕ → ℕ) → f₀ i < 2 ^ 32 → f₁ i < 2 ^ 32 → picked m f₀ f₁ i ≤ 2 ^ 32
picked_le zero i f₀ f₁ w₀ w₁ = le_of_lt w₀
picked_le (suc m) i f₀ f₁ w₀ w₁ = rw (ne_eqb (suc m) 0 (omega arith)) (le_of_lt w₁)

-- "If the inputs are within A0 and A1, the output is within max(A0, A1) plus the charge": of f₀ and f₁, and of the one that m names.
pub cmux_within : (p : Parameters) (m A A₀ A₁ : ℕ) (K block x₀ x₁ : List ℕ) (f₀ f₁ : ℕ → ℕ) → Selecting p m A K block → ((t : ℕ) → get_or x₀ t 0 < 2 ^ 32)
    → ((i : ℕ) → i < p.N → f₀ i < 2 ^ 32) → ((i : ℕ) → i < p.N → f₁ i < 2 ^ 32)
    → ((i : ℕ) → i < p.N → distance (phase p.N p.k K x₀ i) (f₀ i) ≤ A₀) → ((i : ℕ) → i < p.N → distance (phase p.N p.k K x₁ i) (f₁ i) ≤ A₁)
    → (i : ℕ) → i < p.N → distance (phase p.N p.k K (cmux_sample p block x₀ x₁) i) (picked m f₀ f₁ i) ≤ max A₀ A₁ + charge p A
cmux_within p m A A₀ A₁ K block x₀ x₁ f₀ f₁ given word w₀ w₁ h₀ h₁ i l =
    near_distance (picked_le m i f₀ f₁ (w₀ i l) (w₁ i l))
    (near_weaken (le_of_eq (add_comm (charge p A) (max A₀ A₁)))
    (near_trans (cmux_near p m A K block x₀ x₁ given word i l)
    (picked_within p.N p.k m A₀ A₁ K x₀ x₁ f₀ f₁ (λ j lj. near_weaken (h₀ j lj) (distance_near (le_of_lt (w₀ j lj))))
    (λ j lj. near_weaken (h₁ j lj) (distance_near (le_of_lt (w₁ j lj)))) i l)))

-- ---- the key

-- The words of a key of 0s and 1s add up to at most their number.
pub key_weight : (N k : ℕ) (K : List ℕ) → ((t : ℕ) → t < k * N → get_or K t 0 ≤ 1) → sum (k * N) (coefficients K) ≤ k * N
key_weight N k K h = ones_le (k * N) (coefficients K) h
