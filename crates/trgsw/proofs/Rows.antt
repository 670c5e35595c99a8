-- A block's rows, a sample's digits and their products on lists of words, as polynomials of the ring laws.
-- Assumes nothing.
use mathlib.Core.Path.{◌≡◌, ap, ap₂, sym, ◌∙◌, subst}
use mathlib.Core.Bool.{Bool, true, false, cond}
use mathlib.Core.List.{List}
use Prim.Native.Nat.{ℕ, zero, suc, ◌+◌, ◌*◌, ◌-◌, ◌/◌, ◌^◌, ◌≤◌, ◌<◌}
use native.Mathlib.Nat.{le_refl, le_of_lt, mod-lt, mul-zero, mul-le-mul}
use native.Mathlib.Omega.{arith}
use lib.Arith.{digits_div, digits_mod}
use lib.Dec.{eqb, ltb, lit<, lit≤}
use lib.Pow.{pow_mono}
use borrow.Author.Tests.{ne_eqb}
use Rattle.torus.specs.Sum.{sum}
use Rattle.torus.specs.Word.{sub, mul}
use Rattle.torus.proofs.Sums.{sum_cong, sum_blocks}
use Rattle.torus.proofs.Near.{Near, near_refl, near_path, near_sym, near_weaken, congruent_trans, near_congruent, congruent_add, congruent_scale, congruent_sum, near_mod, sub_near}
use Rattle.torus.proofs.Magnitudes.{distance_near}
use Rattle.gadget.specs.Digits.{Lawful, step, half, precision, digit}
use Rattle.gadget.proofs.Laws.{digit_small, digits_close}
use Rattle.ring.specs.Polynomial.{coefficients}
use Rattle.ring.proofs.Poly.{Poly, ◌⊙◌, nil, psum}
use Rattle.ring.proofs.Terms.{unit, product_mul}
use Rattle.ring.proofs.Close.{Close, close_weaken, close_from}
use Rattle.trlwe.specs.Sample.{part, polynomials, phase}
use Rattle.trlwe.proofs.Polynomials.{part_polynomials}
use Rattle.trgsw.specs.declared.Parameters.{Parameters}
use Rattle.trgsw.specs.Parameters.{row_count}
use Rattle.trgsw.specs.Block.{row, place, scaled_step, row_phase, Holds}
use Rattle.trgsw.specs.External.{row_digits, external, charge, Selecting}
use Rattle.trgsw.proofs.Signed.{Sample, dot_congruent, weights, signed, signed_weight, weights_sum, signed_key, signed_phase, phase_signed}
use Rattle.trgsw.proofs.Gate.{row_sum, HoldsRows, Digits, external_close}

-- The rows of a block as samples.
abbrev pub rows : (p : Parameters) (block : List ℕ) (r : ℕ) → Sample
rows p block r = part p.N (row p r block)

-- The steps, counted from 0.
abbrev pub steps : (g : ℕ) → ℕ → ℕ
steps g j = step g (suc j)

-- ---- what the rows and the digits meet

-- m·h_j is at most 2^32.
scaled_le : (p : Parameters) (m r : ℕ) → m ≤ 1 → scaled_step p m r ≤ 2 ^ 32
scaled_le p m r l =
    let small : step p.g (place p.L r) ≤ 2 ^ 32 = pow_mono {i = 32 - p.g * place p.L r} {j = 32} (omega arith) in
    omega (arith, mul-le-mul l small)

-- The phase that a row should have is m·h_j times the signed key: -m·h_j·K for a mask, m·h_j for the body.
row_near : (b : Bool) (S : ℕ) (p : Poly) (i : ℕ)
    → Near (2 ^ 32) 0 (cond b (sub 0 (mul S (p i))) (cond (eqb i 0) S 0)) (S * cond b (4294967295 ⊙ p) (unit 0) i)
unfolding ◌⊙◌ unit
row_near true S p i =
    congruent_trans (sub_near 0 (mul S (p i)) (le_of_lt (mod-lt _ (lit< tt))))
    (congruent_trans (congruent_add (near_refl 0) (congruent_scale 4294967295 (near_mod (S * p i)))) (near_path (omega arith)))
row_near false S p zero = near_path (omega arith)
row_near false S p (suc i) = near_path (ap (λ b. cond b S 0) (ne_eqb (suc i) 0 (omega arith)) ∙ sym (mul-zero S))

-- That phase is at most 2^32.
row_le : (b : Bool) (S w i : ℕ) → S ≤ 2 ^ 32 → cond b (sub 0 w) (cond (eqb i 0) S 0) ≤ 2 ^ 32
row_le true S w i l = le_of_lt (mod-lt _ (lit< tt))
row_le false S w zero l = l
row_le false S w (suc i) l = rw (ne_eqb (suc i) 0 (omega arith)) (lit≤ tt)

-- The same of the definition.
pub row_phase_near : (p : Parameters) (m : ℕ) (K : List ℕ) (r : ℕ)
    → Close (2 ^ 32) p.N 0 (row_phase p m K r) (scaled_step p m r ⊙ signed_key p.N p.k K (r / p.L))
unfolding row_phase signed ◌⊙◌
row_phase_near p m K r i l = row_near (ltb (r / p.L) p.k) (scaled_step p m r) (part p.N K (r / p.L)) i

pub row_phase_le : (p : Parameters) (m : ℕ) (K : List ℕ) (r i : ℕ) → m ≤ 1 → row_phase p m K r i ≤ 2 ^ 32
unfolding row_phase
row_phase_le p m K r i l =
    row_le (ltb (r / p.L) p.k) (scaled_step p m r) (mul (scaled_step p m r) (part p.N K (r / p.L) i)) i (scaled_le p m r l)

-- A block that holds m does so as a list of rows.
holds_rows : (p : Parameters) (m A : ℕ) (K block : List ℕ) → m ≤ 1 → Holds p m A K block
    → HoldsRows 4294967295 p.N (suc p.k) p.L (signed_key p.N p.k K) (steps p.g) A m (rows p block)
holds_rows p m A K block lm h r lr i li =
    congruent_trans (near_sym (phase_signed p.N p.k K (row p r block) i li))
    (near_congruent (near_weaken (h r i lr li) (distance_near (row_phase_le p m K r i lm))) (row_phase_near p m K r i li))

-- The digit polynomials are digits of the sample.
digits_hold : (p : Parameters) (x : List ℕ) → Lawful p.g p.L
    → Digits 4294967295 p.N (suc p.k) p.L (steps p.g) (half p.g) (precision p.g p.L) (part p.N x) (row_digits p x)
unfolding nil psum ◌⊙◌
digits_hold p x ok = record {
  low = λ r l i li. digit_small p.g p.L _ _ ok;
  near = λ c l i li. subst (λ y. Near (2 ^ 32) (precision p.g p.L) y (part p.N x c i))
      (sum_cong p.L _ _
      (λ j lj. sym (ap₂ (λ u v. steps p.g j * digit p.g p.L (part p.N x u i) (suc v)) (digits_div c lj) (digits_mod c lj))))
      (digits_close p.g p.L (part p.N x c i) ok);
}

-- ---- the external product

-- The external product as polynomials.
abbrev pub rows_product : (p : Parameters) (block x : List ℕ) → Sample
rows_product p block x = row_sum 4294967295 p.N (suc p.k) p.L (rows p block) (row_digits p x)

-- A polynomial of the external product is congruent to the sum over the rows.
pub external_rows : (p : Parameters) (block x : List ℕ) (c : ℕ) → Close (2 ^ 32) p.N 0 (external p block x c) (rows_product p block x c)
unfolding external row_sum psum
external_rows p block x c i l =
    congruent_trans (near_mod _)
    (congruent_sum (row_count p) _ _
    (λ r lr. congruent_trans (near_path (product_mul p.N (row_digits p x r) (rows p block r c) i l)) (near_mod _)))

-- A list of polynomials has the phase of what they are congruent to.
pub polynomials_signed : (N k : ℕ) (K : List ℕ) (f : ℕ → ℕ → ℕ) (x : Sample) → ((c : ℕ) → c < suc k → Close (2 ^ 32) N 0 (f c) (x c))
    → Close (2 ^ 32) N 0 (phase N k K (polynomials N (suc k) f)) (signed_phase N k K x)
polynomials_signed N k K f x h i l =
    congruent_trans (phase_signed N k K (polynomials N (suc k) f) i l)
    (dot_congruent 4294967295 N (suc k) (signed_key N k K) (weights N k (part N K)) (signed_weight 4294967295 N k (part N K)) _ x
    (λ c lc. close_from (λ j lj. part_polynomials N (suc k) f c j lc lj) (h c lc)) i l)

-- The charge is at least what the rows and the digits give.
charge_covers : (p : Parameters) (A m : ℕ) (K : List ℕ) → sum (p.k * p.N) (coefficients K) ≤ p.W → m ≤ 1
    → suc p.k * p.L * (p.N * (half p.g * A)) + m * (sum (suc p.k) (weights p.N p.k (part p.N K)) * precision p.g p.L) ≤ charge p A
unfolding charge
charge_covers p A m K light l =
    let whole : sum (p.k * p.N) (coefficients K) ≡ sum p.k (λ c. sum p.N (part p.N K c)) = sum_blocks p.k p.N (coefficients K) in
    let w : ℕ = sum (suc p.k) (weights p.N p.k (part p.N K)) in
    let small : w ≤ 1 + p.W = omega (arith, weights_sum 4294967295 p.N p.k (part p.N K)) in
    omega (arith, mul-le-mul l (mul-le-mul small (le_refl (precision p.g p.L))))

-- The phase of the product is within the charge of m times the sample's.
pub product_signed : (p : Parameters) (m A : ℕ) (K block x : List ℕ) → Selecting p m A K block
    → Close (2 ^ 32) p.N (charge p A) (signed_phase p.N p.k K (rows_product p block x)) (m ⊙ signed_phase p.N p.k K (part p.N x))
product_signed p m A K block x given =
    close_weaken (charge_covers p A m K given.light given.bit)
    (external_close 4294967295 p.N (suc p.k) p.L (signed_key p.N p.k K) (steps p.g) (weights p.N p.k (part p.N K)) A (half p.g)
    (precision p.g p.L) m (rows p block) (part p.N x) (row_digits p x) (signed_weight 4294967295 p.N p.k (part p.N K))
    (holds_rows p m A K block given.bit given.holds) (digits_hold p x given.gadget))
