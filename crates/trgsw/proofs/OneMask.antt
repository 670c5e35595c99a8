-- With one mask the definitions are document 01's: rows 1 to L are for the mask, rows L + 1 to 2·L for the body. Here rows are
-- numbered from 0 on, so that row j - 1 is document 01's row j.
-- Assumes nothing.
use mathlib.Core.Path.{◌≡◌, refl, ap, ap₂, ◌∙◌}
use mathlib.Core.Bool.{cond}
use mathlib.Core.List.{List}
use Prim.Native.Nat.{ℕ, suc, ◌+◌, ◌*◌, ◌-◌, ◌/◌, ◌%◌, ◌^◌, ◌<◌}
use native.Mathlib.Nat.{div-eq_of_lt, mod-eq_of_lt}
use native.Mathlib.Omega.{arith}
use lib.Arith.{digits_div, digits_mod}
use lib.Dec.{eqb}
use lib.ListN.{get_or}
use Rattle.torus.specs.Sum.{sum}
use Rattle.torus.specs.Word.{sub, mul}
use Rattle.torus.proofs.Sums.{sum_cong, sum_append}
use Rattle.gadget.specs.Digits.{step, precision, digit}
use Rattle.ring.specs.Polynomial.{product}
use Rattle.ring.proofs.Terms.{product_agree}
use Rattle.trlwe.specs.Sample.{part}
use Rattle.trgsw.specs.declared.Parameters.{Parameters}
use Rattle.trgsw.specs.declared.Scheme.{Scheme}
use Rattle.trgsw.specs.Parameters.{masks, parameters}
use Rattle.trgsw.specs.Block.{row, component, place, gadget_row, row_phase}
use Rattle.trgsw.specs.External.{row_digits, external, charge}

-- The parameter set with one mask, and keys of up to N ones.
abbrev pub one : (N g L : ℕ) → Parameters
one N g L = record { N = N; k = 1; g = g; L = L; W = N }

-- What a call is told with W = N is such a set.
pub told_one : (x : Scheme) → x.W ≡ x.N → parameters x ≡ one x.N x.g x.L
unfolding masks
told_one x e = rw e refl

-- "Its charge is 2·L·N·2^(g-1)·A + (1 + N)·E."
pub charge_one : (N g L A : ℕ) → charge (one N g L) A ≡ 2 * L * N * 2 ^ (g - 1) * A + (1 + N) * precision g L
unfolding charge
charge_one N g L A = refl

-- Where a weight is declared "the charge's second term becomes (1 + W)·E".
pub charge_told : (x : Scheme) (A : ℕ) → charge (parameters x) A ≡ 2 * x.L * x.N * 2 ^ (x.g - 1) * A + (1 + x.W) * precision x.g x.L
unfolding charge masks
charge_told x A = refl

-- Row L + j is row j for the body.
body_row : (L j : ℕ) → j < L → (component L (L + j) ≡ 1) × (place L (L + j) ≡ suc j)
body_row L j l =
    let e : L + j ≡ 1 * L + j = omega arith in
    (ap (λ r. r / L) e ∙ digits_div 1 l, ap (λ r. suc (r % L)) e ∙ ap suc (digits_mod 1 l))

-- "Gadget row j (j = 1 to L) of bit m is m·h_j in the mask's constant coefficient; row L + j has m·h_j in the body's."
pub gadget_mask : (N g L m j t : ℕ) → j < L → gadget_row (one N g L) m j t ≡ cond (eqb t 0) (m * step g (suc j)) 0
gadget_mask N g L m j t l =
    ap₂ (λ c p. cond (eqb t (c * N)) (m * step g (suc p)) 0) (div-eq_of_lt l) (mod-eq_of_lt l)
    ∙ ap (λ z. cond (eqb t z) (m * step g (suc j)) 0) {x = 0 * N} {y = 0} (omega arith)

pub gadget_body : (N g L m j t : ℕ) → j < L → gadget_row (one N g L) m (L + j) t ≡ cond (eqb t N) (m * step g (suc j)) 0
gadget_body N g L m j t l =
    let row = body_row L j l in
    ap₂ (λ c p. cond (eqb t (c * N)) (m * step g p) 0) row.0 row.1
    ∙ ap (λ z. cond (eqb t z) (m * step g (suc j)) 0) {x = 1 * N} {y = N} (omega arith)

-- "the phases should be -m·h_j·K and m·h_j"
pub phase_mask : (N g L m : ℕ) (K : List ℕ) (j i : ℕ) → j < L → row_phase (one N g L) m K j i ≡ sub 0 (mul (m * step g (suc j)) (get_or K i 0))
unfolding row_phase
phase_mask N g L m K j i l =
    rw (div-eq_of_lt l, mod-eq_of_lt l) (ap (λ t. sub 0 (mul (m * step g (suc j)) (get_or K t 0))) {x = 0 * N + i} {y = i} (omega arith))

pub phase_body : (N g L m : ℕ) (K : List ℕ) (j i : ℕ) → j < L → row_phase (one N g L) m K (L + j) i ≡ cond (eqb i 0) (m * step g (suc j)) 0
unfolding row_phase
phase_body N g L m K j i l = let row = body_row L j l in rw (row.0, row.1)

-- "mask digits with the first L rows, body digits with the last L"
pub digits_mask : (N g L : ℕ) (x : List ℕ) (j i : ℕ) → j < L → row_digits (one N g L) x j i ≡ digit g L (get_or x i 0) (suc j)
digits_mask N g L x j i l =
    ap₂ (λ c p. digit g L (part N x c i) (suc p)) (div-eq_of_lt l) (mod-eq_of_lt l)
    ∙ ap (λ t. digit g L (get_or x t 0) (suc j)) {x = 0 * N + i} {y = i} (omega arith)

pub digits_body : (N g L : ℕ) (x : List ℕ) (j i : ℕ) → j < L → row_digits (one N g L) x (L + j) i ≡ digit g L (get_or x (N + i) 0) (suc j)
digits_body N g L x j i l =
    let row = body_row L j l in
    ap₂ (λ c p. digit g L (part N x c i) p) row.0 row.1
    ∙ ap (λ t. digit g L (get_or x t 0) (suc j)) {x = 1 * N + i} {y = N + i} (omega arith)

-- "The external product of a block with a sample is the sum over rows of digit polynomial times row": the first L rows with the
-- mask's digits, and the last L with the body's.
pub external_one : (N g L : ℕ) (block x : List ℕ) (c i : ℕ) → i < N
    → external (one N g L) block x c i
    ≡ (sum L (λ j. product N (λ t. digit g L (get_or x t 0) (suc j)) (part N (row (one N g L) j block) c) i)
    + sum L (λ j. product N (λ t. digit g L (get_or x (N + t) 0) (suc j)) (part N (row (one N g L) (L + j) block) c) i)) % 2 ^ 32
unfolding external
external_one N g L block x c i l =
    let term : ℕ → ℕ = λ r. product N (row_digits (one N g L) x r) (part N (row (one N g L) r block) c) i in
    ap (λ n. sum n term % 2 ^ 32) {x = 2 * L} {y = L + L} (omega arith)
    ∙ ap (λ s. s % 2 ^ 32)
    (sum_append L L term
    ∙ ap₂ ◌+◌
    (sum_cong L _ _ (λ j lj. product_agree N (λ t lt. digits_mask N g L x j t lj) (λ t lt. refl) i l))
    (sum_cong L _ _ (λ j lj. product_agree N (λ t lt. digits_body N g L x j t lj) (λ t lt. refl) i l)))
