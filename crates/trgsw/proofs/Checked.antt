-- What checks that have passed tell of the numbers, and that those of a scheme without a declared weight are 1 and 2.
-- Assumes nothing.
use Rattle.std.proofs.Common.{arith, ◌≡◌, ℕ, ◌^◌, ◌≤◌, ◌<◌, Bool, true, false, refl, ap, sym, ◌∙◌, leb, le_refl}
use Rattle.gadget.specs.Digits.{Lawful, is_lawful}
use Rattle.ring.specs.Polynomial.{Degree, is_degree}
use Rattle.std.proofs.lemmas.Bool.{leb-false, lt-leb}
use Rattle.std.specs.Prelude.{Result, Ok, Err}
use Rattle.answers.specs.Checks.{Checked, passed, ◌or_else◌}
use Rattle.answers.specs.Checks as Check
use Rattle.answers.specs.Answers.{number}
use Rattle.answers.specs.declared.Refusal.{Refusal}
use Rattle.answers.specs.declared.Refusal.TheVariants as Refused
use Rattle.answers.proofs.Laws.{or_else_assoc, went_on, past_other, both_passed, both_pass, check_most, first_most, check_other, first_other, degree_held, degree_met, gadget_held, gadget_met, weight_held, weight_met, amplitude_held}
use Rattle.trgsw.specs.declared.Scheme.{Scheme}
use Rattle.trgsw.specs.Parameters.{LawfulScheme, scheme_of, unweighted_refusal, scheme_refusal}

-- What is told is lawful past its checks, and back. The weight is judged behind the others.
pub scheme_held : (x : Scheme) → scheme_refusal x ≡ passed → LawfulScheme x
scheme_held x e =
    let weighed = both_passed (unweighted_refusal x.N x.g x.L) (Check.weight x.N x.W) e in
    let held = both_passed (Check.degree x.N) (Check.gadget x.g x.L) weighed.0 in
    record { degree = degree_held x.N held.0; gadget = gadget_held x.g x.L held.1; weight = weight_held x.N x.W weighed.1 }

pub scheme_met : (x : Scheme) → LawfulScheme x → scheme_refusal x ≡ passed
scheme_met x ok = both_pass _ _ (both_pass _ _ (degree_met x.N ok.degree) (gadget_met x.g x.L ok.gadget)) (weight_met x.N x.W ok.weight)

-- These checks give no other number than theirs: 1 and 2 without a weight,
pub unweighted_most : (N g L : ℕ) → number (unweighted_refusal N g L) ≤ 2
unweighted_most N g L =
    first_most _ _ 2 (check_most (is_degree N) Refused.Degree 2 (omega arith)) (check_most (is_lawful g L) Refused.Gadget 2 (omega arith))

-- and never 9.
pub scheme_other : (x : Scheme) → number (scheme_refusal x) ≡ 9 → ⊥
scheme_other x =
    first_other (unweighted_refusal x.N x.g x.L) (Check.weight x.N x.W) 9 (λ e. omega (arith, unweighted_most x.N x.g x.L, e))
    (check_other (leb x.W x.N) Refused.Weight 9 (omega arith) (λ e. omega arith))

-- A call that is told no weight has the refusals of one that is told W = N: this weight passes.
last_passes : (a b : Checked) → b ≡ passed → (a or_else b) ≡ a
last_passes (Ok u) b e = e
last_passes (Err r) b e = refl

pub unweighted_told : (N g L : ℕ) → scheme_refusal (scheme_of N g L) ≡ unweighted_refusal N g L
unweighted_told N g L = last_passes (unweighted_refusal N g L) (Check.weight N N) (weight_met N N (le_refl N))

-- ---- 12

-- 12 comes of a weight above N where 1 and 2 pass,
pub heavy_refused : (x : Scheme) → Degree x.N → Lawful x.g x.L → x.N < x.W → scheme_refusal x ≡ Err Refused.Weight
heavy_refused x degree gadget heavy =
    went_on (unweighted_refusal x.N x.g x.L) _ (both_pass _ _ (degree_met x.N degree) (gadget_met x.g x.L gadget)) ∙ simp (lt-leb x.W x.N heavy)

-- and of nothing else where no number above 9 follows.
heavy_of : {T : Type 0} (t : Bool) (rest : Result T Refusal) → number rest ≤ 9 → number (Check.unless t Refused.Weight or_else rest) ≡ 12 → t ≡ false
heavy_of true rest most e = absurd (omega arith)
heavy_of false rest most e = refl

pub twelve_held : {T : Type 0} (x : Scheme) (rest : Result T Refusal) → number rest ≤ 9 → number (scheme_refusal x or_else rest) ≡ 12
    → (Degree x.N × Lawful x.g x.L) × (x.N < x.W)
twelve_held x rest most e =
    let weighed = past_other (unweighted_refusal x.N x.g x.L) 12 (Check.weight x.N x.W or_else rest) (λ n. omega (arith, unweighted_most x.N x.g x.L, n))
    (ap number (sym (or_else_assoc (unweighted_refusal x.N x.g x.L) (Check.weight x.N x.W) rest)) ∙ e) in
    let held = both_passed (Check.degree x.N) (Check.gadget x.g x.L) weighed.0 in
    ((degree_held x.N held.0, gadget_held x.g x.L held.1), leb-false x.W x.N (heavy_of (leb x.W x.N) rest most weighed.1))

-- ---- 6

-- Amplitudes are lawful past theirs.
pub two_amplitudes : (a b : ℕ) → (Check.amplitude a or_else Check.amplitude b) ≡ passed → (a ≤ 2 ^ 31) × (b ≤ 2 ^ 31)
two_amplitudes a b e =
    let held = both_passed (Check.amplitude a) (Check.amplitude b) e in
    (amplitude_held a held.0, amplitude_held b held.1)

pub three_amplitudes : (a b c : ℕ) → (Check.amplitude a or_else Check.amplitude b or_else Check.amplitude c) ≡ passed
    → (a ≤ 2 ^ 31) × (b ≤ 2 ^ 31) × (c ≤ 2 ^ 31)
three_amplitudes a b c e =
    let held = both_passed (Check.amplitude a) _ e in
    let others = two_amplitudes b c held.1 in
    (amplitude_held a held.0, others.0, others.1)
