-- Lesson 6, the calls for C: the exercises, each with its solution. The functions of exercises 6.4 and 6.7 are in src/lib.rt, the
-- proof of the second in proofs/negate_coefficient; the check finds that of the first.
-- Assumes nothing.
use Rattle.std.proofs.Common.{◌≡◌, ℕ, ◌-◌, ◌*◌, ◌/◌, ◌^◌, ◌<◌, List, [], ◌∷◌, length, get_or, sym, refl, ap, ◌∙◌, subst, ap₂}
use lib.Count.{ones}
use Rattle.std.specs.Prelude.{Ok, Err}
use Rattle.torus.specs.Bytes.{AreBytes, words, bytes}
use Rattle.torus.proofs.Parts.{bytes_are}
use Rattle.torus.proofs.Sums.{sum_cong, sum_const}
use Rattle.answers.specs.Checks as Check
use Rattle.answers.specs.Answers.{Answer, number, bound, gates, noise, after}
use Rattle.answers.specs.declared.Refusal.TheVariants as Refused
use Rattle.answers.proofs.Laws.{before, went_on, class_number_met, depth_met, noise_held, after_written}
use Rattle.trlwe.specs.Calls.{encrypt_classes, encrypt_classes_sample, decrypt_classes, decrypt_classes_classes}
use Rattle.trlwe.proofs.Accepted.{encrypt_accepted}
use Rattle.trlwe.proofs.RoundTrip.{round_trip}
use Rattle.lwe.specs.Calls.{extract, extract_scalar, decrypt_scalar, decrypt_scalar_class}
use Rattle.lwe.proofs.ExtractedClass.{extract_class}
use Rattle.trgsw.specs.declared.Parameters.{Parameters}
use Rattle.trgsw.specs.Parameters.{parameters}
use Rattle.trgsw.specs.External.{charge}
use Rattle.trees.specs.LookedUp.{charges}
use Rattle.lookup.specs.Job.{Job}
use Rattle.lookup.specs.Calls.{lookup}
use Rattle.tables.specs.declared.Packing.TheVariants.{Horizontal}
use Rattle.tables.specs.declared.Visibility.TheVariants.{Public}
use Rattle.accuracy.proofs.Told.{noise_bound_public}
use Rattle.tables.proofs.Packings.{gates_horizontal, depth_horizontal}
use Rattle.lookup.proofs.Accepted.{Wellformed, lookup_noise}
use Rattle.course.specs.Definitions.{negative, equal_charges, negate_coefficient, negate_coefficient_slice}

-- Exercise 6.1. A call is refused for noise with the bound b: what do it and its two sisters return?
pub noisy_returns : (b : ℕ) → let noisy : Answer = Err (Refused.Noise b) in (number noisy ≡ 9) × (bound noisy ≡ b) × (gates noisy ≡ 0)
noisy_returns b = (refl, refl, refl)

-- Exercise 6.2. A refusal changes no slice: decryption with the degree 3 leaves the classes as they were, whatever the other
-- arguments are.
pub refused_keeps : (M s : ℕ) (key sample classes : List ℕ) → decrypt_classes_classes 3 M s key sample classes ≡ classes
unfolding decrypt_classes_classes decrypt_classes after ones
refused_keeps M s key sample classes = refl

-- Exercise 6.3. Three calls in a row: classes are encrypted, coefficient p is extracted, and the scalar sample is decrypted. If
-- the first two are accepted, so is the third, and it leaves class p.
pub encrypt_extract_decrypt : (N M s p : ℕ) (key mask errors classes sample scalar class : List ℕ)
    → AreBytes mask → AreBytes errors → AreBytes classes
    → let packed = encrypt_classes_sample N M s key mask errors classes sample in
    number (encrypt_classes N M s key mask errors classes sample) ≡ 0
    → number (extract N p packed scalar) ≡ 0 → p < s → length class ≡ 4
    → (number (decrypt_scalar N M key (extract_scalar N p packed scalar) class) ≡ 0)
    × (get_or (words (decrypt_scalar_class N M key (extract_scalar N p packed scalar) class)) 0 0 ≡ get_or (words classes) p 0)
unfolding encrypt_classes_sample
encrypt_extract_decrypt N M s p key mask errors classes sample scalar class mb eb cb encrypts extracts inside one =
    let packed = encrypt_classes_sample N M s key mask errors classes sample in
    let size : length classes ≡ 4 * s = (encrypt_accepted N M s key mask errors classes sample encrypts).classes_length in
    let byte : AreBytes packed = subst AreBytes (sym (after_written _ _ sample encrypts)) (bytes_are _) in
    let back = round_trip N M s key mask errors classes sample classes mb eb cb encrypts size in
    let last = extract_class N M s p key packed classes scalar class byte extracts back.0 inside one in
    (last.0, last.1 ∙ ap (λ l. get_or (words l) p 0) back.1)

-- Exercise 6.5. Compute what `equal_charges` answers for M = 16 and the charge 34111488, with three selectors and with four;
-- and for M = 3 and eleven selectors, where two checks refuse. Then show that what it accepts is below the limit.
pub three_accepted : equal_charges 16 3 34111488 ≡ Ok (record { bound = 102334464; gates = 7 })
unfolding equal_charges ones
three_accepted = refl

pub four_refused : equal_charges 16 4 34111488 ≡ Err (Refused.Noise 136445952)
unfolding equal_charges ones
four_refused = refl

pub first_refusal : equal_charges 3 11 34111488 ≡ Err Refused.ClassNumber
unfolding equal_charges ones
first_refusal = refl

pub equal_accepted : (M d c : ℕ) → number (equal_charges M d c) ≡ 0 → d * c < 2 ^ 31 / M
unfolding equal_charges
equal_accepted M d c e =
    let rest = (before (Check.class_number M) _ e).1 in
    noise_held M (d * c) (2 ^ d - 1) (before (Check.depth 10 d) _ rest).1

-- Exercise 6.6. `equal_charges` answers as the lookup in a public table in the horizontal packing does: if all d amplitudes are A and
-- the refusals up to 7 are passed, the lookup's whole answer is that of `equal_charges` with the charge of A.
pub charges_equal : (p : Parameters) (A d : ℕ) (As : List ℕ) → ((i : ℕ) → i < d → get_or As i 0 ≡ A) → charges p As d ≡ d * charge p A
unfolding charges
charges_equal p A d As same = sum_cong d _ (λ i. charge p A) (λ i l. ap (charge p) (same i l)) ∙ sum_const d (charge p A)

pub lookup_equal : (j : Job) (A : ℕ) → let x = j.numbers in x.packing ≡ Horizontal → x.visibility ≡ Public → Wellformed j → ((i : ℕ) → i < x.d → get_or (words j.amplitudes) i 0 ≡ A)
    → lookup j ≡ equal_charges x.M x.d (charge (parameters x.scheme) A)
unfolding equal_charges
lookup_equal j A horizontal public ok same =
    let x = j.numbers in
    lookup_noise j ok
    ∙ ap₂ (noise x.M) (noise_bound_public j public ∙ charges_equal (parameters x.scheme) A x.d (words j.amplitudes) same) (gates_horizontal x horizontal)
    ∙ sym (went_on _ _ (class_number_met x.M ok.numbers.class_number) ∙ went_on _ _ (depth_met 10 x.d (depth_horizontal x ok.numbers horizontal)))

-- Exercise 6.7. Write a call in small, `negate_coefficient`: it judges N, p and the length of a slice, and negates coefficient
-- p in the slice, or refuses and changes nothing. Its contract has no premise. Compute first what `negate_coefficient` says of
-- the words 5 and 7: with p = 1, and with p = 2.
pub negated : negate_coefficient_slice 2 1 (bytes (5 ∷ 7 ∷ [])) ≡ bytes (5 ∷ negative 7 ∷ [])
unfolding negate_coefficient_slice negate_coefficient after words bytes ones
negated = refl

pub position_refused : (negate_coefficient 2 2 (bytes (5 ∷ 7 ∷ [])) ≡ Err Refused.Position)
    × (negate_coefficient_slice 2 2 (bytes (5 ∷ 7 ∷ [])) ≡ bytes (5 ∷ 7 ∷ []))
unfolding negate_coefficient_slice negate_coefficient after words bytes ones
position_refused = (refl, refl)
