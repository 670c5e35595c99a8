-- What holds of the arguments of an accepted call, and that a call with such arguments is accepted; and when an encryption is refused for
-- noise.
-- Assumes nothing.
use mathlib.Core.Path.{◌≡◌, ap, sym, ◌∙◌}
use mathlib.Core.Bool.{◌&&◌}
use mathlib.Core.List.{List}
use Prim.Native.Nat.{ℕ, ◌*◌, ◌/◌, ◌^◌, ◌≤◌, ◌<◌}
use native.Mathlib.Omega.{arith}
use lib.Dec.{eqb, leb}
use lib.ListN.{length, get_or}
use borrow.Author.Tests.{le-ltb}
use Rattle.torus.specs.Bytes.{words}
use Rattle.torus.proofs.Parts.{length_words}
use Rattle.ring.specs.Polynomial.{Degree, is_degree}
use Rattle.std.specs.Prelude.{Ok, Err}
use Rattle.answers.specs.Checks.{ClassNumber, Checked, passed, ◌or_else◌}
use Rattle.answers.specs.Checks as Check
use Rattle.answers.specs.declared.Refusal.TheVariants as Refused
use Rattle.answers.specs.Answers.{number, noise, greatest_magnitude, accepted}
use Rattle.answers.proofs.Laws.{before, went_on, past_other, both_passed, both_pass, first_other, check_other, or_else_assoc, degree_held, degree_met, class_number_held, class_number_met, count_held, count_met, exact_held, exact_met, classes_held, classes_met, key_held, key_met, noise_held, noise_met, noise_refused}
use Rattle.trlwe.specs.Sample.{Key}
use Rattle.trlwe.specs.Calls.{encrypt_classes, decrypt_classes}

pub key_fits : (N k : ℕ) (key : List ℕ) → Degree N → length key ≡ 4 * (k * N) → Check.key (words key) ≡ passed → Key N k key
key_fits N k key degree size e = record {
  degree = degree;
  size = size;
  bits = λ i l. key_held (words key) e i (omega (arith, length_words key));
}

pub key_passes : (N k : ℕ) (key : List ℕ) → Key N k key → Check.key (words key) ≡ passed
key_passes N k key ok = key_met (words key) (λ i l. ok.bits i (omega (arith, length_words key, ok.size)))

-- ---- encryption

-- What refusals 1 to 8 leave of the arguments of an encryption.
pub record Wellformed (N M s : ℕ) (key mask errors classes sample : List ℕ) : Type 0 where
  pub key_fits : Key N 1 key
  pub class_number : ClassNumber M
  pub some : 1 ≤ s
  pub most : s ≤ N
  pub mask_length : length mask ≡ 4 * N
  pub errors_length : length errors ≡ 4 * N
  pub classes_length : length classes ≡ 4 * s
  pub sample_length : length sample ≡ 4 * (2 * N)
  pub below : (i : ℕ) → i < s → get_or (words classes) i 0 < M

-- What refusal 9 leaves of them.
pub record Encryptable (N M s : ℕ) (key mask errors classes sample : List ℕ) : Type 0 where
  pub fits : Wellformed N M s key mask errors classes sample
  pub open fits use *
  pub quiet : greatest_magnitude (words errors) < 2 ^ 31 / M

-- A bound at the limit or above it is reported as it is.
pub noise_not : (M b g : ℕ) → 2 ^ 31 / M ≤ b → noise M b g ≡ Err (Refused.Noise b)
noise_not M b g h = simp (le-ltb b (2 ^ 31 / M) h)

module _ (N M s : ℕ) (key mask errors classes sample : List ℕ) where
  -- The checks before that of the noise, in one.
  abbrev checks : Checked
  checks =
      Check.degree N or_else Check.class_number M or_else Check.count N s
      or_else Check.exact (length key) N or_else Check.exact (length mask) N or_else Check.exact (length errors) N
      or_else Check.exact (length classes) s or_else Check.exact (length sample) (2 * N)
      or_else Check.classes M (words classes) or_else Check.key (words key)

  encrypt_checks : (checks or_else noise M (greatest_magnitude (words errors)) 0) ≡ encrypt_classes N M s key mask errors classes sample
  unfolding encrypt_classes
  encrypt_checks = simp or_else_assoc

  checks_held : checks ≡ passed → Wellformed N M s key mask errors classes sample
  checks_held e =
      let degree = both_passed (Check.degree N) _ e in
      let class_number = both_passed (Check.class_number M) _ degree.1 in
      let count = both_passed (Check.count N s) _ class_number.1 in
      let key_length = both_passed (Check.exact (length key) N) _ count.1 in
      let mask_length = both_passed (Check.exact (length mask) N) _ key_length.1 in
      let errors_length = both_passed (Check.exact (length errors) N) _ mask_length.1 in
      let classes_length = both_passed (Check.exact (length classes) s) _ errors_length.1 in
      let sample_length = both_passed (Check.exact (length sample) (2 * N)) _ classes_length.1 in
      let words_lawful = both_passed (Check.classes M (words classes)) (Check.key (words key)) sample_length.1 in
      record {
        key_fits = key_fits N 1 key (degree_held N degree.0) (omega (arith, exact_held _ _ key_length.0)) words_lawful.1;
        class_number = class_number_held M class_number.0;
        some = (count_held N s count.0).0;
        most = (count_held N s count.0).1;
        mask_length = exact_held _ _ mask_length.0;
        errors_length = exact_held _ _ errors_length.0;
        classes_length = exact_held _ _ classes_length.0;
        sample_length = exact_held _ _ sample_length.0;
        below = λ i l. classes_held M (words classes) words_lawful.0 i (omega (arith, length_words classes, exact_held (length classes) s classes_length.0));
      }

  checks_met : Wellformed N M s key mask errors classes sample → checks ≡ passed
  checks_met ok =
      both_pass _ _ (degree_met N ok.key_fits.degree) (both_pass _ _ (class_number_met M ok.class_number)
      (both_pass _ _ (count_met N s ok.some ok.most) (both_pass _ _ (exact_met (length key) N (omega (arith, ok.key_fits.size)))
      (both_pass _ _ (exact_met (length mask) N ok.mask_length) (both_pass _ _ (exact_met (length errors) N ok.errors_length)
      (both_pass _ _ (exact_met (length classes) s ok.classes_length) (both_pass _ _ (exact_met (length sample) (2 * N) ok.sample_length)
      (both_pass _ _ (classes_met M (words classes) (λ i l. ok.below i (omega (arith, length_words classes, ok.classes_length))))
      (key_passes N 1 key ok.key_fits)))))))))

  -- None of them gives 9.
  checks_other : number checks ≡ 9 → ⊥
  checks_other =
      let five : (length words : ℕ) → number (Check.exact length words) ≡ 9 → ⊥ =
      λ length words. check_other (eqb length (4 * words)) Refused.Length 9 (omega arith) (λ e. omega arith) in
      first_other (Check.degree N) _ 9 (check_other (is_degree N) Refused.Degree 9 (omega arith) (λ e. omega arith))
      (first_other (Check.class_number M) _ 9 (check_other (Check.is_class_number M) Refused.ClassNumber 9 (omega arith) (λ e. omega arith))
      (first_other (Check.count N s) _ 9 (check_other (leb 1 s && leb s N) Refused.Count 9 (omega arith) (λ e. omega arith))
      (first_other _ _ 9 (five (length key) N) (first_other _ _ 9 (five (length mask) N) (first_other _ _ 9 (five (length errors) N)
      (first_other _ _ 9 (five (length classes) s) (first_other _ _ 9 (five (length sample) (2 * N))
      (first_other (Check.classes M (words classes)) (Check.key (words key)) 9
      (check_other (Check.all_below M (words classes)) Refused.Class 9 (omega arith) (λ e. omega arith))
      (check_other (Check.all_below 2 (words key)) Refused.Key 9 (omega arith) (λ e. omega arith))))))))))

  pub encrypt_accepted : number (encrypt_classes N M s key mask errors classes sample) ≡ 0 → Encryptable N M s key mask errors classes sample
  encrypt_accepted e =
      let passed = before checks _ (ap number encrypt_checks ∙ e) in
      record { fits = checks_held passed.0; quiet = noise_held M (greatest_magnitude (words errors)) 0 passed.1 }

  -- Past refusals 1 to 8 the noise decides.
  pub encrypt_noise : Wellformed N M s key mask errors classes sample
      → encrypt_classes N M s key mask errors classes sample ≡ noise M (greatest_magnitude (words errors)) 0
  encrypt_noise ok = sym encrypt_checks ∙ went_on checks _ (checks_met ok)

  pub encrypt_accepts : Encryptable N M s key mask errors classes sample
      → encrypt_classes N M s key mask errors classes sample ≡ Ok (record { bound = greatest_magnitude (words errors); gates = 0 })
  encrypt_accepts ok = encrypt_noise ok.fits ∙ noise_met M (greatest_magnitude (words errors)) 0 ok.quiet

  -- 9, "the bound", "the bound is 2^31/M or more": the greatest error magnitude is reported.
  pub encrypt_noisy : Wellformed N M s key mask errors classes sample → 2 ^ 31 / M ≤ greatest_magnitude (words errors)
      → encrypt_classes N M s key mask errors classes sample ≡ Err (Refused.Noise (greatest_magnitude (words errors)))
  encrypt_noisy ok h = encrypt_noise ok ∙ noise_not M (greatest_magnitude (words errors)) 0 h

  -- And 9 comes of nothing else.
  pub encrypt_nine : number (encrypt_classes N M s key mask errors classes sample) ≡ 9
      → Wellformed N M s key mask errors classes sample × (2 ^ 31 / M ≤ greatest_magnitude (words errors))
  encrypt_nine e =
      let passed = past_other checks 9 _ checks_other (ap number encrypt_checks ∙ e) in
      (checks_held passed.0, noise_refused M (greatest_magnitude (words errors)) 0 passed.1)

-- ---- decryption

pub record Decryptable (N M s : ℕ) (key sample classes : List ℕ) : Type 0 where
  pub key_fits : Key N 1 key
  pub class_number : ClassNumber M
  pub some : 1 ≤ s
  pub most : s ≤ N
  pub sample_length : length sample ≡ 4 * (2 * N)
  pub classes_length : length classes ≡ 4 * s

pub decrypt_accepted : (N M s : ℕ) (key sample classes : List ℕ)
    → number (decrypt_classes N M s key sample classes) ≡ 0 → Decryptable N M s key sample classes
unfolding decrypt_classes
decrypt_accepted N M s key sample classes e =
    let degree = before (Check.degree N) _ e in
    let class_number = before (Check.class_number M) _ degree.1 in
    let count = before (Check.count N s) _ class_number.1 in
    let key_length = before (Check.exact (length key) N) _ count.1 in
    let sample_length = before (Check.exact (length sample) (2 * N)) _ key_length.1 in
    let classes_length = before (Check.exact (length classes) s) _ sample_length.1 in
    let bits = before (Check.key (words key)) _ classes_length.1 in
    record {
      key_fits = key_fits N 1 key (degree_held N degree.0) (omega (arith, exact_held _ _ key_length.0)) bits.0;
      class_number = class_number_held M class_number.0;
      some = (count_held N s count.0).0;
      most = (count_held N s count.0).1;
      sample_length = exact_held _ _ sample_length.0;
      classes_length = exact_held _ _ classes_length.0;
    }

pub decrypt_accepts : (N M s : ℕ) (key sample classes : List ℕ) → Decryptable N M s key sample classes
    → decrypt_classes N M s key sample classes ≡ accepted
unfolding decrypt_classes
decrypt_accepts N M s key sample classes ok =
    went_on _ _ (degree_met N ok.key_fits.degree)
    ∙ went_on _ _ (class_number_met M ok.class_number)
    ∙ went_on _ _ (count_met N s ok.some ok.most)
    ∙ went_on _ _ (exact_met (length key) N (omega (arith, ok.key_fits.size)))
    ∙ went_on _ _ (exact_met (length sample) (2 * N) ok.sample_length)
    ∙ went_on _ _ (exact_met (length classes) s ok.classes_length)
    ∙ went_on _ _ (key_passes N 1 key ok.key_fits)
