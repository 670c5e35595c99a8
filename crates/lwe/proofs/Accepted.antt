-- What holds of the arguments of an accepted call, and that a call with such arguments is accepted.
-- Assumes nothing.
use mathlib.Core.Path.{◌≡◌, ◌∙◌}
use mathlib.Core.List.{List}
use Prim.Native.Nat.{ℕ, ◌+◌, ◌*◌, ◌<◌}
use native.Mathlib.Omega.{arith}
use lib.ListN.{length}
use Rattle.torus.specs.Bytes.{words}
use Rattle.torus.proofs.Parts.{length_words}
use Rattle.ring.specs.Polynomial.{Degree}
use Rattle.answers.specs.Checks.{ClassNumber}
use Rattle.answers.specs.Checks as Check
use Rattle.answers.specs.Answers.{number, accepted}
use Rattle.answers.proofs.Laws.{before, went_on, degree_held, degree_met, class_number_held, class_number_met, position_held, position_met, exact_held, exact_met, key_met}
use Rattle.trlwe.specs.Sample.{Key}
use Rattle.trlwe.proofs.Accepted.{key_fits}
use Rattle.lwe.specs.Calls.{decrypt_scalar, extract}

pub record ScalarDecryptable (N M : ℕ) (key scalar class : List ℕ) : Type 0 where
  pub key_fits : Key N 1 key
  pub class_number : ClassNumber M
  pub scalar_length : length scalar ≡ 4 * (N + 1)
  pub class_length : length class ≡ 4

pub scalar_accepted : (N M : ℕ) (key scalar class : List ℕ)
    → number (decrypt_scalar N M key scalar class) ≡ 0 → ScalarDecryptable N M key scalar class
unfolding decrypt_scalar
scalar_accepted N M key scalar class e =
    let degree = before (Check.degree N) _ e in
    let class_number = before (Check.class_number M) _ degree.1 in
    let key_length = before (Check.exact (length key) N) _ class_number.1 in
    let scalar_length = before (Check.exact (length scalar) (N + 1)) _ key_length.1 in
    let class_length = before (Check.exact (length class) 1) _ scalar_length.1 in
    let bits = before (Check.key (words key)) _ class_length.1 in
    record {
      key_fits = key_fits N 1 key (degree_held N degree.0) (omega (arith, exact_held _ _ key_length.0)) bits.0;
      class_number = class_number_held M class_number.0;
      scalar_length = exact_held _ _ scalar_length.0;
      class_length = exact_held _ 1 class_length.0;
    }

pub scalar_accepts : (N M : ℕ) (key scalar class : List ℕ) → ScalarDecryptable N M key scalar class
    → decrypt_scalar N M key scalar class ≡ accepted
unfolding decrypt_scalar
scalar_accepts N M key scalar class ok =
    went_on _ _ (degree_met N ok.key_fits.degree)
    ∙ went_on _ _ (class_number_met M ok.class_number)
    ∙ went_on _ _ (exact_met (length key) N (omega (arith, ok.key_fits.size)))
    ∙ went_on _ _ (exact_met (length scalar) (N + 1) ok.scalar_length)
    ∙ went_on _ _ (exact_met (length class) 1 ok.class_length)
    ∙ went_on _ _ (key_met (words key) (λ i l. ok.key_fits.bits i (omega (arith, length_words key, ok.key_fits.size))))

pub record Extractable (N p : ℕ) (sample scalar : List ℕ) : Type 0 where
  pub degree : Degree N
  pub position : p < N
  pub sample_length : length sample ≡ 4 * (2 * N)
  pub scalar_length : length scalar ≡ 4 * (N + 1)

pub extract_accepted : (N p : ℕ) (sample scalar : List ℕ) → number (extract N p sample scalar) ≡ 0 → Extractable N p sample scalar
unfolding extract
extract_accepted N p sample scalar e =
    let degree = before (Check.degree N) _ e in
    let position = before (Check.position N p) _ degree.1 in
    let sample_length = before (Check.exact (length sample) (2 * N)) _ position.1 in
    let scalar_length = before (Check.exact (length scalar) (N + 1)) _ sample_length.1 in
    record {
      degree = degree_held N degree.0;
      position = position_held N p position.0;
      sample_length = exact_held _ _ sample_length.0;
      scalar_length = exact_held _ _ scalar_length.0;
    }

pub extract_accepts : (N p : ℕ) (sample scalar : List ℕ) → Extractable N p sample scalar → extract N p sample scalar ≡ accepted
unfolding extract
extract_accepts N p sample scalar ok =
    went_on _ _ (degree_met N ok.degree)
    ∙ went_on _ _ (position_met N p ok.position)
    ∙ went_on _ _ (exact_met (length sample) (2 * N) ok.sample_length)
    ∙ went_on _ _ (exact_met (length scalar) (N + 1) ok.scalar_length)
