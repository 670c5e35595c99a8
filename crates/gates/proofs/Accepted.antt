-- What holds of the input of an accepted external product and of an accepted CMux, and that a call with such input is accepted; and when 12
-- refuses one.
-- Assumes nothing.
use mathlib.Core.Path.{◌≡◌, ap, sym, ◌∙◌}
use Prim.Native.Nat.{ℕ, ◌+◌, ◌*◌, ◌^◌, ◌≤◌, ◌<◌, max}
use lib.Dec.{eqb, leb}
use lib.ListN.{length}
use native.Mathlib.Omega.{arith}
use Rattle.std.specs.Prelude.{Ok, Err}
use Rattle.gadget.specs.Digits.{Lawful}
use Rattle.ring.specs.Polynomial.{Degree}
use Rattle.answers.specs.Checks.{◌or_else◌}
use Rattle.answers.specs.Checks as Check
use Rattle.answers.specs.Answers.{number}
use Rattle.answers.specs.declared.Ledger.{Ledger}
use Rattle.answers.specs.declared.Refusal.TheVariants as Refused
use Rattle.answers.proofs.Laws.{or_else_assoc, before, went_on, stopped, check_most, first_most, both_passed, both_pass, exact_held, exact_met, amplitude_met}
use Rattle.trgsw.specs.declared.Parameters.{Parameters}
use Rattle.trgsw.specs.Parameters.{LawfulScheme, parameters, scheme_refusal, sample_size, block_size}
use Rattle.trgsw.specs.External.{charge}
use Rattle.trgsw.proofs.Checked.{scheme_held, scheme_met, heavy_refused, twelve_held, two_amplitudes, three_amplitudes}
use Rattle.gates.specs.Calls.{ProductInput, external_product, CMuxInput, cmux}
use Rattle.gates.specs.Inner.{product_lengths, product_amplitudes, cmux_lengths, cmux_amplitudes}

-- Lengths and amplitudes give no number above 9.
five : (bytes words : ℕ) → number (Check.exact bytes words) ≤ 9
five bytes words = check_most (eqb bytes (4 * words)) Refused.Length 9 (omega arith)

six : (A : ℕ) → number (Check.amplitude A) ≤ 9
six A = check_most (leb A (2 ^ 31)) Refused.Amplitude 9 (omega arith)

-- ---- the external product

pub record Multipliable (c : ProductInput) : Type 0 where
  pub scheme : LawfulScheme c.scheme
  pub block_length : length c.block ≡ 4 * block_size (parameters c.scheme)
  pub sample_length : length c.sample ≡ 4 * sample_size (parameters c.scheme)
  pub out_length : length c.out ≡ 4 * sample_size (parameters c.scheme)
  pub amplitude : c.amplitude ≤ 2 ^ 31
  pub sample_amplitude : c.sample_amplitude ≤ 2 ^ 31

module _ (c : ProductInput) where
  abbrev product_set : Parameters
  product_set = parameters c.scheme

  -- The rows of the call's answer, taken together as the code takes them.
  pub product_checks : (scheme_refusal c.scheme or_else product_lengths product_set c.block c.sample c.out
      or_else product_amplitudes c.amplitude c.sample_amplitude
      or_else Ok (record { bound = charge product_set c.amplitude + c.sample_amplitude; gates = 0 })) ≡ external_product c
  unfolding external_product
  product_checks = simp or_else_assoc

  pub external_accepted : number (external_product c) ≡ 0 → Multipliable c
  external_accepted e =
      let told = before (scheme_refusal c.scheme) _ (ap number product_checks ∙ e) in
      let fit = before (product_lengths product_set c.block c.sample c.out) _ told.1 in
      let small = two_amplitudes c.amplitude c.sample_amplitude (before (product_amplitudes c.amplitude c.sample_amplitude) _ fit.1).0 in
      let block = both_passed (Check.exact (length c.block) (block_size product_set)) _ fit.0 in
      let samples = both_passed (Check.exact (length c.sample) (sample_size product_set)) (Check.exact (length c.out) (sample_size product_set)) block.1 in
      record {
        scheme = scheme_held c.scheme told.0;
        block_length = exact_held _ _ block.0;
        sample_length = exact_held _ _ samples.0;
        out_length = exact_held _ _ samples.1;
        amplitude = small.0;
        sample_amplitude = small.1;
      }

  pub external_accepts : Multipliable c
      → external_product c ≡ Ok (record { bound = charge product_set c.amplitude + c.sample_amplitude; gates = 0 })
  external_accepts ok =
      sym product_checks
      ∙ went_on _ _ (scheme_met c.scheme ok.scheme)
      ∙ went_on _ _ (both_pass _ _ (exact_met _ _ ok.block_length) (both_pass _ _ (exact_met _ _ ok.sample_length) (exact_met _ _ ok.out_length)))
      ∙ went_on _ _ (both_pass _ _ (amplitude_met c.amplitude ok.amplitude) (amplitude_met c.sample_amplitude ok.sample_amplitude))

  -- 12 comes of a weight above N where 1 and 2 pass, and of nothing else.
  pub external_heavy : Degree c.scheme.N → Lawful c.scheme.g c.scheme.L → c.scheme.N < c.scheme.W → external_product c ≡ Err Refused.Weight
  unfolding external_product
  external_heavy degree gadget heavy = sym (stopped (scheme_refusal c.scheme) Refused.Weight _ (heavy_refused c.scheme degree gadget heavy))

  pub external_twelve : number (external_product c) ≡ 12 → (Degree c.scheme.N × Lawful c.scheme.g c.scheme.L) × (c.scheme.N < c.scheme.W)
  unfolding external_product
  external_twelve =
      let made : number {T = Ledger} (Ok (record { bound = charge product_set c.amplitude + c.sample_amplitude; gates = 0 })) ≤ 9 = omega arith in
      twelve_held c.scheme _
      (first_most _ _ 9 (five (length c.block) _) (first_most _ _ 9 (five (length c.sample) _) (first_most _ _ 9 (five (length c.out) _)
      (first_most _ _ 9 (six c.amplitude) (first_most _ _ 9 (six c.sample_amplitude) made)))))

-- ---- the CMux

pub record Pickable (c : CMuxInput) : Type 0 where
  pub scheme : LawfulScheme c.scheme
  pub block_length : length c.block ≡ 4 * block_size (parameters c.scheme)
  pub sample₀_length : length c.sample₀ ≡ 4 * sample_size (parameters c.scheme)
  pub sample₁_length : length c.sample₁ ≡ 4 * sample_size (parameters c.scheme)
  pub out_length : length c.out ≡ 4 * sample_size (parameters c.scheme)
  pub amplitude : c.amplitude ≤ 2 ^ 31
  pub amplitude₀ : c.amplitude₀ ≤ 2 ^ 31
  pub amplitude₁ : c.amplitude₁ ≤ 2 ^ 31

module _ (c : CMuxInput) where
  abbrev cmux_set : Parameters
  cmux_set = parameters c.scheme

  pub cmux_checks : (scheme_refusal c.scheme or_else cmux_lengths cmux_set c.block c.sample₀ c.sample₁ c.out
      or_else cmux_amplitudes c.amplitude c.amplitude₀ c.amplitude₁
      or_else Ok (record { bound = max c.amplitude₀ c.amplitude₁ + charge cmux_set c.amplitude; gates = 1 })) ≡ cmux c
  unfolding cmux
  cmux_checks = simp or_else_assoc

  pub cmux_accepted : number (cmux c) ≡ 0 → Pickable c
  cmux_accepted e =
      let told = before (scheme_refusal c.scheme) _ (ap number cmux_checks ∙ e) in
      let fit = before (cmux_lengths cmux_set c.block c.sample₀ c.sample₁ c.out) _ told.1 in
      let small = three_amplitudes c.amplitude c.amplitude₀ c.amplitude₁
      (before (cmux_amplitudes c.amplitude c.amplitude₀ c.amplitude₁) _ fit.1).0 in
      let block = both_passed (Check.exact (length c.block) (block_size cmux_set)) _ fit.0 in
      let first = both_passed (Check.exact (length c.sample₀) (sample_size cmux_set)) _ block.1 in
      let others = both_passed (Check.exact (length c.sample₁) (sample_size cmux_set)) (Check.exact (length c.out) (sample_size cmux_set)) first.1 in
      record {
        scheme = scheme_held c.scheme told.0;
        block_length = exact_held _ _ block.0;
        sample₀_length = exact_held _ _ first.0;
        sample₁_length = exact_held _ _ others.0;
        out_length = exact_held _ _ others.1;
        amplitude = small.0;
        amplitude₀ = small.1;
        amplitude₁ = small.2;
      }

  pub cmux_accepts : Pickable c
      → cmux c ≡ Ok (record { bound = max c.amplitude₀ c.amplitude₁ + charge cmux_set c.amplitude; gates = 1 })
  cmux_accepts ok =
      sym cmux_checks
      ∙ went_on _ _ (scheme_met c.scheme ok.scheme)
      ∙ went_on _ _ (both_pass _ _ (exact_met _ _ ok.block_length) (both_pass _ _ (exact_met _ _ ok.sample₀_length)
      (both_pass _ _ (exact_met _ _ ok.sample₁_length) (exact_met _ _ ok.out_length))))
      ∙ went_on _ _ (both_pass _ _ (amplitude_met c.amplitude ok.amplitude)
      (both_pass _ _ (amplitude_met c.amplitude₀ ok.amplitude₀) (amplitude_met c.amplitude₁ ok.amplitude₁)))

  pub cmux_heavy : Degree c.scheme.N → Lawful c.scheme.g c.scheme.L → c.scheme.N < c.scheme.W → cmux c ≡ Err Refused.Weight
  unfolding cmux
  cmux_heavy degree gadget heavy = sym (stopped (scheme_refusal c.scheme) Refused.Weight _ (heavy_refused c.scheme degree gadget heavy))

  pub cmux_twelve : number (cmux c) ≡ 12 → (Degree c.scheme.N × Lawful c.scheme.g c.scheme.L) × (c.scheme.N < c.scheme.W)
  unfolding cmux
  cmux_twelve =
      let made : number {T = Ledger} (Ok (record { bound = max c.amplitude₀ c.amplitude₁ + charge cmux_set c.amplitude; gates = 1 })) ≤ 9 = omega arith in
      twelve_held c.scheme _
      (first_most _ _ 9 (five (length c.block) _) (first_most _ _ 9 (five (length c.sample₀) _) (first_most _ _ 9 (five (length c.sample₁) _)
      (first_most _ _ 9 (five (length c.out) _)
      (first_most _ _ 9 (six c.amplitude) (first_most _ _ 9 (six c.amplitude₀) (first_most _ _ 9 (six c.amplitude₁) made)))))))
