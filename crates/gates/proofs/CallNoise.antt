-- The noise of the calls, of their own definitions, from bytes to bytes: what an accepted external product or CMux leaves is within its charge,
-- and within the reported bound if the declared amplitudes hold. All bounds are exact numbers, above 2^31 too.
-- Assumes nothing.
use mathlib.Core.Path.{◌≡◌, ap, ◌∙◌}
use mathlib.Core.List.{List}
use Prim.Native.Nat.{ℕ, ◌^◌, ◌≤◌, ◌<◌}
use Rattle.torus.specs.Word.{mul, distance}
use Rattle.torus.specs.Bytes.{AreBytes, words}
use Rattle.torus.proofs.Parts.{words_word, words_bytes}
use Rattle.answers.specs.Answers.{number, bound}
use Rattle.answers.proofs.Laws.{after_written}
use Rattle.trlwe.specs.Sample.{phase}
use Rattle.trgsw.specs.declared.Parameters.{Parameters}
use Rattle.trgsw.specs.declared.Scheme.{Scheme}
use Rattle.trgsw.specs.Parameters.{LawfulScheme, SchemeKey, parameters}
use Rattle.trgsw.specs.Block.{Holds}
use Rattle.trgsw.specs.External.{external_sample, cmux_sample, picked, charge, Selecting}
use Rattle.trgsw.proofs.Words.{external_below, cmux_below}
use Rattle.trgsw.proofs.Told.{told_light}
use Rattle.trgsw.proofs.Noise.{external_charge, external_within, cmux_charge, cmux_within}
use Rattle.gates.specs.Calls.{ProductInput, external_product, external_product_out, CMuxInput, cmux, cmux_out}
use Rattle.gates.proofs.Accepted.{external_accepted, external_accepts, cmux_accepted, cmux_accepts}

-- Of a lent block: the key is of 0s and 1s with at most W ones, and under it the block holds the bit m within its declared amplitude.
pub record HeldBit (x : Scheme) (m A : ℕ) (key block : List ℕ) : Type 0 where
  pub key_fits : SchemeKey x key
  pub bit : m ≤ 1
  pub holds : Holds (parameters x) m A (words key) (words block)

-- So it is a selector's block for the theorems on words.
selecting : (x : Scheme) (m A : ℕ) (key block : List ℕ) → LawfulScheme x → HeldBit x m A key block → Selecting (parameters x) m A (words key) (words block)
selecting x m A key block ok held = record {
  gadget = ok.gadget;
  light = told_light x key held.key_fits;
  bit = held.bit;
  holds = held.holds;
}

-- ---- the external product

module _ (c : ProductInput) (e : number (external_product c) ≡ 0) (m : ℕ) (key : List ℕ) (held : HeldBit c.scheme m c.amplitude key c.block) where
  abbrev product_set : Parameters
  product_set = parameters c.scheme

  external_words : words (external_product_out c) ≡ external_sample product_set (words c.block) (words c.sample)
  unfolding external_product_out
  external_words = ap words (after_written _ _ _ e) ∙ words_bytes _ (external_below product_set _ _)

  product_selecting : Selecting product_set m c.amplitude (words key) (words c.block)
  product_selecting = selecting c.scheme m c.amplitude key c.block (external_accepted c e).scheme held

  -- What an accepted external product leaves is within its charge of m times the sample, in every coefficient of the phase.
  pub external_product_charge : (i : ℕ) → i < product_set.N
      → distance (phase product_set.N product_set.k (words key) (words (external_product_out c)) i)
      (mul m (phase product_set.N product_set.k (words key) (words c.sample) i)) ≤ charge product_set c.amplitude
  external_product_charge =
      rw external_words (external_charge product_set m c.amplitude (words key) (words c.block) (words c.sample) product_selecting)

  -- If the sample is within its declared amplitude of f, what is left is within the reported bound of m·f.
  pub external_product_within : (f : ℕ → ℕ) → ((i : ℕ) → i < product_set.N → f i < 2 ^ 32)
      → ((i : ℕ) → i < product_set.N → distance (phase product_set.N product_set.k (words key) (words c.sample) i) (f i) ≤ c.sample_amplitude)
      → (i : ℕ) → i < product_set.N
      → distance (phase product_set.N product_set.k (words key) (words (external_product_out c)) i) (mul m (f i)) ≤ bound (external_product c)
  external_product_within f word near =
      rw (external_words, external_accepts c (external_accepted c e))
      (external_within product_set m c.amplitude c.sample_amplitude (words key) (words c.block) (words c.sample) f product_selecting word near)

-- ---- the CMux

module _ (c : CMuxInput) (e : number (cmux c) ≡ 0) (m : ℕ) (key : List ℕ) (held : HeldBit c.scheme m c.amplitude key c.block) (sb : AreBytes c.sample₀) where
  abbrev cmux_set : Parameters
  cmux_set = parameters c.scheme

  cmux_words : words (cmux_out c) ≡ cmux_sample cmux_set (words c.block) (words c.sample₀) (words c.sample₁)
  unfolding cmux_out
  cmux_words = ap words (after_written _ _ _ e) ∙ words_bytes _ (cmux_below cmux_set _ _ _)

  cmux_selecting : Selecting cmux_set m c.amplitude (words key) (words c.block)
  cmux_selecting = selecting c.scheme m c.amplitude key c.block (cmux_accepted c e).scheme held

  -- What an accepted CMux leaves is within its charge of the sample that the bit names.
  pub cmux_call_charge : (i : ℕ) → i < cmux_set.N
      → distance (phase cmux_set.N cmux_set.k (words key) (words (cmux_out c)) i)
      (phase cmux_set.N cmux_set.k (words key) (picked m (words c.sample₀) (words c.sample₁)) i) ≤ charge cmux_set c.amplitude
  cmux_call_charge =
      rw cmux_words
      (cmux_charge cmux_set m c.amplitude (words key) (words c.block) (words c.sample₀) (words c.sample₁) cmux_selecting (words_word c.sample₀ sb))

  -- "If the inputs are within A0 and A1, the output is within max(A0, A1) plus the charge", which is the reported bound.
  pub cmux_call_within : (f₀ f₁ : ℕ → ℕ) → ((i : ℕ) → i < cmux_set.N → f₀ i < 2 ^ 32) → ((i : ℕ) → i < cmux_set.N → f₁ i < 2 ^ 32)
      → ((i : ℕ) → i < cmux_set.N → distance (phase cmux_set.N cmux_set.k (words key) (words c.sample₀) i) (f₀ i) ≤ c.amplitude₀)
      → ((i : ℕ) → i < cmux_set.N → distance (phase cmux_set.N cmux_set.k (words key) (words c.sample₁) i) (f₁ i) ≤ c.amplitude₁)
      → (i : ℕ) → i < cmux_set.N
      → distance (phase cmux_set.N cmux_set.k (words key) (words (cmux_out c)) i) (picked m f₀ f₁ i) ≤ bound (cmux c)
  cmux_call_within f₀ f₁ w₀ w₁ h₀ h₁ =
      rw (cmux_words, cmux_accepts c (cmux_accepted c e))
      (cmux_within cmux_set m c.amplitude c.amplitude₀ c.amplitude₁ (words key) (words c.block) (words c.sample₀) (words c.sample₁) f₀ f₁
      cmux_selecting (words_word c.sample₀ sb) w₀ w₁ h₀ h₁)
