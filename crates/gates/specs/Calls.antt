-- The public calls on a block and samples, the external product and the CMux ("gate"): the whole answer of each, and what it leaves in the
-- slice that it writes. Each answer has a line for each row of document 01's table of returned numbers that applies; those of the parameter
-- set stand together.
-- Assumes nothing.
use Rattle.std.specs.Prelude.{Ok, List, ℕ, ◌+◌, max, length}
use Rattle.torus.specs.Bytes.{words, bytes}
use Rattle.answers.specs.Checks.{◌or_else◌}
use Rattle.answers.specs.Checks as Check
use Rattle.answers.specs.Answers.{Answer, after}
use Rattle.trgsw.specs.declared.Scheme.{Scheme}
use Rattle.trgsw.specs.Parameters.{parameters, scheme_refusal, sample_size, block_size}
use Rattle.trgsw.specs.External.{external_sample, cmux_sample, charge}
use Rattle.gates.specs.declared.external.Lent as Product
use Rattle.gates.specs.declared.cmux.Lent as CMux

-- The input of one external product: what it is told, the declared amplitudes of the block and of the sample, and its slices as lists of bytes,
-- as they are lent. It writes the last.
pub record ProductInput : Type 0 where
  pub scheme : Scheme
  pub amplitude : ℕ
  pub sample_amplitude : ℕ
  pub block : List ℕ
  pub sample : List ℕ
  pub out : List ℕ

-- That of a call that is lent these.
abbrev pub product_of : (lent : Product.Lent) (out : List ℕ) → ProductInput
product_of lent out = record {
  scheme = lent.scheme;
  amplitude = lent.amplitude;
  sample_amplitude = lent.sample_amplitude;
  block = lent.block.now;
  sample = lent.sample.now;
  out = out;
}

-- "The external product reports the charge plus the input's declared amplitude."
unfoldable pub external_product : ProductInput → Answer
external_product c =
    let p = parameters c.scheme in
    scheme_refusal c.scheme
    or_else Check.exact (length c.block) (block_size p) or_else Check.exact (length c.sample) (sample_size p)
    or_else Check.exact (length c.out) (sample_size p)
    or_else Check.amplitude c.amplitude or_else Check.amplitude c.sample_amplitude
    or_else Ok (record { bound = charge p c.amplitude + c.sample_amplitude; gates = 0 })

-- What it leaves in the slice of the result.
unfoldable pub external_product_out : ProductInput → List ℕ
external_product_out c =
    after (external_product c) (bytes (external_sample (parameters c.scheme) (words c.block) (words c.sample))) c.out

-- The input of one CMux, likewise: the declared amplitudes of the block and of both samples.
pub record CMuxInput : Type 0 where
  pub scheme : Scheme
  pub amplitude : ℕ
  pub amplitude₀ : ℕ
  pub amplitude₁ : ℕ
  pub block : List ℕ
  pub sample₀ : List ℕ
  pub sample₁ : List ℕ
  pub out : List ℕ

abbrev pub cmux_of : (lent : CMux.Lent) (out : List ℕ) → CMuxInput
cmux_of lent out = record {
  scheme = lent.scheme;
  amplitude = lent.amplitude;
  amplitude₀ = lent.amplitude0;
  amplitude₁ = lent.amplitude1;
  block = lent.block.now;
  sample₀ = lent.sample0.now;
  sample₁ = lent.sample1.now;
  out = out;
}

-- "The gate reports max(A0, A1) of the declared amplitudes plus its charge, and 1 as gates."
unfoldable pub cmux : CMuxInput → Answer
cmux c =
    let p = parameters c.scheme in
    scheme_refusal c.scheme
    or_else Check.exact (length c.block) (block_size p) or_else Check.exact (length c.sample₀) (sample_size p)
    or_else Check.exact (length c.sample₁) (sample_size p) or_else Check.exact (length c.out) (sample_size p)
    or_else Check.amplitude c.amplitude or_else Check.amplitude c.amplitude₀ or_else Check.amplitude c.amplitude₁
    or_else Ok (record { bound = max c.amplitude₀ c.amplitude₁ + charge p c.amplitude; gates = 1 })

-- What it leaves in the slice of the result.
unfoldable pub cmux_out : CMuxInput → List ℕ
cmux_out c =
    after (cmux c) (bytes (cmux_sample (parameters c.scheme) (words c.block) (words c.sample₀) (words c.sample₁))) c.out
