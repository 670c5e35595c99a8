-- What the inner functions check and ask. No promise rests on this: the calls have no premise.
-- Assumes nothing.
use Rattle.std.specs.Prelude.{◌≡◌, List, ℕ, ◌*◌, length}
use Rattle.gadget.specs.Digits.{Lawful}
use Rattle.ring.specs.Polynomial.{Degree}
use Rattle.answers.specs.Checks.{Checked, ◌or_else◌}
use Rattle.answers.specs.Checks as Check
use Rattle.trgsw.specs.declared.Parameters.{Parameters}
use Rattle.trgsw.specs.Parameters.{sample_size, block_size}

-- Refusal 5 of the slices of an external product,
abbrev pub product_lengths : (p : Parameters) (block sample out : List ℕ) → Checked
product_lengths p block sample out =
    Check.exact (length block) (block_size p) or_else Check.exact (length sample) (sample_size p) or_else Check.exact (length out) (sample_size p)

-- and 6 of its amplitudes.
abbrev pub product_amplitudes : (A B : ℕ) → Checked
product_amplitudes A B = Check.amplitude A or_else Check.amplitude B

-- The same of a CMux.
abbrev pub cmux_lengths : (p : Parameters) (block sample₀ sample₁ out : List ℕ) → Checked
cmux_lengths p block sample₀ sample₁ out =
    Check.exact (length block) (block_size p) or_else Check.exact (length sample₀) (sample_size p)
    or_else Check.exact (length sample₁) (sample_size p) or_else Check.exact (length out) (sample_size p)

abbrev pub cmux_amplitudes : (A A₀ A₁ : ℕ) → Checked
cmux_amplitudes A A₀ A₁ = Check.amplitude A or_else Check.amplitude A₀ or_else Check.amplitude A₁

-- What is asked of the parameter set, and of the lengths in bytes of a block and of two samples.
pub record Fits (p : Parameters) (block x y : ℕ) : Type 0 where
  pub degree : Degree p.N
  pub gadget : Lawful p.g p.L
  pub block_length : block ≡ 4 * block_size p
  pub x_length : x ≡ 4 * sample_size p
  pub y_length : y ≡ 4 * sample_size p
