-- What the inner functions check and ask. No promise rests on this: the call has no premise.
-- Assumes nothing.
use Rattle.std.specs.Prelude.{◌≡◌, List, ℕ, ◌*◌, ◌≤◌, length}
use Rattle.torus.specs.Bytes.{words}
use Rattle.answers.specs.Checks.{Checked, ◌or_else◌}
use Rattle.answers.specs.Checks as Check
use Rattle.gadget.specs.Digits.{Lawful}
use Rattle.trlwe.specs.Sample.{Key}
use Rattle.trgsw.specs.declared.Parameters.{Parameters}
use Rattle.trgsw.specs.Parameters.{key_size, row_count, block_size}

-- Refusal 5 of the slices.
abbrev pub lengths : (p : Parameters) (key masks errors block : List ℕ) → Checked
lengths p key masks errors block =
    Check.exact (length key) (key_size p) or_else Check.exact (length masks) (row_count p * key_size p)
    or_else Check.exact (length errors) (row_count p * p.N) or_else Check.exact (length block) (block_size p)

-- Refusals 7 and 8 of the bit and the key.
abbrev pub contents : (bit : ℕ) (key : List ℕ) → Checked
contents bit key = Check.bit bit or_else Check.key (words key)

-- What is asked of the parameter set, of the bit, and of the slices that are read.
pub record Rows (p : Parameters) (m : ℕ) (key masks errors : List ℕ) : Type 0 where
  pub key_fits : Key p.N p.k key
  pub lawful : Lawful p.g p.L
  pub bit : m ≤ 1
  pub masks_length : length masks ≡ 4 * (row_count p * key_size p)
  pub errors_length : length errors ≡ 4 * (row_count p * p.N)
