-- What the inner functions ask of their arguments, and what they check. No promise of a public call rests on these: the calls have no
-- premise, and the checks that they make give all of this.
-- Assumes nothing.
use Rattle.std.specs.Prelude.{◌≡◌, List, ℕ, suc, ◌+◌, ◌*◌, ◌^◌, ◌≤◌, ◌<◌, length, get_or}
use Rattle.torus.specs.Bytes.{words}
use Rattle.answers.specs.Checks.{Checked, ◌or_else◌}
use Rattle.answers.specs.Checks as Check
use Rattle.trgsw.specs.Parameters.{sample_size, block_size, parameters}
use Rattle.tables.specs.declared.Numbers.{Numbers}
use Rattle.tables.specs.Numbers.{LawfulNumbers, numbers, deepest, rotations, table_words, declared_words}
use Rattle.lookup.specs.Job.{Job}
use Rattle.tables.specs.Table.{entry_words, classes_of}
use Rattle.tables.specs.Inner.{Below}

-- Of the first d selectors: amplitudes up to 2^31. It is a premise and no type: each function asks it of a d of its own, and a type that has
-- it of all selectors would ask more.
pub record Selectors (x : Numbers) (d : ℕ) (amplitudes : List ℕ) : Type 0 where
  pub lawful : LawfulNumbers x
  pub depth : d ≤ deepest
  pub amplitudes_length : 4 * d ≤ length amplitudes
  pub small : (i : ℕ) → i < d → get_or (words amplitudes) i 0 ≤ 2 ^ 31

-- Of the slices, for run t of level d of the tree: their lengths in bytes, and classes below M.
pub record Run (x : Numbers) (d t : ℕ) (sample work blocks : ℕ) (table : List ℕ) : Type 0 where
  pub leaves : suc t * 2 ^ d ≤ 2 ^ deepest
  pub sample_length : sample ≡ 4 * sample_size (parameters x.scheme)
  pub work_length : 4 * (d * sample_size (parameters x.scheme)) ≤ work
  pub blocks_length : 4 * ((rotations x + d) * block_size (parameters x.scheme)) ≤ blocks
  pub table_length : 4 * (suc t * 2 ^ d * entry_words x.visibility x) ≤ length table
  pub below : Below x table

-- Refusal 5 of the slices.
abbrev pub lengths : Job → Checked
lengths j =
    let x = j.numbers in
    let p = parameters x.scheme in
    Check.exact (length j.blocks) (x.d * block_size p) or_else Check.exact (length j.amplitudes) x.d
    or_else Check.exact (length j.table) (table_words x.visibility x)
    or_else Check.exact (length j.entry_amplitudes) (declared_words x.visibility x)
    or_else Check.exact (length j.sample) (sample_size p) or_else Check.exact (length j.work) (sample_size p * (x.d + 1))

-- Refusals 6 and 7 of the words in them.
abbrev pub contents : Job → Checked
contents j =
    Check.amplitudes (words j.amplitudes) or_else Check.amplitudes (words j.entry_amplitudes)
    or_else classes_of j.numbers.visibility j.numbers.M (words j.table)

-- The refusals up to 7.
abbrev pub checks : Job → Checked
checks j = numbers j.numbers or_else lengths j or_else contents j
