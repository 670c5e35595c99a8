-- What the inner functions ask of a table. No promise of a public call rests on these.
-- Assumes nothing.
use Rattle.std.specs.Prelude.{◌≡◌, List, ℕ, suc, ◌*◌, ◌^◌, ◌≤◌, ◌<◌, length, get_or}
use Rattle.torus.specs.Bytes.{words}
use Rattle.trgsw.specs.Parameters.{parameters, sample_size}
use Rattle.tables.specs.declared.Visibility.TheVariants.{Public}
use Rattle.tables.specs.declared.Numbers.{Numbers}
use Rattle.tables.specs.Numbers.{declared_words}
use Rattle.tables.specs.Table.{entry_words}

-- Of the declared amplitudes of a table's entries: how many there are, and that they are up to 2^31.
pub record Declared (x : Numbers) (amplitudes : List ℕ) : Type 0 where
  pub amplitudes_length : length amplitudes ≡ 4 * declared_words x.visibility x
  pub small : (t : ℕ) → t < length (words amplitudes) → get_or (words amplitudes) t 0 ≤ 2 ^ 31

-- The classes of a table, if it is public, are below M.
abbrev pub Below : (x : Numbers) (table : List ℕ) → Type 0
Below x table = x.visibility ≡ Public → (i : ℕ) → i < length (words table) → get_or (words table) i 0 < x.M

-- Of the sample's length in bytes and of the table, for sample t of the table.
pub record Leaf (x : Numbers) (t sample : ℕ) (table : List ℕ) : Type 0 where
  pub sample_length : sample ≡ 4 * sample_size (parameters x.scheme)
  pub table_length : 4 * (suc t * entry_words x.visibility x) ≤ length table
  pub below : Below x table
