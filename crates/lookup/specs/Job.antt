-- A job: "the input of one lookup, lent directly or read from a job file".
-- Assumes nothing.
use Rattle.std.specs.Prelude.{List, [], ℕ, replicate}
use Rattle.torus.specs.Sum.{joined}
use Rattle.torus.specs.Bytes.{words, bytes}
use Rattle.tables.specs.declared.Visibility.TheVariants.{Hidden}
use Rattle.tables.specs.declared.Numbers.{Numbers}
use Rattle.tables.specs.Numbers.{table_samples}
use Rattle.tables.specs.Table.{table_sample}
use Rattle.lookup.specs.declared.Lent.{Lent}

-- Its numbers, and its slices as lists of bytes, as they are lent. A lookup reads the first four slices, and writes the last two. The table
-- is classes where it is public, and else samples, each with a declared amplitude; a public table lends no amplitudes.
pub record Job : Type 0 where
  pub numbers : Numbers
  pub blocks : List ℕ
  pub amplitudes : List ℕ
  pub table : List ℕ
  pub entry_amplitudes : List ℕ
  pub sample : List ℕ
  pub work : List ℕ

-- The job of what is lent to a lookup.
abbrev pub job_of : (lent : Lent) (sample work : List ℕ) → Job
job_of lent sample work = record {
  numbers = lent.numbers;
  blocks = lent.blocks.now;
  amplitudes = lent.amplitudes.now;
  table = lent.table.now;
  entry_amplitudes = lent.entry_amplitudes.now;
  sample = sample;
  work = work;
}

-- The job of a public table, which is classes.
abbrev pub public_job : (x : Numbers) (blocks amplitudes classes sample work : List ℕ) → Job
public_job x blocks amplitudes classes sample work = record {
  numbers = x;
  blocks = blocks;
  amplitudes = amplitudes;
  table = classes;
  entry_amplitudes = [];
  sample = sample;
  work = work;
}

-- The same job with other amplitudes of its selectors declared.
abbrev pub declaring : (j : Job) (amplitudes : List ℕ) → Job
declaring j amplitudes = record j { amplitudes = amplitudes }

-- The same job with another weight declared of its key.
abbrev pub weighing : (j : Job) (W : ℕ) → Job
weighing j W = record j { numbers = record j.numbers { scheme = record j.numbers.scheme { W = W } } }

-- The same job with other slices to write.
abbrev pub lending : (j : Job) (sample work : List ℕ) → Job
lending j sample work = record j { sample = sample; work = work }

-- The same numbers, of a hidden table.
abbrev pub hiding : Numbers → Numbers
hiding x = record x { visibility = Hidden }

-- A public table lent as a hidden one: its entries' trivial samples, each with amplitude 0.
abbrev pub as_hidden : Job → Job
as_hidden j = record j {
  numbers = hiding j.numbers;
  table = bytes (joined (table_samples j.numbers) (λ t. table_sample j.numbers (words j.table) t));
  entry_amplitudes = bytes (replicate (table_samples j.numbers) 0);
}
