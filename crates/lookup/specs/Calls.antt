-- The lookup, which public calls offer in each packing, of public and of hidden tables: its whole answer, and what it leaves in the slices
-- that it writes. The answer has a line for each row of document 01's table of returned numbers that applies.
-- Assumes nothing.
use Rattle.std.specs.Prelude.{◌≡◌, List, ℕ, ◌+◌, ◌*◌, length, replicate}
use Rattle.torus.specs.Bytes.{words, bytes}
use Rattle.answers.specs.Checks.{◌or_else◌}
use Rattle.answers.specs.Checks as Check
use Rattle.answers.specs.Answers.{Answer, number, noise, after}
use Rattle.trgsw.specs.Parameters.{scheme_refusal, sample_size, block_size, parameters}
use Rattle.tables.specs.Numbers.{rotations, gate_count, table_words, declared_words, most_classes, most_selectors}
use Rattle.lookup.specs.Job.{Job}
use Rattle.trees.specs.LookedUp.{Entry, looked_up, looked_up_bound}
use Rattle.tables.specs.Table.{table_entry, classes_of}

-- Entry t of the job's table.
abbrev pub entry : (j : Job) (t : ℕ) → Entry
entry j t = table_entry j.numbers (words j.table) (words j.entry_amplitudes) t

-- "the largest entry amplitude plus the charges"
abbrev pub noise_bound : Job → ℕ
noise_bound j = looked_up_bound (parameters j.numbers.scheme) (words j.amplitudes) (rotations j.numbers) (entry j) j.numbers.d

-- The answer. Refused with 9 if "the bound is 2^31/M or more".
unfoldable pub lookup : Job → Answer
lookup j =
    let x = j.numbers in
    let p = parameters x.scheme in
    scheme_refusal x.scheme
    or_else Check.class_number x.M
    or_else Check.count (most_classes x.packing x.scheme.N) x.s or_else Check.depth (most_selectors x.packing) x.d
    or_else Check.exact (length j.blocks) (x.d * block_size p) or_else Check.exact (length j.amplitudes) x.d
    or_else Check.exact (length j.table) (table_words x.visibility x)
    or_else Check.exact (length j.entry_amplitudes) (declared_words x.visibility x)
    or_else Check.exact (length j.sample) (sample_size p) or_else Check.exact (length j.work) (sample_size p * (x.d + 1))
    or_else Check.amplitudes (words j.amplitudes) or_else Check.amplitudes (words j.entry_amplitudes)
    or_else classes_of x.visibility x.M (words j.table)
    or_else noise x.M (noise_bound j) (gate_count x)

-- "accepted means answer 0"
abbrev pub IsAccepted : Job → Type 0
IsAccepted j = number (lookup j) ≡ 0

-- The words of the result, of a table with the classes of 2^d entries. "With d = 0 the result is the entry itself".
abbrev pub result_sample : Job → List ℕ
result_sample j =
    let x = j.numbers in
    looked_up (parameters x.scheme) (words j.blocks) (rotations x) (entry j) x.d

-- What it leaves in the sample's slice.
unfoldable pub lookup_sample : Job → List ℕ
lookup_sample j = after (lookup j) (bytes (result_sample j)) j.sample

-- What it leaves in the work slice: "After acceptance the work slice is all 0."
unfoldable pub lookup_work : Job → List ℕ
lookup_work j = after (lookup j) (replicate (length j.work) 0) j.work
