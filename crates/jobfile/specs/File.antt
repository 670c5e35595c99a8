-- The file that is made of a job: "Words, lowest byte first, sections in fixed order, each after its count."
-- Assumes nothing.
use Rattle.std.specs.Prelude.{◌≡◌, cond, ◌&&◌, List, [], ◌∷◌, ◌++◌, ℕ, ◌+◌, ◌*◌, ◌^◌, ◌≤◌, ◌<◌, eqb, ltb, length, get_or, replicate}
use Rattle.torus.specs.Sum.{joined}
use Rattle.torus.specs.Bytes.{AreBytes, words, bytes}
use Rattle.trgsw.specs.Parameters.{sample_size, block_size, scheme_of, parameters}
use Rattle.tables.specs.declared.Packing.{Packing}
use Rattle.tables.specs.declared.Packing.TheVariants.{Horizontal, Vertical}
use Rattle.tables.specs.declared.Visibility.TheVariants.{Public}
use Rattle.tables.specs.declared.Numbers.{Numbers}
use Rattle.tables.specs.Numbers.{LawfulNumbers, horizontal_selectors, table_size}
use Rattle.lookup.specs.Job.{Job, public_job}
use Rattle.trees.specs.LookedUp.{selector}
use Rattle.jobfile.specs.Layout.{largest_file}

-- The packing of a file's job. "A job file uses it when s is 1 and d is above 10": the vertical one.
unfoldable pub file_packing : (s d : ℕ) → Packing
file_packing s d = cond (eqb s 1 && ltb horizontal_selectors d) Vertical Horizontal

-- The numbers of a file's job, by those that stand in it: "Job files still carry public tables", and "Job files mean W = N".
abbrev pub file_numbers : (N g L M s d : ℕ) → Numbers
file_numbers N g L M s d = record {
  packing = file_packing s d;
  visibility = Public;
  scheme = scheme_of N g L;
  M = M;
  s = s;
  d = d;
}

-- "Section one: count 5, then N, g, L, M, s."
abbrev pub section_one : Numbers → List ℕ
section_one x = let ns = x.scheme.N ∷ x.scheme.g ∷ x.scheme.L ∷ x.M ∷ x.s ∷ [] in length ns ∷ ns

-- "Section two: count d, then for each selector its amplitude and block."
abbrev pub section_two : Job → List ℕ
section_two j =
    let x = j.numbers in
    x.d ∷ joined x.d (λ i. get_or (words j.amplitudes) i 0 ∷ selector (parameters x.scheme) i (words j.blocks))

-- "Section three: count s·2^d, then the classes, all s of entry 0 first."
abbrev pub section_three : Job → List ℕ
section_three j = table_size j.numbers ∷ words j.table

-- The words of the file, and its bytes.
abbrev pub file_words : Job → List ℕ
file_words j = section_one j.numbers ++ (section_two j ++ section_three j)

unfoldable pub job_file : Job → List ℕ
job_file j = bytes (file_words j)

-- A job with these numbers and parts. "Job files still carry public tables", and have no slices to write, so a file's job is lent words 0.
abbrev pub file_job : (x : Numbers) (blocks amplitudes classes : List ℕ) → Job
file_job x blocks amplitudes classes =
    public_job x blocks amplitudes classes
    (replicate (4 * sample_size (parameters x.scheme)) 0) (replicate (4 * (sample_size (parameters x.scheme) * (x.d + 1))) 0)

-- A job that a file can be made of: it has the packing of a file with its s and d, its numbers are words, and its parts are of bytes and
-- have the lengths that these numbers give. So a job in the vertical packing with d up to 10 has no file, nor has one that declares a weight
-- below N.
pub record Whole (j : Job) : Type 0 where
  pub numbers : let x = j.numbers in x ≡ file_numbers x.scheme.N x.scheme.g x.scheme.L x.M x.s x.d
  pub of_words : (i : ℕ) → get_or (file_words j) i 0 < 2 ^ 32
  pub blocks_length : length j.blocks ≡ 4 * (j.numbers.d * block_size (parameters j.numbers.scheme))
  pub amplitudes_length : length j.amplitudes ≡ 4 * j.numbers.d
  pub classes_length : length j.table ≡ 4 * table_size j.numbers
  pub blocks_bytes : AreBytes j.blocks
  pub amplitudes_bytes : AreBytes j.amplitudes
  pub classes_bytes : AreBytes j.table
  pub lent : j ≡ file_job j.numbers j.blocks j.amplitudes j.table

-- A well-formed file: made of such a job with lawful numbers, and not "over 65,536 bytes".
pub record WellFormed (file : List ℕ) : Type 0 where
  pub job : Job
  pub whole : Whole job
  pub lawful : LawfulNumbers job.numbers
  pub made : file ≡ job_file job
  pub fits : length file ≤ largest_file
