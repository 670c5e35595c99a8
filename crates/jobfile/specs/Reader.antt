-- The job in a file, and what the program answers: the whole answer and the sample, for every byte string.
-- Assumes nothing.
use Rattle.std.specs.Prelude.{◌≡◌, true, ◌&&◌, Result, Ok, Err, List, [], ℕ, ◌+◌, ◌*◌, ◌%◌, ◌≤◌, eqb, leb, length, get_or, take, drop}
use Rattle.torus.specs.Sum.{tabulate, joined, chunk}
use Rattle.torus.specs.Bytes.{words, bytes}
use Rattle.answers.specs.Checks.{Checked, ◌or_else◌}
use Rattle.answers.specs.Checks as Check
use Rattle.answers.specs.Answers.{Answer, after}
use Rattle.answers.specs.declared.Refusal.{Refusal}
use Rattle.answers.specs.declared.Refusal.TheVariants as Refused
use Rattle.tables.specs.declared.Numbers.{Numbers}
use Rattle.trgsw.specs.Parameters.{parameters, block_size}
use Rattle.tables.specs.Numbers.{table_size, numbers}
use Rattle.lookup.specs.Job.{Job}
use Rattle.lookup.specs.Calls.{lookup, lookup_sample}
use Rattle.jobfile.specs.Layout.{largest_file, is_first_count, first_count, header_number, depth_at, header_words}
use Rattle.jobfile.specs.File.{file_numbers, file_job}
use Rattle.jobfile.specs.declared.Outcome.{Outcome}

-- What stands behind the header: d selectors, then section three.
abbrev pub behind : (file : List ℕ) → List ℕ
behind file = let ws = words file in drop (header_words (first_count ws)) ws

-- Of it, part i of section two: the amplitude of selector i, then its block of b words.
abbrev pub selector_part : (b i : ℕ) (ws : List ℕ) → List ℕ
selector_part b i ws = chunk (1 + b) i ws

-- Section three: what stands behind the d parts. It begins with its count.
abbrev pub table_part : (b d : ℕ) (ws : List ℕ) → List ℕ
table_part b d ws = drop (d * (1 + b)) ws

-- The amplitudes, the blocks and the classes.
abbrev pub read_amplitudes : (b d : ℕ) (ws : List ℕ) → List ℕ
read_amplitudes b d ws = tabulate d (λ i. get_or (selector_part b i ws) 0 0)

abbrev pub read_blocks : (b d : ℕ) (ws : List ℕ) → List ℕ
read_blocks b d ws = joined d (λ i. drop 1 (selector_part b i ws))

abbrev pub read_classes : (b d : ℕ) (ws : List ℕ) → List ℕ
read_classes b d ws = drop 1 (table_part b d ws)

-- The job in a file that begins as a job file does: N, g, L, M and s are the numbers of section one, and d stands behind them.
unfoldable pub read_job : (file : List ℕ) → Job
read_job file =
    let ws = words file in
    let d = get_or ws (depth_at (first_count ws)) 0 in
    let x = file_numbers (header_number 0 ws) (header_number 1 ws) (header_number 2 ws) (header_number 3 ws) (header_number 4 ws) d in
    let b = block_size (parameters x.scheme) in
    file_job x (bytes (read_blocks b x.d (behind file))) (bytes (read_amplitudes b x.d (behind file))) (bytes (read_classes b x.d (behind file)))

-- ---- refusals

-- "A file under 28 or over 65,536 bytes, of a length not divisible by four, or whose first word is not 5 answers 5 before anything else."
abbrev pub beginning : (file : List ℕ) → Checked
beginning file =
    let c = first_count (words file) in
    Check.unless (leb (4 * header_words c) (length file) && (leb (length file) largest_file && (eqb (length file % 4) 0 && is_first_count c))) Refused.Length

-- The same as a statement: the file begins as a job file does.
pub record Begins (file : List ℕ) : Type 0 where
  pub least : 4 * header_words (first_count (words file)) ≤ length file
  pub most : length file ≤ largest_file
  pub whole : length file % 4 ≡ 0
  pub counted : is_first_count (first_count (words file)) ≡ true

-- The words of a file whose first count is c: the header, d selectors, a count and s·2^d classes.
abbrev pub file_size : (c : ℕ) → Numbers → ℕ
file_size c x = header_words c + x.d * (1 + block_size (parameters x.scheme)) + (1 + table_size x)

-- "then 5 for any other wrong length or section three count"
abbrev pub table_count : (x : Numbers) (file : List ℕ) → Checked
table_count x file = Check.unless (eqb (get_or (table_part (block_size (parameters x.scheme)) x.d (behind file)) 0 0) (table_size x)) Refused.Length

abbrev pub sections : (x : Numbers) (file : List ℕ) → Checked
sections x file = Check.exact (length file) (file_size (first_count (words file)) x) or_else table_count x file

-- What refuses a file before its lookup begins: its beginning, then "Refusals 1 to 4 follow", then its sections. 12, which stands among these
-- numbers, does not apply: W is N.
unfoldable pub file_refusal : (file : List ℕ) → Checked
file_refusal file =
    let x = (read_job file).numbers in
    beginning file or_else numbers x or_else sections x file

-- ---- the answer and the sample

-- What a whole file is answered: "a job is the input of one lookup, lent directly or read from a job file".
unfoldable pub job_answer : (file : List ℕ) → Answer
job_answer file = file_refusal file or_else lookup (read_job file)

-- The bytes of the sample that is printed: none where the file is refused.
unfoldable pub job_sample : (file : List ℕ) → List ℕ
job_sample file = after (job_answer file) (lookup_sample (read_job file)) []

-- What the reader gives tells an answer and the bytes of a sample, of which a refused file has none. What stands behind them in the room of
-- the sample is free.
abbrev pub Gives : (r : Result Outcome Refusal) (a : Answer) (bs : List ℕ) → Type 0
Gives (Ok x) a bs = (Ok x.ledger ≡ a) × (x.size ≡ length bs) × (take x.size x.sample ≡ bs)
Gives (Err refusal) a bs = (Err refusal ≡ a) × ([] ≡ bs)
