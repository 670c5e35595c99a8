-- What the program prints for a file.
-- Assumes nothing.
use Rattle.std.specs.Prelude.{◌≡◌, Bool, cond, List, [], ◌++◌, ℕ, ◌≤◌, ◌<◌, length, take, drop}
use Rattle.torus.specs.Bytes.{words}
use Rattle.report.specs.Report.{report}
use Rattle.jobfile.specs.Layout.{largest_file}
use Rattle.jobfile.specs.Reader.{read_job, job_answer, job_sample}

-- The answer, and the sample where there is one: its first N words are its mask.
unfoldable pub output : (file : List ℕ) → List ℕ
output file =
    let N = (read_job file).numbers.scheme.N in
    let ws = words (job_sample file) in
    report (job_answer file) (take N ws) (drop N ws)

-- A text that the code has made: it stands at the front of its room, and has so many bytes. What stands behind it is free.
pub record Shows (room : List ℕ) (size : ℕ) (text : List ℕ) : Type 0 where
  pub length_text : size ≡ length text
  pub front : take size room ≡ text
  pub within : size ≤ length room

-- The rest of an input behind its first bytes: nothing, or so much that the whole is "over 65,536 bytes".
abbrev pub Continues : (more : Bool) (file rest : List ℕ) → Type 0
Continues more file rest = cond more (largest_file < length (file ++ rest)) (rest ≡ [])
