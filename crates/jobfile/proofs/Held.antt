-- What the code's numbers tell of the job that they are of, and the answer of a job that is taken apart.
-- Assumes nothing.
use mathlib.Core.Path.{◌≡◌, ap, sym, ◌∙◌}
use mathlib.Core.List.{List, []}
use Prim.Native.Nat.{ℕ, ◌+◌, ◌-◌, ◌*◌, ◌≤◌}
use native.Mathlib.Omega.{arith}
use lib.ListN.{length, take, drop}
use lib.Seq.{drop-drop}
use Rattle.torus.specs.Bytes.{AreBytes, words, bytes}
use Rattle.torus.proofs.Parts.{words_drop, back_all, bytes_words, drop_bytes}
use Rattle.std.specs.Prelude.{Result, Err}
use Rattle.answers.specs.declared.Refusal.{Refusal}
use Rattle.answers.specs.Checks.{passed}
use Rattle.answers.specs.Answers.{after}
use Rattle.answers.proofs.Laws.{stopped, went_on, after_err}
use Rattle.tables.specs.declared.Numbers.{Numbers}
use Rattle.trgsw.specs.Parameters.{parameters, block_size}
use Rattle.tables.specs.Numbers.{table_size}
use Rattle.lookup.specs.Job.{Job}
use Rattle.lookup.specs.Calls.{lookup, lookup_sample}
use Rattle.jobfile.specs.Layout.{largest_file, first_count, header_words}
use Rattle.jobfile.specs.Reader.{behind, read_blocks, read_amplitudes, read_classes, read_job, file_refusal, job_answer, job_sample, Gives}
use Rattle.jobfile.specs.File.{file_job}
use Rattle.jobfile.specs.Inner.{sample}
use Rattle.jobfile.specs.declared.Outcome.{Outcome}
use Rattle.jobfile.proofs.Passed.{Passes, begins_words, refusal_held}

-- ---- the numbers

module _ (file : List ℕ) (x : Numbers) (e : file_refusal file ≡ passed) (h : x ≡ (read_job file).numbers) where
  ok : Passes file
  ok = refusal_held file e

  -- The file has a first count.
  pub held_some : 4 ≤ length file
  held_some = omega (arith, begins_words file ok.begins)

  -- With a header of w words and blocks of b words, it is of the words that they give, and not too large.
  pub held_size : (w b : ℕ) → w ≡ header_words (first_count (words file)) → b ≡ block_size (parameters x.scheme)
      → (length file ≡ 4 * (w + x.d * (1 + b) + 1 + table_size (read_job file).numbers)) × (length file ≤ largest_file)
  held_size w b ew eb =
      let y = (read_job file).numbers in
      let two : x.d * (1 + b) ≡ y.d * (1 + block_size (parameters y.scheme)) = rw (eb, h) in
      (omega (arith, ok.fits.size, two, ew), ok.begins.most)

-- ---- the parts

module _ (file : List ℕ) (x : Numbers) (w b : ℕ) (h : x ≡ (read_job file).numbers) (ew : w ≡ header_words (first_count (words file)))
    (e : b ≡ block_size (parameters x.scheme)) where
  -- What is read by the code's numbers is what is read by the job's.
  held_read : (read : (b d : ℕ) (ws : List ℕ) → List ℕ)
      → read b x.d (behind file) ≡ read (block_size (parameters (read_job file).numbers.scheme)) (read_job file).numbers.d (behind file)
  held_read read = rw (e, h)

  -- What stands behind the header of w words.
  behind_at : drop w (words file) ≡ behind file
  behind_at = ap (λ k. drop k (words file)) ew

  -- A slice of bytes whose words the code has read out of it.
  gathered : (read : (b d : ℕ) (ws : List ℕ) → List ℕ) (k : ℕ) (s : List ℕ) → length s ≡ 4 * k → AreBytes s
      → words s ≡ read b x.d (words (take (length file - 4 * w) (drop (4 * w) file)))
      → s ≡ bytes (read (block_size (parameters (read_job file).numbers.scheme)) (read_job file).numbers.d (behind file))
  gathered read k s size byte own =
      sym (bytes_words k s size byte)
      ∙ ap bytes (own ∙ ap (λ ws. read b x.d ws) (ap words (back_all (4 * w) file) ∙ words_drop w file ∙ behind_at) ∙ held_read read)

  pub blocks_bytes : (k : ℕ) (s : List ℕ) → length s ≡ 4 * k → AreBytes s
      → words s ≡ read_blocks b x.d (words (take (length file - 4 * w) (drop (4 * w) file))) → s ≡ (read_job file).blocks
  unfolding read_job
  blocks_bytes = gathered read_blocks

  pub amplitudes_bytes : (k : ℕ) (s : List ℕ) → length s ≡ 4 * k → AreBytes s
      → words s ≡ read_amplitudes b x.d (words (take (length file - 4 * w) (drop (4 * w) file))) → s ≡ (read_job file).amplitudes
  unfolding read_job
  amplitudes_bytes = gathered read_amplitudes

  -- The classes are lent as they stand in the file.
  pub classes_bytes : (n : ℕ) → length file ≡ 4 * (w + x.d * (1 + b) + 1 + n) → AreBytes file
      → take (length file - (4 * w + 4 * (x.d * (1 + b) + 1))) (drop (4 * w + 4 * (x.d * (1 + b) + 1)) file) ≡ (read_job file).table
  unfolding read_job
  classes_bytes n size byte =
      let at : 4 * w + 4 * (x.d * (1 + b) + 1) ≡ 4 * (w + x.d * (1 + b) + 1) = omega arith in
      back_all _ file ∙ ap (λ k. drop k file) at ∙ drop_bytes (w + x.d * (1 + b) + 1) n file byte size
      ∙ ap bytes (sym (drop-drop 1 (w + x.d * (1 + b)) (words file))
      ∙ ap (drop 1) (sym (drop-drop (x.d * (1 + b)) w (words file)) ∙ ap (drop (x.d * (1 + b))) behind_at) ∙ held_read read_classes)

-- ---- the answer

-- Past the checks the answer is the lookup's.
pub answer_lookup : (file : List ℕ) → file_refusal file ≡ passed → job_answer file ≡ lookup (read_job file)
unfolding job_answer
answer_lookup file e = went_on (file_refusal file) _ e

sample_lookup : (file : List ℕ) → file_refusal file ≡ passed → job_sample file ≡ sample (read_job file)
unfolding job_sample
sample_lookup file e = ap (λ a. after a (lookup_sample (read_job file)) []) (answer_lookup file e)

-- The job that is taken apart and lent by its parts is the file's.
pub same_job : (file : List ℕ) (x : Numbers) (blocks amplitudes classes : List ℕ) → x ≡ (read_job file).numbers
    → blocks ≡ (read_job file).blocks → amplitudes ≡ (read_job file).amplitudes → classes ≡ (read_job file).table
    → file_job x blocks amplitudes classes ≡ read_job file
unfolding read_job
same_job file x blocks amplitudes classes h eb ea ec = rw (h, eb, ea, ec)

-- So what its lookup tells is what the file is answered.
pub told : (file : List ℕ) (j : Job) (r : Result Outcome Refusal) → file_refusal file ≡ passed → j ≡ read_job file → Gives r (lookup j) (sample j)
    → Gives r (job_answer file) (job_sample file)
told file j r e same t = rw (answer_lookup file e, sample_lookup file e, ← same) t

-- What the checks refuse is answered so, with no sample.
pub refused : (file : List ℕ) (refusal : Refusal) → file_refusal file ≡ Err refusal → Gives (Err refusal) (job_answer file) (job_sample file)
unfolding job_answer job_sample
refused file refusal e =
    let same = stopped (file_refusal file) refusal (lookup (read_job file)) e in
    (same, after_err _ refusal _ _ (sym same))
