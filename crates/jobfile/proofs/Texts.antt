-- Laws of the text that is printed for a file.
-- Assumes nothing.
use mathlib.Core.Path.{◌≡◌, refl, ap, sym, ◌∙◌}
use mathlib.Core.Bool.{and-false}
use mathlib.Core.List.{List, []}
use Prim.Native.Nat.{ℕ, zero, suc, ◌*◌, ◌/◌, ◌≤◌, ◌<◌}
use native.Mathlib.Omega.{arith}
use lib.Dec.{leb}
use lib.ListN.{length, take, drop, length-take}
use borrow.Author.Tests.{lt-leb}
use Rattle.torus.specs.Bytes.{words}
use Rattle.std.specs.Prelude.{Result, Ok, Err, IfOk}
use Rattle.answers.specs.Answers.{Answer, number, after}
use Rattle.answers.specs.Checks.{passed}
use Rattle.answers.specs.declared.Ledger.{Ledger}
use Rattle.answers.specs.declared.Refusal.{Refusal}
use Rattle.answers.specs.declared.Refusal.TheVariants as Refused
use Rattle.answers.proofs.Laws.{before, after_written}
use Rattle.trgsw.specs.Parameters.{masks}
use Rattle.lookup.specs.Calls.{lookup, lookup_sample, IsAccepted}
use Rattle.lookup.proofs.Results.{lookup_length}
use Rattle.report.specs.Report.{report, answer_lines}
use Rattle.report.proofs.Lines.{report_refused}
use Rattle.jobfile.specs.declared.layout.TheConstants.{SAMPLE_ROOM}
use Rattle.jobfile.specs.Layout.{largest_file, first_count, header_words}
use Rattle.jobfile.specs.declared.Outcome.{Outcome}
use Rattle.jobfile.specs.Reader.{file_refusal, read_job, job_answer, job_sample, Gives}
use Rattle.jobfile.specs.Output.{output, Shows}
use Rattle.jobfile.proofs.Passed.{refusal_held}

-- By cases of a number.
none_or_some : {P : Type 0} (n : ℕ) → (n ≡ 0 → P) → ((n ≡ 0 → ⊥) → P) → P
none_or_some zero none some = none refl
none_or_some (suc n) none some = some (λ e. omega arith)

-- ---- the sample

-- A refusal leaves none.
none_after : (a : Answer) (written : List ℕ) → (number a ≡ 0 → ⊥) → [] ≡ after a written []
unfolding after
none_after (Ok x) written some = absurd (some refl)
none_after (Err r) written some = refl

module _ (file : List ℕ) where
  -- An accepted file has passed the checks, and so has its lookup.
  pub accepted_lookup : number (job_answer file) ≡ 0 → (file_refusal file ≡ passed) × (IsAccepted (read_job file))
  unfolding job_answer
  accepted_lookup e = before (file_refusal file) (lookup (read_job file)) e

  -- Its sample is the lookup's, of 2·N words; a refused file has none.
  pub accepted_sample : number (job_answer file) ≡ 0 → job_sample file ≡ lookup_sample (read_job file)
  unfolding job_sample
  accepted_sample e = after_written (job_answer file) _ _ e

  accepted_size : number (job_answer file) ≡ 0 → (length (job_sample file) ≡ 8 * (read_job file).numbers.scheme.N) × ((read_job file).numbers.scheme.N ≤ 1024)
  unfolding masks
  accepted_size e =
      let p = accepted_lookup e in (
        ap length (accepted_sample e) ∙ lookup_length _ p.1 ∙ omega arith,
        (refusal_held file p.0).lawful.scheme.degree.most,
      )

  pub refused_sample : (number (job_answer file) ≡ 0 → ⊥) → [] ≡ job_sample file
  unfolding job_sample
  refused_sample some = none_after (job_answer file) _ some

  pub sample_size : (8 * (length (job_sample file) / 8) ≡ length (job_sample file)) × (length (job_sample file) ≤ SAMPLE_ROOM)
  sample_size =
      none_or_some (number (job_answer file))
      (λ e. (omega (arith, accepted_size e), omega (arith, accepted_size e)))
      (λ some. rw (← refused_sample some) (omega arith, omega arith))

  -- ---- the text

  -- A refusal prints two lines.
  pub output_refused : (number (job_answer file) ≡ 0 → ⊥) → output file ≡ answer_lines (job_answer file)
  unfolding output
  output_refused some = report_refused (job_answer file) _ _ some

  -- The text of an answer and a sample that are the file's: the first half of the words of a sample are its mask.
  pub output_told : (a : Answer) (s : List ℕ) → a ≡ job_answer file → s ≡ job_sample file
      → report a (take (length s / 8) (words s)) (drop (length s / 8) (words s)) ≡ output file
  unfolding output
  output_told a s ea es = rw (ea, es)
      (none_or_some (number (job_answer file))
      (λ e. let half : length (job_sample file) / 8 ≡ (read_job file).numbers.scheme.N = omega (arith, accepted_size e) in rw half)
      (λ some. report_refused (job_answer file) _ _ some ∙ sym (report_refused (job_answer file) _ _ some)))

  -- A file "over 65,536 bytes" is refused with 5, whatever it holds.
  pub long_answer : largest_file < length file → job_answer file ≡ Err Refused.Length
  unfolding job_answer file_refusal
  long_answer h =
      simp (lt-leb (length file) largest_file h, and-false (leb (4 * header_words (first_count (words file))) (length file)))

  pub long_output : largest_file < length file → output file ≡ answer_lines (Err Refused.Length)
  long_output h =
      let e = long_answer h in
      output_refused (λ z. let five : ◌≡◌ {A = ℕ} 5 0 = sym (ap number e) ∙ z in omega arith) ∙ ap answer_lines e

-- ---- what is shown of a file

-- What the reader gives stands in its room.
pub gives_within : (r : Result Outcome Refusal) (a : Answer) (bs : List ℕ) → Gives r a bs → IfOk r (λ x. x.size ≤ length x.sample)
gives_within (Ok x) a bs t = omega (arith, length-take x.size x.sample, ap length t.2, t.1)
gives_within (Err r) a bs t = tt

-- The answer 5 is the output for every file that is too large.
pub shows_long : (file mask body room : List ℕ) (size : ℕ) → largest_file < length file
    → Shows room size (report (Err Refused.Length) mask body) → Shows room size (output file)
shows_long file mask body room size long shown =
    let five : number {T = Ledger} (Err Refused.Length) ≡ 0 → ⊥ = λ z. omega arith in
    rw (long_output file long, ← report_refused (Err Refused.Length) mask body five) shown

-- The text of the file's answer and sample is its output.
pub shows_whole : (file s : List ℕ) (a : Answer) (room : List ℕ) (size : ℕ) → a ≡ job_answer file → s ≡ job_sample file
    → Shows room size (report a (take (length s / 8) (words s)) (drop (length s / 8) (words s))) → Shows room size (output file)
shows_whole file s a room size ea es shown = rw (← output_told file a s ea es) shown
