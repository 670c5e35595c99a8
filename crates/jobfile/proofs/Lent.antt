-- A lookup's answer and its sample, with other slices of the same lengths to write.
-- Assumes nothing.
use mathlib.Core.Path.{◌≡◌, sym, ap, ◌∙◌}
use mathlib.Core.List.{List, ◌++◌}
use Prim.Native.Nat.{ℕ, ◌+◌, ◌*◌}
use lib.ListN.{length, length-replicate}
use lib.Seq.{take_at}
use Rattle.std.specs.Prelude.{Ok, Err}
use Rattle.answers.specs.Answers.{number}
use Rattle.answers.specs.declared.Ledger.{Ledger}
use Rattle.answers.specs.declared.Refusal.{Refusal}
use Rattle.answers.proofs.Laws.{after_written, after_err}
use Rattle.trgsw.specs.Parameters.{parameters, sample_size}
use Rattle.tables.specs.declared.Numbers.{Numbers}
use Rattle.lookup.specs.Job.{Job, public_job, lending}
use Rattle.lookup.specs.Calls.{lookup, lookup_sample, IsAccepted}
use Rattle.lookup.proofs.Results.{lookup_length}
use Rattle.jobfile.specs.File.{file_job}
use Rattle.jobfile.specs.Reader.{Gives}
use Rattle.jobfile.specs.Inner as Inner

module _ (j : Job) (sample work : List ℕ) (es : length j.sample ≡ length sample) (ew : length j.work ≡ length work) where
  -- The answer depends on the lengths alone.
  lookup_lent : lookup j ≡ lookup (lending j sample work)
  unfolding lookup
  lookup_lent = rw (es, ew)

  -- And so does the sample of an accepted lookup.
  sample_lent : IsAccepted (lending j sample work) → lookup_sample j ≡ lookup_sample (lending j sample work)
  unfolding lookup_sample
  sample_lent e = after_written _ _ _ (ap number lookup_lent ∙ e) ∙ sym (after_written _ _ _ e)

-- What is lent has the lengths of rooms.
module _ (x : Numbers) (blocks amplitudes classes sample work : List ℕ) (es : length sample ≡ 4 * sample_size (parameters x.scheme))
    (ew : length work ≡ 4 * (sample_size (parameters x.scheme) * (x.d + 1))) where
  -- The job, and the same as a file has it.
  abbrev j : Job
  j = public_job x blocks amplitudes classes sample work

  abbrev roomy : Job
  roomy = file_job x blocks amplitudes classes

  lent : lookup j ≡ lookup roomy
  lent = lookup_lent j _ _ (es ∙ sym (length-replicate _ 0)) (ew ∙ sym (length-replicate _ 0))

  -- A refused lookup tells no sample.
  pub gives_refused : (r : Refusal) → lookup j ≡ Err r → Gives (Err r) (lookup roomy) (Inner.sample roomy)
  gives_refused r e = let same = sym e ∙ lent in (same, after_err _ r _ _ (sym same))

  -- An accepted one tells the sample that it leaves at the front of the room.
  pub gives_accepted : (n : ℕ) (ledger : Ledger) (l rest : List ℕ) → n ≡ 4 * sample_size (parameters x.scheme) → lookup j ≡ Ok ledger
      → l ≡ lookup_sample j
      → Gives (Ok (record { ledger = ledger; size = n; sample = l ++ rest })) (lookup roomy) (Inner.sample roomy)
  gives_accepted n ledger l rest en ea el =
      let e : IsAccepted roomy = sym (ap number lent) ∙ ap number ea in
      let same : l ≡ Inner.sample roomy =
      el ∙ sample_lent j _ _ (es ∙ sym (length-replicate _ 0)) (ew ∙ sym (length-replicate _ 0)) e ∙ sym (after_written _ _ _ e) in
      let size : length l ≡ n = ap length el ∙ lookup_length j (ap number ea) ∙ sym en in
      (sym ea ∙ lent, sym size ∙ ap length same, take_at l rest n size ∙ same)
