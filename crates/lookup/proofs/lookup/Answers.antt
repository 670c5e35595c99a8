-- `lookup::lookup` meets its contract. Assumes nothing.
use Rattle.std.proofs.Common.{ℕ, ◌+◌, ◌*◌, ◌/◌, replicate, sym, ap, ap₂, ◌∙◌, arith}
use Rattle.std.specs.Prelude.{Ok}
use Rattle.answers.specs.Answers.{number}
use Rattle.answers.proofs.Laws.{after_err, after_accepted, after_written}
use Rattle.trgsw.specs.Parameters.{sample_size, parameters}
use Rattle.lookup.specs.Job.{job_of}
use Rattle.lookup.specs.Calls as Calls
use Rattle.lookup.proofs.Accepted.{lookup_accepted, lookup_accepts}
use Rattle.lookup.proofs.Public.{job_selectors, job_declared, job_run, cleared}
use Rattle.lookup.proofs.lookup.Goals as goal

pub evaluate-requires : goal.evaluate-requires
evaluate-requires c =
    let j = job_of c.args.lent.now c.args.sample.now c.args.work.now in
    let f = (lookup_accepted j (ap number (sym c.in-Ok.ensures))).job in
    (job_selectors j f, job_declared j f, job_run j f, omega (arith, f.lengths.sample_length, f.lengths.work_length), omega (arith, f.lengths.work_length))

pub returns-in-Ok : goal.returns-in-Ok
unfolding Calls.lookup_sample Calls.lookup_work
returns-in-Ok c =
    let j = job_of c.args.lent.now c.args.sample.now c.args.work.now in
    let e = ap number (sym c.in-Ok.ensures) in
    let f = lookup_accepted j e in
    let own : ℕ = sample_size (parameters j.numbers.scheme) in
    let E = c.evaluate in (
      ap₂ (λ (b g : ℕ). Ok (record { bound = b; gates = g })) E.ensures.2 E.ensures.3 ∙ sym (lookup_accepts j f),
      after_accepted (Calls.lookup j) own _ _ _ e (omega (arith, E.auto.sample, f.job.lengths.sample_length))
          (λ i. (c.type_inv.sample i).fits) E.ensures.0,
      cleared (own * (j.numbers.d + 1)) _ (omega (arith, E.auto.work, f.job.lengths.work_length)) (λ i. (c.type_inv.work i).fits)
          (E.ensures.1 ∙ ap (λ (m : ℕ). replicate (m / 4) 0) (sym E.auto.work))
          ∙ ap (λ (m : ℕ). replicate m 0) E.auto.work ∙ sym (after_written (Calls.lookup j) _ _ e),
    )

pub returns-in_default : goal.returns-in_default
unfolding Calls.lookup_sample Calls.lookup_work
returns-in_default c =
    let e = sym c.in_default.ensures in
    (c.lookup_answer.ensures, after_err _ _ _ _ e, after_err _ _ _ _ e)
