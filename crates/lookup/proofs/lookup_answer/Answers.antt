-- `lookup::lookup_answer` meets its contract. Assumes nothing.
use Rattle.std.proofs.Common.{◌+◌, ap₂, sym, ◌∙◌, le_refl, arith}
use Rattle.std.proofs.lemmas.Result.{err_from_is_err_and}
use Rattle.answers.specs.Answers.{noise}
use Rattle.answers.proofs.Laws.{stopped, went_on}
use Rattle.lookup.specs.Job.{job_of}
use Rattle.lookup.proofs.Passed.{lookup_judged}
use Rattle.lookup.proofs.Accepted.{wellformed}
use Rattle.lookup.proofs.Public.{job_selectors, job_declared}
use Rattle.lookup.proofs.Charges.{selectors_fit}
use Rattle.lookup.proofs.lookup_answer.Goals as goal

pub returns-in_err-check : goal.returns-in_err-check
returns-in_err-check c =
    let j = job_of c.args.lent.now c.args.sample.now c.args.work.now in
    let p = err_from_is_err_and c.from_residual.result c.from_residual.ensures.1 in
    rw (p.1, p.2) (stopped _ _ _ (sym c.check.ensures ∙ c.in_err-check.was) ∙ lookup_judged j)

pub invariant_of-x : goal.invariant_of-x
invariant_of-x c = record { lawful = (wellformed (job_of c.args.lent.now c.args.sample.now c.args.work.now) (sym c.check.ensures ∙ c.in_ok-check.was)).numbers }

pub largest_amplitude-begun-requires : goal.largest_amplitude-begun-requires
largest_amplitude-begun-requires c =
    let j = job_of c.args.lent.now c.args.sample.now c.args.work.now in
    job_declared j (wellformed j (sym c.check.ensures ∙ c.in_ok-check.was))

pub charges-charged-requires : goal.charges-charged-requires
charges-charged-requires c =
    let j = job_of c.args.lent.now c.args.sample.now c.args.work.now in
    job_selectors j (wellformed j (sym c.check.ensures ∙ c.in_ok-check.was))

pub overflow_add-begun : goal.overflow_add-begun
overflow_add-begun c =
    let j = job_of c.args.lent.now c.args.sample.now c.args.work.now in
    let x = j.numbers in
    let selectors = job_selectors j (wellformed j (sym c.check.ensures ∙ c.in_ok-check.was)) in
    omega (arith, c.largest_amplitude-begun.ensures.1, c.charges-charged.ensures, selectors_fit x x.d j.amplitudes selectors x.d (le_refl x.d))

pub returns : goal.returns
returns c =
    let j = job_of c.args.lent.now c.args.sample.now c.args.work.now in
    c.noise.ensures
    ∙ ap₂ (λ b e. noise j.numbers.M b e) (ap₂ ◌+◌ c.largest_amplitude-begun.ensures.0 c.charges-charged.ensures) c.gate_count.ensures
    ∙ sym (went_on _ _ (sym c.check.ensures ∙ c.in_ok-check.was))
    ∙ lookup_judged j
