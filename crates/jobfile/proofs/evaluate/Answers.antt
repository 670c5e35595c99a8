-- `jobfile::evaluate` meets its contract. Assumes nothing.
use Rattle.std.proofs.Common.{◌≡◌, ℕ, ◌+◌, ◌*◌, ◌≤◌, List, length, take, drop, sym, ap, ◌∙◌, arith}
use native.Mathlib.Nat.{mul-le-mul}
use lib.Seq.{length-take-le}
use Rattle.std.proofs.lemmas.Result.{err_from_is_err_and}
use Rattle.trgsw.specs.Parameters.{sample_size, parameters}
use Rattle.tables.specs.declared.Numbers.{Numbers}
use Rattle.trgsw.proofs.Told.{sample_fits}
use Rattle.tables.specs.Numbers.{LawfulNumbers, deepest}
use Rattle.tables.proofs.Packings.{depth_le}
use Rattle.jobfile.specs.declared.layout.TheConstants.{SAMPLE_ROOM, WORK_ROOM}
use Rattle.jobfile.proofs.Lent.{gives_refused, gives_accepted}
use Rattle.jobfile.proofs.evaluate.Goals as goal

-- A sample fits its room,
own_fits : (x : Numbers) → LawfulNumbers x → 4 * sample_size (parameters x.scheme) ≤ SAMPLE_ROOM
own_fits x ok = omega (arith, sample_fits x.scheme 1024 ok.scheme.degree.most)

-- and the work slice fits its own.
work_fits : (x : Numbers) → LawfulNumbers x → 4 * sample_size (parameters x.scheme) * (x.d + 1) ≤ WORK_ROOM
work_fits x ok =
    let kept : x.d + 1 ≤ deepest + 1 = omega (arith, depth_le x ok) in
    mul-le-mul (own_fits x ok) kept

-- So what is lent is there, and has the lengths that the lookup asks.
module _ (x : Numbers) (ok : LawfulNumbers x) (n : ℕ) (own : n ≡ sample_size (parameters x.scheme)) (room : List ℕ) where
  sample_there : SAMPLE_ROOM ≡ length room → 4 * n ≤ length room
  sample_there e = omega (arith, own_fits x ok)

  sample_length : SAMPLE_ROOM ≡ length room → length (take (4 * n) room) ≡ 4 * sample_size (parameters x.scheme)
  sample_length e = length-take-le (4 * n) room (sample_there e) ∙ ap (λ (m : ℕ). 4 * m) own

  work_there : WORK_ROOM ≡ length room → 4 * n * (x.d + 1) ≤ length room
  work_there e =
      let same : 4 * n * (x.d + 1) ≡ 4 * sample_size (parameters x.scheme) * (x.d + 1) = ap (λ (m : ℕ). 4 * m * (x.d + 1)) own in
      omega (arith, work_fits x ok)

  work_length : WORK_ROOM ≡ length room → length (take (4 * n * (x.d + 1)) room) ≡ 4 * (sample_size (parameters x.scheme) * (x.d + 1))
  work_length e =
      let same : n * (x.d + 1) ≡ sample_size (parameters x.scheme) * (x.d + 1) = ap (λ (m : ℕ). m * (x.d + 1)) own in
      length-take-le (4 * n * (x.d + 1)) room (work_there e) ∙ omega arith

pub slice_bounds-sample-end : goal.slice_bounds-sample-end
slice_bounds-sample-end c =
    sample_there c.args.x.numbers c.args.x.lawful _ c.sample_size.ensures.0 _ c.room-sample.ensures

pub slice_bounds-lookup-end : goal.slice_bounds-lookup-end
slice_bounds-lookup-end c =
    sym (length-take-le _ _ (sample_there c.args.x.numbers c.args.x.lawful _ c.sample_size.ensures.0 _ c.room-sample.ensures))

pub slice_bounds-work-end : goal.slice_bounds-work-end
slice_bounds-work-end c =
    work_there c.args.x.numbers c.args.x.lawful _ c.sample_size.ensures.0 _ c.room-work.ensures

pub slice_bounds-lookup-end-2 : goal.slice_bounds-lookup-end-2
slice_bounds-lookup-end-2 c =
    sym (length-take-le _ _ (work_there c.args.x.numbers c.args.x.lawful _ c.sample_size.ensures.0 _ c.room-work.ensures))

pub returns-in_err-ledger : goal.returns-in_err-ledger
returns-in_err-ledger c =
    let a = c.args in
    let own = c.sample_size.ensures.0 in
    let p = err_from_is_err_and c.from_residual.result c.from_residual.ensures.1 in
    rw (p.1, p.2) (gives_refused a.x.numbers c.args.blocks.now a.amplitudes.now a.classes.now _ _
    (sample_length a.x.numbers a.x.lawful _ own _ c.room-sample.ensures)
    (work_length a.x.numbers a.x.lawful _ own _ c.room-work.ensures)
    _ (sym c.lookup.ensures.0 ∙ c.in_err-ledger.was))

pub returns : goal.returns
returns c =
    let a = c.args in
    let own = c.sample_size.ensures.0 in
    gives_accepted a.x.numbers c.args.blocks.now a.amplitudes.now a.classes.now _ _
    (sample_length a.x.numbers a.x.lawful _ own _ c.room-sample.ensures)
    (work_length a.x.numbers a.x.lawful _ own _ c.room-work.ensures)
    (4 * c.sample_size.result) _ c.lookup.new.sample (drop (4 * c.sample_size.result) c.room-sample.result) (ap (λ (m : ℕ). 4 * m) own)
    (sym c.lookup.ensures.0 ∙ c.in_ok-ledger.was) c.lookup.ensures.1
