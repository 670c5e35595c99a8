-- `report::Writer::report` meets its contract. Assumes nothing.
use Rattle.std.proofs.Common.{◌≡◌, ◌≤◌, [], ◌∷◌, ap, arith}
use Rattle.answers.specs.Answers.{refusal_number, number, gates}
use Rattle.answers.proofs.Laws.{number_some}
use Rattle.report.specs.Text.{ascii}
use Rattle.report.proofs.Pieces.{writes_both}
use Rattle.report.proofs.Lines.{length_line, length_answer, report_refused, report_accepted}
use Rattle.report.proofs.Writer.report.Goals as goal

pub returns-in-Err : goal.returns-in-Err
returns-in-Err c =
    let some : 1 ≤ refusal_number c.in-Err.field-0 = number_some c.in-Err.field-0 in
    let e : number c.args.answer ≡ refusal_number c.in-Err.field-0 = ap number c.in-Err.is in
    rw (report_refused c.args.answer _ _ (λ none. omega arith)) c.answer.ensures

pub line-requires : goal.line-requires
line-requires c = omega (arith, c.answer.ensures.put, c.answer.ensures.room, length_answer c.args.answer)

pub sample-requires : goal.sample-requires
unfolding ascii
sample-requires c = (
  c.requires.0,
  omega (
    arith,
    c.answer.ensures.put,
    c.answer.ensures.room,
    c.line.ensures.put,
    c.line.ensures.room,
    length_answer c.args.answer,
    length_line (ascii "gates") (c.in-Ok.ledger.gates ∷ []),
  ),
)

pub returns : goal.returns
unfolding ascii
returns c =
    let own : gates c.args.answer ≡ c.in-Ok.ledger.gates = ap gates c.in-Ok.is in
    rw (report_accepted c.args.answer _ _ (ap number c.in-Ok.is), own) (writes_both c.answer.ensures (writes_both c.line.ensures c.sample.ensures))
