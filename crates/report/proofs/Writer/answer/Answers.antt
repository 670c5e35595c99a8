-- `report::Writer::answer` meets its contract. Assumes nothing.
use Rattle.std.proofs.Common.{[], ◌∷◌, arith}
use Rattle.report.specs.Text.{ascii}
use Rattle.report.proofs.Lines.{length_line}
use Rattle.report.proofs.Pieces.{writes_both}
use Rattle.report.proofs.Writer.answer.Goals as goal

pub line-requires-2 : goal.line-requires-2
unfolding ascii
line-requires-2 c = omega (arith, length_line (ascii "answer") (c.number.result ∷ []))

pub returns : goal.returns
unfolding ascii
returns c = rw (← c.number.ensures, ← c.bound.ensures) (writes_both c.line.ensures c.line-2.ensures)
