-- `report::Writer::word_line` meets its contract. Assumes nothing.
use Rattle.std.proofs.Common.{[], ◌∷◌, arith}
use Rattle.report.specs.Text.{ascii}
use Rattle.report.proofs.Decimal.{length_decimal}
use Rattle.report.proofs.Lines.{write_line}
use Rattle.report.proofs.Writer.word_line.Goals as goal

pub line-requires : goal.line-requires
unfolding ascii
line-requires c = omega (arith, length_decimal c.args.i)

pub returns : goal.returns
returns c = write_line c.args.i (c.args.w ∷ []) c.put.ensures c.number.ensures c.line.ensures
