-- `report::Writer::line` meets its contract. Assumes nothing.
use Rattle.std.proofs.Common.{[], arith}
use Rattle.report.specs.Text.{ascii}
use Rattle.report.specs.Report.{numbers, line}
use Rattle.report.proofs.Decimal.{length_decimal}
use Rattle.report.proofs.Lines.{write_line}
use Rattle.report.proofs.Writer.line.Goals as goal

pub put-requires-2 : goal.put-requires-2
unfolding ascii
put-requires-2 c = omega (arith, length_decimal c.args.n)

pub returns : goal.returns
unfolding line numbers ascii
returns c = write_line c.args.n [] c.put.ensures c.number.ensures c.put-2.ensures
