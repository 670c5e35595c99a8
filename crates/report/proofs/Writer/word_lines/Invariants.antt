-- `report::Writer::word_lines` meets its contract. The loop's invariant: the lines of the first i words are written.
-- Assumes nothing.
use Rattle.torus.specs.Sum.{joined}
use Rattle.torus.specs.Bytes.{words}
use Rattle.report.specs.Report.{word_line}
use Rattle.report.specs.Inner.{Writes}
use Rattle.report.proofs.Writer.word_lines.Given as goal

abbrev pub invariant-loop-i : goal.invariant-loop-i
invariant-loop-i l = Writes l.fn.self (joined l.i (word_line l.name (words l.ws))) l.self
