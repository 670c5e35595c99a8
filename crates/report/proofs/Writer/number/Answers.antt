-- `report::Writer::number` meets its contract. Assumes nothing.
use Rattle.report.specs.Text.{ascii}
use Rattle.report.proofs.Pieces.{writes_both}
use Rattle.report.proofs.Writer.number.Goals as goal

pub returns : goal.returns
unfolding ascii
returns c = writes_both c.put.ensures c.decimal.ensures
