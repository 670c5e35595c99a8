-- `held_sums::add_row_in` meets its contract. Assumes nothing.
use Rattle.torus.specs.Bytes.{words}
use Rattle.held_sums.proofs.Rows.{more_row}
use Rattle.held_sums.proofs.add_row_in.Goals as goal

pub returns : goal.returns
returns c = λ d l. more_row _ _ _ (words c.args.small.now) c.transform.new.f _ _ _ c.transform.ensures.0 (c.add_columns.ensures d l)
