-- `rns::read_product_in` meets its contract. Assumes nothing.
use Rattle.torus.specs.Bytes.{words}
use Rattle.rns.proofs.Words.{one_product}
use Rattle.rns.proofs.read_product_in.Goals as goal

pub returns : goal.returns
returns c =
    (one_product c.args.prime _ _ (words c.args.small.now) (words c.args.row.now) c.args.sums.now c.add_row.new.sums _ c.requires.1 c.add_row.ensures c.read_sums.ensures.0, c.read_sums.ensures.1)
