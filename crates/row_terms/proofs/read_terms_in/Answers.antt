-- `row_terms::read_terms_in` meets its contract. Assumes nothing.
use Rattle.torus.specs.Bytes.{words}
use Rattle.row_terms.proofs.RowLaws.{terms_told}
use Rattle.row_terms.proofs.read_terms_in.Goals as goal

pub returns : goal.returns
returns c =
    let b = c.args.batch.now in
    let t = b.terms in (
      terms_told c.args.prime t.n t.k t.gadget.g t.gadget.l (words t.block.now) (words t.x.now) b.from b.count c.hold_terms.new.sums _
          c.hold_terms.ensures c.read_sums.ensures.0,
      c.read_sums.ensures.1,
    )
