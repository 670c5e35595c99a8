-- `row_terms::hold_terms` meets its contract. Assumes nothing.
use Rattle.std.proofs.Common.{arith, refl}
use Rattle.torus.specs.Bytes.{words}
use Rattle.held_sums.proofs.HeldLaws.{held_none}
use Rattle.row_terms.proofs.RowLaws.{held_more}
use Rattle.row_terms.proofs.hold_terms.Goals as goal

pub loop-j-init : goal.loop-j-init
loop-j-init c = (refl, refl, held_none c.args.prime _ _ _ _ _ c.args.sums.now c.requires.1)

pub loop-j-preserved : goal.loop-j-preserved
loop-j-preserved c =
    let b = c.args.batch.now in
    let t = b.terms in
    let at = c.loop-j in (
      omega arith,
      omega arith,
      held_more c.args.prime t.n t.k t.gadget.g t.gadget.l (words t.block.now) (words t.x.now) b.from at.j _ _ at.invariant.2 c.hold_term.ensures,
    )
