-- `residues::scale` meets its contract. The loop's invariant: the elements before this one are scaled. Assumes nothing.
use Rattle.std.proofs.Common.{arith}
use Rattle.butterflies.proofs.SameLaws.{same_trans}
use Rattle.butterflies.proofs.StoredLaws.{stored_more}
use Rattle.residues.proofs.scale.Goals as goal

pub loop-x-preserved : goal.loop-x-preserved
loop-x-preserved c =
    let at = c.loop-x in
    stored_more _ _ _ _ at.invariant (omega (arith, at.invariant.len)) _
    (c.reduced.ensures.0, same_trans c.reduced.ensures.1 (rw (at.invariant.rest at.x-index (omega arith)) at c.shoup.ensures.1))
