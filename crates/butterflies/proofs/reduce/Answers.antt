-- `butterflies::reduce` meets its contract. Assumes nothing.
use Rattle.std.proofs.Common.{arith}
use Rattle.butterflies.proofs.SameLaws.{same_trans}
use Rattle.butterflies.proofs.StoredLaws.{stored_more}
use Rattle.butterflies.proofs.reduce.Goals as goal

pub loop-x-preserved : goal.loop-x-preserved
loop-x-preserved c =
    let h = c.loop-x.invariant in
    stored_more _ _ _ _ h (omega (arith, h.len)) _
    (c.reduced.ensures.0, same_trans c.reduced.ensures.1 (rw (h.rest c.loop-x.x-index (omega arith)) at c.fold.ensures.1))
