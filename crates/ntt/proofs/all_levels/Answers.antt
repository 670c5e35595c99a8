-- `ntt::all_levels` meets its contract. Assumes nothing.
use Rattle.std.proofs.Common.{add-one, refl}
use Rattle.ntt.proofs.Levels.{down_start, down_step}
use Rattle.ntt.proofs.all_levels.Goals as goal

pub loop-d-init : goal.loop-d-init
loop-d-init c = (down_start _ _ _ _, c.requires.1)

pub loop-d-preserved : goal.loop-d-preserved
loop-d-preserved c =
    (rw (add-one c.loop-d.d) (down_step _ _ _ _ _ _ _ _ c.loop-d-test.true refl c.loop-d.invariant.0 c.level.ensures.0), c.level.ensures.1)
