-- `ntt::backward` meets its contract. Assumes nothing.
use Rattle.std.proofs.Common.{◌≡◌, ◌-◌, suc, arith, refl}
use Rattle.ntt.proofs.Levels.{up_start, up_step}
use Rattle.ntt.proofs.Plans.{plain}
use Rattle.ntt.proofs.backward.Goals as goal

pub loop-d-init : goal.loop-d-init
loop-d-init c = (up_start _ _ _ _, c.requires.1)

pub loop-d-preserved : goal.loop-d-preserved
loop-d-preserved c =
    let f = c.args.plan.now in
    let e : c.loop-d.d ≡ suc (c.loop-d.d - 1) = omega arith in (
      up_step _ _ _ _ (plain f.tables.table f.twiddles) (c.loop-d.d - 1) (omega arith) _ _ _ _ refl (rw e at c.loop-d.invariant.0) c.level.ensures.0,
      c.level.ensures.1,
    )
