-- `levels::level_of_passes` meets its contract. Assumes nothing.
use Rattle.std.proofs.Common.{◌+◌}
use Rattle.butterflies.proofs.Passes.{way_step}
use Rattle.levels.proofs.level_of_passes.Goals as goal

pub loop-j-preserved : goal.loop-j-preserved
loop-j-preserved g c =
    let way = g.W.Way in
    let f = c.args.factors.now in
    let e = c.of_node.ensures in (
      way_step way.low way.high (λ i. f.m + way.turn f.m i) _ _ _ _ _ _ e.0 e.1 c.loop-j.invariant.0 c.pass.ensures.0,
      rw e.0 at c.pass.ensures.1,
    )
