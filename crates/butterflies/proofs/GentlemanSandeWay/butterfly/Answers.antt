-- The butterfly of Gentleman and Sande meets its contract. Assumes nothing.
use Rattle.std.proofs.Common.{◌<◌, arith}
use Rattle.butterflies.proofs.Passes.{both_stored, both_below, up_low_is, up_high_is}
use Rattle.butterflies.proofs.GentlemanSandeWay.butterfly.Goals as goal

pub returns : goal.returns
returns c =
    let f = c.args.factor in
    let x = c.fold.ensures in
    let y = c.shoup.ensures in
    let pos : 0 < f.p = omega (arith, f.ready.low) in (
      both_stored _ _ _ _ _ _ _ _ c.requires.0 c.requires.1 (up_low_is f.p _ _ _ x.1) (up_high_is f.p f.w _ _ _ pos (c.requires.2 c.args.i (omega arith)) y.1),
      both_below _ _ _ _ c.args.a.now _ c.requires.0 c.requires.1 c.requires.2 x.0 y.0,
    )
