-- The butterfly of Cooley and Tukey meets its contract. Assumes nothing.
use Rattle.std.proofs.Common.{◌<◌, arith}
use Rattle.butterflies.proofs.Passes.{both_stored, both_below, down_low_is, down_high_is, down_below}
use Rattle.butterflies.proofs.CooleyTukeyWay.butterfly.Goals as goal

pub returns : goal.returns
returns c =
    let f = c.args.factor in
    let x = c.fold-x.ensures in
    let y = c.shoup-y.ensures in
    let pos : 0 < f.p = omega (arith, f.ready.low) in
    let b = down_below _ _ _ pos x.0 y.0 in (
      both_stored _ _ _ _ _ _ _ _ c.requires.0 c.requires.1 (down_low_is f.p f.w _ _ _ _ x.1 y.1) (down_high_is f.p f.w _ _ _ _ pos y.0 x.1 y.1),
      both_below _ _ _ _ c.args.a.now _ c.requires.0 c.requires.1 c.requires.2 b.0 b.1,
    )
