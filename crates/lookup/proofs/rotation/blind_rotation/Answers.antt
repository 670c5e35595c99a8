-- `lookup::rotation::blind_rotation` meets its contract. The loop's invariant: the first i steps are made. Assumes nothing.
use Rattle.std.proofs.Common.{ℕ, suc, ◌+◌, ◌<◌, refl, ap, sym, ◌∙◌, arith, suc-mul, le_of_lt, pow_mono}
use Rattle.torus.specs.Bytes.{words}
use Rattle.torus.proofs.Joined.{chunk_inside}
use Rattle.trgsw.specs.Parameters.{block_size, parameters}
use Rattle.trees.specs.LookedUp as LookedUp
use Rattle.lookup.proofs.Charges.{charges_none, charges_more, charges_up, fewer}
use Rattle.trees.proofs.BlindRotation.{blind_rotation_none, blind_rotation_more}
use Rattle.lookup.proofs.rotation.blind_rotation.Goals as goal

pub loop-i-init : goal.loop-i-init
loop-i-init c =
    let a = c.args in
    let p = parameters a.lent.now.numbers.scheme in (
      refl,
      refl,
      sym (blind_rotation_none p (words a.lent.now.blocks.now) (words a.sample.now)),
      omega (arith, charges_none p (words a.lent.now.amplitudes.now)),
      omega arith,
    )

pub step-raised-requires : goal.step-raised-requires
step-raised-requires c =
    let a = c.args in
    let p = parameters a.lent.now.numbers.scheme in
    let at = c.loop-i in
    let l : at.i < a.r = omega arith in
    let B : ℕ = block_size p in (
      fewer a.lent.now.numbers a.r (suc at.i) a.lent.now.amplitudes.now l c.requires.0,
      omega (arith, c.requires.1, pow_mono {i = at.i} {j = a.r} (le_of_lt l)),
      omega (arith, at.invariant.0, c.requires.2),
      omega (arith, at.invariant.0, at.invariant.1, c.requires.3),
      omega (arith, chunk_inside at.i a.r B l, suc-mul at.i B, c.requires.4),
      omega (arith, at.invariant.3, charges_up p (words a.lent.now.amplitudes.now) a.r at.i l, c.requires.5),
      omega (arith, at.invariant.4, c.requires.6),
    )

pub loop-i-preserved : goal.loop-i-preserved
loop-i-preserved c =
    let a = c.args in
    let p = parameters a.lent.now.numbers.scheme in
    let at = c.loop-i in (
      omega (arith, c.step-raised.auto.sample, at.invariant.0),
      omega (arith, c.step-raised.auto.work, at.invariant.1),
      c.step-raised.ensures.0 ∙ ap (LookedUp.rotation_step p (words a.lent.now.blocks.now) at.i) at.invariant.2
          ∙ sym (blind_rotation_more p (words a.lent.now.blocks.now) at.i (words a.sample.now)),
      omega (arith, c.step-raised.ensures.1, at.invariant.3, charges_more p (words a.lent.now.amplitudes.now) (at.i + 1) at.i refl),
      omega (arith, c.step-raised.ensures.2, at.invariant.4),
    )
