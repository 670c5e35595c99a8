-- `answers::greatest_magnitude` meets its contract. The loop's invariant: the greatest magnitude is the greater of `most` and
-- that of the words from i on. Assumes nothing.
use Rattle.std.proofs.Common.{◌<◌, ℕ, List, length, arith}
use Rattle.torus.specs.Bytes.{words}
use Rattle.torus.proofs.Parts.{length_words}
use Rattle.answers.proofs.Laws.{greatest_step, greatest_end}
use Rattle.answers.proofs.greatest_magnitude.Goals as goal

pub loop-i-preserved : goal.loop-i-preserved
loop-i-preserved c =
    let within : c.loop-i.i < length (words c.args.s.now) = omega (arith, length_words c.args.s.now) in
    grind (arith, greatest_step (words c.args.s.now) c.loop-i.i within)

pub returns : goal.returns
returns c =
    let ws : List ℕ = words c.args.s.now in
    omega (arith, c.loop-i.invariant, greatest_end ws c.loop-i.i (omega (arith, length_words c.args.s.now)))
