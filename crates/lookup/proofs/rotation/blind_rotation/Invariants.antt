-- The loop of `lookup::rotation::blind_rotation`. Its invariant: the first i steps are made. Assumes nothing.
use Rattle.std.proofs.Common.{◌≡◌, ◌+◌, length}
use Rattle.torus.specs.Bytes.{words}
use Rattle.trgsw.specs.Parameters.{parameters}
use Rattle.trees.specs.LookedUp as LookedUp
use Rattle.lookup.proofs.rotation.blind_rotation.Given as goal

abbrev pub invariant-loop-i : goal.invariant-loop-i
invariant-loop-i l =
    (length l.sample ≡ length l.initial.sample) × (length l.work ≡ length l.initial.work)
    × (words l.sample ≡ LookedUp.blind_rotation (parameters l.lent.numbers.scheme) (words l.lent.blocks.now) l.i (words l.initial.sample))
    × (l.raised.bound ≡ l.initial.raised.bound + LookedUp.charges (parameters l.lent.numbers.scheme) (words l.lent.amplitudes.now) l.i) × (l.raised.gates ≡ l.initial.raised.gates + l.i)
