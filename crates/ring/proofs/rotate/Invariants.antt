-- The loop's invariant: the first t words are those of the rotation. Assumes nothing.
use Rattle.std.proofs.Common.{◌≡◌, ◌/◌, length}
use Rattle.torus.specs.Bytes.{words}
use Rattle.torus.proofs.Lists.{filled}
use Rattle.ring.specs.Polynomial.{coefficients, rotated}
use Rattle.ring.proofs.rotate.Given as goal

abbrev pub invariant-loop-t : goal.invariant-loop-t
invariant-loop-t l = words l.out ≡ filled l.t (rotated (length l.p / 4) l.r (coefficients (words l.p))) (words l.initial.out)
