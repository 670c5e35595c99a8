-- The loop's invariant: q is what is left over of the closest multiple when the digits behind place i have been taken, and out has these.
-- Assumes nothing.
use Rattle.std.proofs.Common.{◌≡◌, ◌-◌, length}
use Rattle.gadget.specs.Decomposition as Decomposition
use Rattle.gadget.proofs.Lists.{Laid}
use Rattle.gadget.proofs.Gadget.decompose.Given as goal

abbrev pub invariant-loop-i : goal.invariant-loop-i
invariant-loop-i l =
    let g = l.self.g in
    let L = l.self.l in
    (length l.out ≡ 32)
    × (l.q ≡ Decomposition.left_after g (Decomposition.step_count g L l.w) (L - l.i))
    × Laid L (Decomposition.digit g L l.w) l.i l.out
