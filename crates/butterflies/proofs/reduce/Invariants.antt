-- `butterflies::reduce` meets its contract. The loop's invariant: the elements before x are reduced. Assumes nothing.
use Rattle.butterflies.specs.Butterflies.{Stored, Reduced}
use Rattle.butterflies.proofs.reduce.Given as goal

abbrev pub invariant-loop-x : goal.invariant-loop-x
invariant-loop-x l = Stored (Reduced l.p l.fn.a) l.x-index l.fn.a l.a
