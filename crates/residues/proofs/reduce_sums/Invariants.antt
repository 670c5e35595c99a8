-- `residues::reduce_sums`'s loop: the first i sums are reduced. Assumes nothing.
use Rattle.butterflies.specs.Butterflies.{Stored, Reduced}
use Rattle.residues.proofs.reduce_sums.Given as goal

abbrev pub invariant-loop-i : goal.invariant-loop-i
invariant-loop-i l = Stored (Reduced l.p l.sums) l.i l.fn.a l.a
