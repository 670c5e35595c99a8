-- `residues::scale`'s loop: the elements before this one are scaled. Assumes nothing.
use Rattle.butterflies.specs.Butterflies.{Stored}
use Rattle.residues.specs.Residues.{Scaled}
use Rattle.residues.proofs.scale.Given as goal

abbrev pub invariant-loop-x : goal.invariant-loop-x
invariant-loop-x l = Stored (Scaled l.factor.p l.factor.w l.fn.a) l.x-index l.fn.a l.a
