-- `residues::lift_words`'s loop: the residues of the first i words are made. Assumes nothing.
use Rattle.butterflies.specs.Butterflies.{Stored}
use Rattle.torus.specs.Bytes.{words}
use Rattle.residues.specs.Residues.{Lifted}
use Rattle.residues.proofs.lift_words.Given as goal

abbrev pub invariant-loop-i : goal.invariant-loop-i
invariant-loop-i l = Stored (Lifted l.p (words l.s)) l.i l.fn.a l.a
