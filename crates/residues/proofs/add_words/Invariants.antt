-- `residues::add_words`'s loop: to the first i words those are added of which x and y have the residues. Assumes nothing.
use Rattle.std.proofs.Common.{◌≡◌, length}
use Rattle.butterflies.specs.Butterflies.{Stored}
use Rattle.torus.specs.Bytes.{words}
use Rattle.residues.specs.Residues.{Added}
use Rattle.residues.proofs.add_words.Given as goal

abbrev pub invariant-loop-i : goal.invariant-loop-i
invariant-loop-i l = (length l.out ≡ length l.fn.out) × Stored (Added l.x l.y (words l.fn.out)) l.i (words l.fn.out) (words l.out)
