-- `residues::accumulate`'s loop: at the first i places the products are added. Assumes nothing.
use Rattle.butterflies.specs.Butterflies.{Stored}
use Rattle.residues.specs.Residues.{Summed}
use Rattle.residues.proofs.accumulate.Given as goal

abbrev pub invariant-loop-i : goal.invariant-loop-i
invariant-loop-i l = Stored (Summed l.fn.sums l.f l.g) l.i l.fn.sums l.sums
