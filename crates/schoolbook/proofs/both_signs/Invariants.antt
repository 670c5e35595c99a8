-- `schoolbook::both_signs`'s loop: the first i coefficients and their negatives stand in the table. Assumes nothing.
use Rattle.torus.specs.Bytes.{words}
use Rattle.schoolbook.specs.Rows.{BothSigns}
use Rattle.schoolbook.proofs.both_signs.Given as goal

abbrev pub invariant-loop-i : goal.invariant-loop-i
invariant-loop-i l = BothSigns l.n (words l.pair.row.now) l.i l.table
