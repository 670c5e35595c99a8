-- `row_terms::hold_terms` meets its contract. The loop's invariant: the sums hold the first j rows. Assumes nothing.
use Rattle.std.proofs.Common.{◌≡◌, length}
use Rattle.torus.specs.Bytes.{words}
use Rattle.ring.specs.Polynomial.{log}
use Rattle.held_sums.specs.Sums.{Held}
use Rattle.row_terms.specs.Rows.{digits_from, rows_from}
use Rattle.row_terms.proofs.hold_terms.Given as goal

abbrev pub invariant-loop-j : goal.invariant-loop-j
invariant-loop-j l =
    let t = l.batch.terms in
    (length l.room ≡ length l.fn.room) × (length l.sums ≡ length l.fn.sums)
    × Held l.prime (log t.n) t.n t.k l.j (digits_from t.n t.gadget.g t.gadget.l (words t.x.now) l.batch.from) (rows_from t.n t.k (words t.block.now) l.batch.from) l.sums
