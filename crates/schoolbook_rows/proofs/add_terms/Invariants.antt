-- `schoolbook_rows::add_terms` meets its contract. The loop's invariant: the terms of the first r rows are added. Assumes nothing.
use Rattle.std.proofs.Common.{◌≡◌, length}
use Rattle.torus.specs.Bytes.{words}
use Rattle.row_sums.proofs.Batches.{Accumulated}
use Rattle.schoolbook_rows.proofs.add_terms.Given as goal

abbrev pub invariant-loop-r : goal.invariant-loop-r
invariant-loop-r l =
    let t = l.terms in
    (length l.out ≡ length l.fn.out) × (length l.digits ≡ length l.fn.digits) × (length l.room ≡ length l.fn.room)
    × Accumulated t.n t.k t.gadget.g t.gadget.l (words t.block.now) (words t.x.now) l.r (words l.fn.out) (words l.out)
