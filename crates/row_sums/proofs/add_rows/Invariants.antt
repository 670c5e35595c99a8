-- `row_sums::add_rows` meets its contract. The loop's invariant: the terms of the rows before `from` are added. Assumes nothing.
use Rattle.std.proofs.Common.{◌-◌, ◌≡◌, suc, ◌*◌, ◌≤◌, length}
use Rattle.torus.specs.Bytes.{words}
use Rattle.row_sums.proofs.Batches.{Accumulated}
use Rattle.row_sums.proofs.add_rows.Given as goal

abbrev pub invariant-loop-from : goal.invariant-loop-from
invariant-loop-from l =
    let t = l.terms in
    (l.from ≤ suc t.k * t.gadget.l) × (length l.out ≡ length l.fn.out) × (length l.room ≡ length l.fn.room)
    × Accumulated t.n t.k t.gadget.g t.gadget.l (words t.block.now) (words t.x.now) l.from (words l.fn.out) (words l.out)

abbrev pub decreases-loop-from : goal.decreases-loop-from
decreases-loop-from l = suc l.terms.k * l.terms.gadget.l - l.from
