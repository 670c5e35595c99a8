-- `held_sums::add_columns`'s loop: the products are added to the first c polynomials, and the others are as they were. Assumes nothing.
use Rattle.std.proofs.Common.{◌≡◌, suc, ◌^◌, length}
use Rattle.torus.specs.Sum.{chunk}
use Rattle.torus.specs.Bytes.{words}
use Rattle.held_sums.specs.Sums.{More}
use Rattle.held_sums.proofs.ColumnLaws.{Turned}
use Rattle.held_sums.proofs.add_columns.Given as goal

abbrev pub invariant-loop-c : goal.invariant-loop-c
invariant-loop-c l =
    let t = l.domain.plan.tables in
    (Turned (2 ^ t.n) (suc l.k) l.c (λ d. More t.p t.n t.roots.now l.f (chunk (2 ^ t.n) d (words l.row))) l.fn.sums l.sums)
    × (length l.g ≡ length l.fn.g)
