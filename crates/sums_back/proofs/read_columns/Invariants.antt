-- `sums_back::read_columns`'s loop: the first c polynomials are read, and the others are as they were. Assumes nothing.
use Rattle.std.proofs.Common.{suc, ◌^◌}
use Rattle.torus.specs.Sum.{chunk}
use Rattle.held_sums.specs.Sums.{Back}
use Rattle.held_sums.proofs.ColumnLaws.{Turned}
use Rattle.sums_back.proofs.read_columns.Given as goal

abbrev pub invariant-loop-c : goal.invariant-loop-c
invariant-loop-c l =
    let t = l.plan.tables in
    Turned (2 ^ t.n) (suc l.k) l.c (λ d x. Back t.p t.n t.roots.now (chunk (2 ^ t.n) d l.sums)) l.fn.a l.a
