-- `sums_back::read_columns` meets its contract. The loop's invariant: the first c polynomials are read, and the others are as they were.
-- Assumes nothing.
use Rattle.std.proofs.Common.{◌≡◌, suc, ◌+◌, ◌*◌, ◌-◌, ◌^◌, ◌<◌, length, take, drop, ap, ap₂, subst, arith}
use Rattle.torus.specs.Sum.{chunk}
use Rattle.held_sums.specs.Sums.{Back}
use Rattle.held_sums.proofs.ColumnLaws.{turned_more, lent_length}
use Rattle.sums_back.proofs.read_columns.Goals as goal

pub loop-c-preserved : goal.loop-c-preserved
loop-c-preserved c =
    let s = c.args in
    let t = s.plan.now.tables in
    let at = c.loop-c in
    let lt : at.c < suc s.k = omega arith in
    let p = at.c * s.size in
    let q = p + s.size - p in
    let ep : p ≡ at.c * 2 ^ t.n = ap (λ x. at.c * x) c.requires.2 in
    let eq : q ≡ 2 ^ t.n = omega (arith, c.requires.2) in
    let kept : length (take q (drop p at.a)) ≡ 2 ^ t.n = lent_length _ _ _ p q _ _ _ at.invariant lt ep eq in
    let part : take q (drop p s.sums.now) ≡ chunk (2 ^ t.n) at.c s.sums.now = ap₂ (λ x y. take x (drop y s.sums.now)) eq ep in
    let made = c.read_column in
    turned_more _ _ _ p q _ _ _ at.invariant lt ep eq made.new.a (omega arith)
    (subst (λ b. Back t.p t.n t.roots.now b made.new.a) part made.ensures)
