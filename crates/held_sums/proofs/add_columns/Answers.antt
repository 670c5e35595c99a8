-- `held_sums::add_columns` meets its contract. The loop's invariant: the products are added to the first c polynomials, and the others
-- are as they were. Assumes nothing.
use Rattle.std.proofs.Common.{◌≡◌, suc, ◌+◌, ◌*◌, ◌-◌, ◌^◌, ◌<◌, length, take, drop, ap, subst, arith}
use Rattle.torus.specs.Sum.{chunk}
use Rattle.torus.specs.Bytes.{words}
use Rattle.torus.proofs.Parts.{words_lent}
use Rattle.held_sums.specs.Sums.{More}
use Rattle.held_sums.proofs.ColumnLaws.{turned_more, lent_length}
use Rattle.held_sums.proofs.add_columns.Goals as goal

pub loop-c-preserved : goal.loop-c-preserved
loop-c-preserved c =
    let s = c.args in
    let t = s.domain.now.plan.tables in
    let at = c.loop-c in
    let lt : at.c < suc s.k = omega arith in
    let size = length s.f.now in
    let same : size ≡ 2 ^ t.n = c.requires.4 in
    let p = at.c * size in
    let q = p + size - p in
    let ep : p ≡ at.c * 2 ^ t.n = ap (λ x. at.c * x) same in
    let eq : q ≡ 2 ^ t.n = omega (arith, same) in
    let kept : length (take q (drop p at.sums)) ≡ 2 ^ t.n = lent_length _ _ _ p q _ _ _ at.invariant.0 lt ep eq in
    let from = 4 * p in
    let row : words (take (from + 4 * size - from) (drop from s.row.now)) ≡ chunk (2 ^ t.n) at.c (words s.row.now) =
    words_lent (at.c * 2 ^ t.n) (2 ^ t.n) from (from + 4 * size - from) s.row.now (omega arith) (omega (arith, same)) in
    let made = c.add_column in (
      turned_more _ _ _ p q _ _ _ at.invariant.0 lt ep eq made.new.sums (omega arith)
          (subst (λ b. More t.p t.n t.roots.now s.f.now b (take q (drop p at.sums)) made.new.sums) row made.ensures),
      omega arith,
    )
