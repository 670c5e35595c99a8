-- `held_sums::add_column` meets its contract. Assumes nothing.
use Rattle.std.proofs.Common.{arith, ◌≤◌}
use Rattle.torus.specs.Bytes.{words}
use Rattle.ntt.proofs.Plans.{plain}
use Rattle.held_sums.proofs.Rows.{summed_more}
use Rattle.held_sums.proofs.add_column.Goals as goal

pub returns : goal.returns
returns c =
    let s = c.args in
    let h = c.requires in
    let plan = s.domain.now.plan in
    let t = plan.tables in
    let few : t.p ≤ 1073741824 = omega (arith, t.table.small) in
    summed_more _ _ _ t.table.pos (plain t.table plan.twiddles).rooted (words s.b.now) s.f.now c.transform.new.f s.sums.now _ h.2
    (omega (arith, h.2, h.4)) (omega (arith, h.2, h.3)) few h.1 c.transform.ensures.1 c.transform.ensures.0 c.accumulate.ensures
