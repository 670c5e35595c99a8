-- `held_sums::transform` meets its contract. Assumes nothing.
use Rattle.torus.specs.Bytes.{words}
use Rattle.ntt.proofs.Plans.{plain}
use Rattle.held_sums.proofs.Rows.{lifted_leaves}
use Rattle.held_sums.proofs.transform.Goals as goal

pub returns : goal.returns
returns c =
    let plan = c.args.domain.now.plan in
    let t = plan.tables in (
      lifted_leaves _ _ _ t.table.pos (plain t.table plan.twiddles).rooted (words c.args.s.now) _ _ _ c.requires.0 c.lift_words.ensures c.forward.ensures.0,
      c.forward.ensures.1,
    )
