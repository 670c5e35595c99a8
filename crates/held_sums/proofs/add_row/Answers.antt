-- `held_sums::add_row` meets its contract. Assumes nothing.
use Rattle.std.proofs.Common.{◌≡◌, arith, suc, ◌*◌, ◌^◌, ap, sym, subst, ◌∙◌}
use Rattle.torus.specs.Bytes.{words}
use Rattle.held_sums.specs.Sums.{OneMore}
use Rattle.held_sums.proofs.HeldLaws.{one_more}
use Rattle.held_sums.proofs.add_row.Goals as goal

pub returns : goal.returns
returns c =
    let s = c.args in
    let small = words s.small.now in
    let row = words s.row.now in
    let sums = c.add_row_in.new.sums in
    let plan = c.plan.ensures in
    let power : s.n ≡ 2 ^ c.plan.result.tables.n = c.exponent.ensures.1 ∙ ap (λ m. 2 ^ m) (sym plan.1) in
    subst (λ m. OneMore s.prime m s.n s.k small row s.sums.now sums) (plan.1 ∙ c.exponent.ensures.0)
    (one_more s.prime _ _ _ _ _ plan.0 plan.2 power small row s.sums.now sums (c.requires.0.size ∙ ap (λ m. suc s.k * m) power) (omega arith)
    c.add_row_in.ensures)
