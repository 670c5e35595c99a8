-- `sums_back::read_sums` meets its contract. Assumes nothing.
use Rattle.std.proofs.Common.{◌≡◌, suc, ◌*◌, ◌^◌, length, ap, sym, subst, ◌∙◌, arith}
use Rattle.held_sums.specs.Sums.{ReadBack}
use Rattle.held_sums.proofs.HeldLaws.{read_back, read_below}
use Rattle.sums_back.proofs.read_sums.Goals as goal

pub returns : goal.returns
returns c =
    let s = c.args in
    let plan = c.plan-plan.ensures in
    let power : s.n ≡ 2 ^ c.plan-plan.result.tables.n = c.exponent-e.ensures.1 ∙ ap (λ m. 2 ^ m) (sym plan.1) in
    let a = c.read_columns.new.a in
    let size : length a ≡ suc s.k * 2 ^ c.plan-plan.result.tables.n = omega (arith, c.requires.1 ∙ ap (λ m. suc s.k * m) power) in (
      subst (λ m. ReadBack s.prime m s.n s.k s.sums.now a) (plan.1 ∙ c.exponent-e.ensures.0)
          (read_back s.prime _ _ _ _ _ plan.0 plan.2 power s.sums.now s.a.now a c.read_columns.ensures),
      read_below s.prime _ _ _ _ _ plan.0 plan.2 power s.sums.now s.a.now a size c.read_columns.ensures,
    )
