-- `row_terms::row_at` meets its contract. Assumes nothing.
use Rattle.std.proofs.Common.{arith, suc, ◌+◌, ◌*◌, ◌-◌, ◌∙◌, drop, length-drop}
use Rattle.std.proofs.lemmas.List.{length-take-le}
use Rattle.torus.proofs.Parts.{words_lent}
use Rattle.row_terms.proofs.row_at.Goals as goal

pub returns : goal.returns
returns c =
    let s = c.args in
    let size = 4 * ((s.k + 1) * s.n) in
    let at = s.r * size in (
      words_lent (s.r * (suc s.k * s.n)) (suc s.k * s.n) at (at + size - at) s.block.now (omega arith) (omega arith),
      length-take-le (at + size - at) (drop at s.block.now) (omega (arith, length-drop at s.block.now)) ∙ omega arith,
    )
