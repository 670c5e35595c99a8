-- `row_terms::write_row_digits` meets its contract. Assumes nothing.
use Rattle.std.proofs.Common.{arith, ◌+◌, ◌*◌, ◌-◌, ◌/◌, ◌∙◌, ap, take, drop}
use Rattle.torus.specs.Bytes.{words}
use Rattle.gadget.specs.Digits.{digit_polynomial}
use Rattle.row_terms.proofs.RowLaws.{row_digits_at}
use Rattle.row_terms.proofs.write_row_digits.Goals as goal

pub returns : goal.returns
returns c =
    let s = c.args in
    let from = s.r / s.gadget.l * (4 * s.n) in
    let size = from + 4 * s.n - from in
    let lent = words (take size (drop from s.x.now)) in
    c.write_digits.ensures.polynomial ∙ ap (λ m. digit_polynomial m s.gadget.g s.gadget.l c.place.result lent) (omega arith)
    ∙ row_digits_at s.n s.gadget.g s.gadget.l _ s.r from size s.x.now (omega arith) (omega arith) c.place.ensures.0
