-- `gates::external::external_product_answer` meets its contract: of amplitudes that pass their checks the sum fits. Assumes nothing.
use Rattle.std.proofs.Common.{arith, sym}
use Rattle.answers.proofs.Laws.{amplitude_held}
use Rattle.trgsw.proofs.Charges.{charge_le}
use Rattle.gates.proofs.external.external_product_answer.Goals as goal

pub charge-requires : goal.charge-requires
charge-requires c = amplitude_held _ (sym c.in_ok-amplitude.ensures)

pub overflow_add-bound : goal.overflow_add-bound
overflow_add-bound c =
    let of_block = amplitude_held _ (sym c.in_ok-amplitude.ensures) in
    let of_sample = amplitude_held _ (sym c.in_ok-amplitude-2.ensures) in
    omega (arith, charge_le _ c.in_ok-p.p.sized _ of_block, of_block, of_sample, c.charge.ensures)
