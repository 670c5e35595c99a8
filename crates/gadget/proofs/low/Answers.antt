-- `gadget::low` meets its contract: the mask is a remainder. Assumes nothing.
use Rattle.std.proofs.Common.{◌-◌, ap}
use Rattle.gadget.proofs.Shifts.{mask_rem}
use Rattle.gadget.proofs.low.Goals as goal

pub returns : goal.returns
returns c = mask_rem c.args.q c.args.g _ (ap (λ x. x - 1) c.pow2.ensures)
