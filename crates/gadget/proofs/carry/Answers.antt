-- `gadget::carry` meets its contract: the shift leaves the upper bit. Assumes nothing.
use Rattle.std.proofs.Common.{ap, ◌∙◌, ◌/◌}
use Rattle.gadget.specs.Digits as D
use Rattle.gadget.proofs.Shifts.{carry_shift}
use Rattle.gadget.proofs.carry.Goals as goal

pub returns : goal.returns
returns c = ap (λ x. x / D.half c.args.g) c.low.ensures ∙ carry_shift c.args.g c.args.q c.requires.0
