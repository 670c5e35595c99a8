-- `gadget::centred_remainder` meets its contract. Assumes nothing.
use Rattle.std.proofs.Common.{◌*◌, ◌%◌, ◌^◌, ap, ap₂, ◌∙◌}
use Rattle.torus.specs.Word as W
use Rattle.gadget.specs.Decomposition as Decomposition
use Rattle.gadget.proofs.Shifts.{carry_shl}
use Rattle.gadget.proofs.centred_remainder.Goals as goal

pub returns : goal.returns
unfolding Decomposition.centred_remainder
returns c =
    let g = c.args.g in
    c.sub.ensures ∙ ap₂ W.sub c.low.ensures (ap (λ x. x * 2 ^ g % 2 ^ 32) c.carry.ensures ∙ carry_shl g c.args.q c.requires.1)
