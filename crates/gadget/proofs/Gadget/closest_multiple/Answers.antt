-- `gadget::Gadget::closest_multiple` meets its contract. Assumes nothing.
use Rattle.std.proofs.Common.{◌≡◌, ◌*◌, ◌/◌, ◌%◌, ◌^◌, ap, ◌∙◌, arith}
use Rattle.torus.specs.Word as W
use Rattle.gadget.specs.Digits as D
use Rattle.gadget.proofs.Shifts.{closest_shifts}
use Rattle.gadget.proofs.Gadget.closest_multiple.Goals as goal

pub returns : goal.returns
returns c =
    let s = c.args.self in
    let S = D.step s.g s.l in
    let added : c.add.result ≡ W.add c.args.w (S / 2) = c.add.ensures ∙ ap (W.add c.args.w) (omega arith) in
    ap (λ t. t / S * S % 2 ^ 32) added ∙ closest_shifts s.g s.l c.args.w s.lawful.room
