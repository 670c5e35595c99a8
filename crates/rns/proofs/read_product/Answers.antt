-- `rns::read_product` meets its contract. Assumes nothing.
use Rattle.std.proofs.Common.{arith, ◌-◌}
use Rattle.held_sums.proofs.HeldLaws.{zeros_front}
use Rattle.rns.proofs.read_product.Goals as goal

pub read_product_in-requires : goal.read_product_in-requires
read_product_in-requires c =
    let h = c.requires in
    (record { degree = h.0; size = omega (arith, h.0.most) }, zeros_front (c.args.n - 0) 1024, h.1, h.2, h.3)
