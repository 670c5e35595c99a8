-- `trgsw::Bounded::charge` meets its contract. Assumes nothing.
use Rattle.std.proofs.Common.{arith}
use Rattle.trgsw.specs.External as External
use Rattle.trgsw.proofs.Charges.{digits_le, noise_le, charge_le}
use Rattle.trgsw.proofs.Bounded.charge.Goals as goal

pub overflow_mul-result-2 : goal.overflow_mul-result-2
overflow_mul-result-2 c = let p = c.args.self in rw (c.row_count.ensures.0, c.half.ensures) (omega (arith, digits_le p.set p.sized))

pub overflow_mul-result-3 : goal.overflow_mul-result-3
overflow_mul-result-3 c = let p = c.args.self in rw (c.row_count.ensures.0, c.half.ensures) (omega (arith, noise_le p.set p.sized c.args.a c.requires))

pub overflow_add-result-2 : goal.overflow_add-result-2
unfolding External.charge
overflow_add-result-2 c =
    let p = c.args.self in
    rw (c.row_count.ensures.0, c.half.ensures, c.precision.ensures) (omega (arith, charge_le p.set p.sized c.args.a c.requires))

pub returns : goal.returns
unfolding External.charge
returns c = rw (c.row_count.ensures.0, c.half.ensures, c.precision.ensures)
