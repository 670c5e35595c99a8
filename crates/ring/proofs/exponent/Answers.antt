-- `ring::exponent` meets its contract. Assumes nothing.
use Rattle.std.proofs.Common.{refl}
use Rattle.ring.proofs.Degrees.{degree_power, exponent_few}
use Rattle.ring.proofs.exponent.Goals as goal

pub returns : goal.returns
returns c = (refl, degree_power _ c.requires, exponent_few _ c.requires)
