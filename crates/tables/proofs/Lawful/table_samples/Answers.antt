-- `tables::Lawful::table_samples` meets its contract. Assumes nothing.
use Rattle.std.proofs.Common.{arith}
use Rattle.tables.proofs.Packings.{rotations_le}
use Rattle.tables.proofs.Lawful.table_samples.Goals as goal

pub overflow_sub-self : goal.overflow_sub-self
overflow_sub-self c = omega (arith, c.rotations.ensures, rotations_le c.args.self.numbers)
