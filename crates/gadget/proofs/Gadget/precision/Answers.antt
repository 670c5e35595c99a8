-- `gadget::Gadget::precision` meets its contract. Assumes nothing.
use Rattle.std.proofs.Common.{arith}
use Rattle.gadget.proofs.Rounding.{precision_none, precision_some}
use Rattle.gadget.proofs.Gadget.precision.Goals as goal

pub returns-then-width-eq32 : goal.returns-then-width-eq32
returns-then-width-eq32 c = omega (arith, precision_none c.args.self.g c.args.self.l (omega arith))

pub returns-else-width-eq32 : goal.returns-else-width-eq32
returns-else-width-eq32 c = omega (arith, precision_some c.args.self.g c.args.self.l (omega arith))
