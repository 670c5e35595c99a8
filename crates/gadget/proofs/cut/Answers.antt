-- `gadget::cut` meets its contract. Assumes nothing.
use Rattle.std.proofs.Common.{arith}
use Rattle.gadget.proofs.cut.Goals as goal

pub returns : goal.returns
returns c = omega arith
