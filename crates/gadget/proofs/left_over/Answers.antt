-- `gadget::left_over` meets its contract. Assumes nothing.
use Rattle.std.proofs.Common.{arith}
use Rattle.gadget.specs.Decomposition as Decomposition
use Rattle.gadget.proofs.Shifts.{left_over_fits}
use Rattle.gadget.proofs.left_over.Goals as goal

pub overflow_add-result : goal.overflow_add-result
unfolding Decomposition.left_over
overflow_add-result c = record { fits = omega (arith, left_over_fits c.args.g c.args.q c.requires.0 c.ranges.q.fits) }

pub returns : goal.returns
unfolding Decomposition.left_over
returns c = omega arith
