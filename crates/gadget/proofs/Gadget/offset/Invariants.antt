-- The loop's invariant: o is the offset as far as place i. Assumes nothing.
use Rattle.std.proofs.Common.{◌≡◌}
use Rattle.gadget.proofs.Shifts.{partial}
use Rattle.gadget.proofs.Gadget.offset.Given as goal

abbrev pub invariant-loop-i : goal.invariant-loop-i
invariant-loop-i l = l.o ≡ partial l.self.g l.self.l l.i
