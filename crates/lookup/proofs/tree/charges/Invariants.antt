-- The loop of `lookup::tree::charges`. Its invariant: the charges of the first i selectors are added up. Assumes nothing.
use Rattle.std.proofs.Common.{◌≡◌}
use Rattle.torus.specs.Bytes.{words}
use Rattle.trgsw.specs.Parameters.{parameters}
use Rattle.trees.specs.LookedUp as LookedUp
use Rattle.lookup.proofs.tree.charges.Given as goal

abbrev pub invariant-loop-i : goal.invariant-loop-i
invariant-loop-i l = l.sum ≡ LookedUp.charges (parameters l.lent.numbers.scheme) (words l.lent.amplitudes.now) l.i
