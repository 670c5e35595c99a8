-- The loop's invariant: the first i words are digit j of the first i words of x. Assumes nothing.
use Rattle.std.proofs.Common.{◌≡◌, get_or}
use Rattle.torus.specs.Bytes.{words}
use Rattle.torus.proofs.Lists.{filled}
use Rattle.gadget.specs.Digits as D
use Rattle.gadget.proofs.Gadget.write_digits.Given as goal

abbrev pub invariant-loop-i : goal.invariant-loop-i
invariant-loop-i l = words l.out ≡ filled l.i (λ k. D.digit l.self.g l.self.l (get_or (words l.x) k 0) l.j) (words l.initial.out)
