-- `schoolbook::add_scaled`'s loop: the first k sums are made. Assumes nothing.
use Rattle.std.proofs.Common.{◌≡◌, get_or}
use Rattle.torus.specs.Word.{add, mul}
use Rattle.torus.proofs.Lists.{filled}
use Rattle.schoolbook.proofs.add_scaled.Given as goal

abbrev pub invariant-loop-k : goal.invariant-loop-k
invariant-loop-k g l = l.acc ≡ filled l.k (λ i. add (get_or l.fn.acc i 0) (mul l.d (get_or l.row i 0))) l.fn.acc
