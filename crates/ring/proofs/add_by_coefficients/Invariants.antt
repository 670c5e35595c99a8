-- The loop's invariant: the first k coefficients are made. Assumes nothing.
use Rattle.std.proofs.Common.{◌≡◌, get_or}
use Rattle.torus.specs.Word.{add}
use Rattle.torus.specs.Bytes.{words}
use Rattle.torus.proofs.Lists.{filled}
use Rattle.ring.specs.Polynomial.{coefficients, product}
use Rattle.ring.proofs.add_by_coefficients.Given as goal

abbrev pub invariant-loop-k : goal.invariant-loop-k
invariant-loop-k l =
    words l.out ≡ filled l.k (λ i. add (get_or (words l.initial.out) i 0)
    (product l.n (coefficients (words l.small)) (coefficients (words l.row)) i)) (words l.initial.out)
