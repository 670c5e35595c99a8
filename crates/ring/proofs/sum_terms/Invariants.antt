-- The loop's invariant: total is the sum of the first i terms. Assumes nothing.
use Rattle.std.proofs.Common.{◌≡◌, ◌+◌, ◌-◌, ◌*◌, ◌%◌, ◌^◌}
use Rattle.torus.specs.Sum.{sum}
use Rattle.torus.specs.Bytes.{words}
use Rattle.ring.specs.Polynomial.{coefficients}
use Rattle.ring.proofs.sum_terms.Given as goal

abbrev pub invariant-loop-i : goal.invariant-loop-i
invariant-loop-i l = l.total ≡ sum l.i (λ j. coefficients (words l.small) (l.from + j) * coefficients (words l.row) (l.top - j)) % 2 ^ 32
