-- `row_terms::zeros` meets its contract. The loop's invariant: the first i words are 0. Assumes nothing.
use Rattle.torus.specs.Bytes.{words}
use Rattle.ring.specs.Polynomial.{Agree, coefficients}
use Rattle.row_terms.proofs.zeros.Given as goal

abbrev pub invariant-loop-i : goal.invariant-loop-i
invariant-loop-i l = Agree l.i (coefficients (words l.s)) (λ j. 0)
