-- `trlwe::rotate` meets its contract. The loop's invariant: the first c polynomials are rotated. Assumes nothing.
use Rattle.std.proofs.Common.{ℕ, List}
use Rattle.torus.specs.Sum.{tabulate}
use Rattle.torus.specs.Bytes.{words}
use Rattle.torus.proofs.Joined.{Written}
use Rattle.ring.specs.Polynomial.{rotated}
use Rattle.trlwe.specs.Sample.{part}
use Rattle.trlwe.proofs.rotate.Given as goal

-- Polynomial c of the result.
abbrev pub made : (n r : ℕ) (sample : List ℕ) (c : ℕ) → List ℕ
made n r sample c = tabulate n (rotated n r (part n (words sample) c))

abbrev pub invariant-loop-c : goal.invariant-loop-c
invariant-loop-c l = Written l.n l.c (made l.n l.r l.sample) (words l.fn.out) (words l.out)
