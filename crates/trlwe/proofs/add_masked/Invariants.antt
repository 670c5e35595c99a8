-- `trlwe::add_masked` meets its contract. The loop's invariant: a·K over the first c masks is added. Assumes nothing.
use Rattle.torus.specs.Bytes.{words}
use Rattle.trlwe.proofs.Masks.{Added}
use Rattle.trlwe.proofs.add_masked.Given as goal

abbrev pub invariant-loop-c : goal.invariant-loop-c
invariant-loop-c l = Added l.key.n (words l.key.polynomials.now) (words l.a) l.c (words l.fn.out) (words l.out)
