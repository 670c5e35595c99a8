-- The loop's invariant: the first i words are those of a. Assumes nothing.
use Rattle.std.proofs.Common.{◌≡◌, get_or}
use Rattle.torus.specs.Bytes.{words}
use Rattle.torus.proofs.Lists.{filled}
use Rattle.torus.proofs.copy_words.Given as goal

abbrev pub invariant-loop-i : goal.invariant-loop-i
invariant-loop-i l = words l.out ≡ filled l.i (λ k. get_or (words l.a) k 0) (words l.initial.out)
