-- The loop's invariant: the first i differences are made. Assumes nothing.
use Rattle.std.proofs.Common.{◌≡◌, get_or}
use Rattle.torus.specs.Word.{sub}
use Rattle.torus.specs.Bytes.{words}
use Rattle.torus.proofs.Lists.{filled}
use Rattle.torus.proofs.sub_words.Given as goal

abbrev pub invariant-loop-i : goal.invariant-loop-i
invariant-loop-i l = words l.out ≡ filled l.i (λ k. sub (get_or (words l.initial.out) k 0) (get_or (words l.a) k 0)) (words l.initial.out)
