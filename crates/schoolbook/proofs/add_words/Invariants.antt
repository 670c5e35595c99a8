-- `schoolbook::add_words`'s loop: the first k sums are made. Assumes nothing.
use Rattle.std.proofs.Common.{◌≡◌, get_or}
use Rattle.torus.specs.Word.{add}
use Rattle.torus.specs.Bytes.{words}
use Rattle.torus.proofs.Lists.{filled}
use Rattle.schoolbook.proofs.add_words.Given as goal

abbrev pub invariant-loop-k : goal.invariant-loop-k
invariant-loop-k l = words l.out ≡ filled l.k (λ i. add (get_or (words l.fn.out) i 0) (get_or l.a i 0)) (words l.fn.out)
