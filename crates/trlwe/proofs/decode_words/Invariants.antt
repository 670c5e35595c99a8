-- `trlwe::decode_words` meets its contract. The loop's invariant: the first i words are the classes of the first i phases.
-- Assumes nothing.
use Rattle.std.proofs.Common.{◌≡◌, ◌+◌, get_or}
use Rattle.torus.specs.Word as W
use Rattle.torus.specs.Bytes.{words}
use Rattle.torus.proofs.Lists.{filled}
use Rattle.trlwe.specs.Classes as Classes
use Rattle.trlwe.proofs.decode_words.Given as goal

abbrev pub invariant-loop-i : goal.invariant-loop-i
invariant-loop-i l =
    words l.classes
    ≡ filled l.i (λ j. Classes.decode l.encoding.m (W.sub (get_or (words l.sample) (l.from + j) 0) (get_or (words l.room) j 0))) (words l.fn.classes)
