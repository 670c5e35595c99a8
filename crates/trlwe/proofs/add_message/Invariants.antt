-- `trlwe::add_message` meets its contract. The loop's invariant: the encodings of the first i classes are added, and what they are
-- added to is words of 32 bits. Assumes nothing.
use Rattle.std.proofs.Common.{ℕ, ◌^◌, ◌≡◌, ◌<◌, get_or}
use Rattle.torus.specs.Word as W
use Rattle.torus.specs.Bytes.{words}
use Rattle.torus.proofs.Lists.{filled}
use Rattle.trlwe.specs.Classes as Classes
use Rattle.trlwe.proofs.add_message.Given as goal

abbrev pub invariant-loop-i : goal.invariant-loop-i
invariant-loop-i l =
    (words l.body
    ≡ filled l.i (λ j. W.add (get_or (words l.fn.body) j 0) (Classes.encode l.message.encoding.m (get_or (words l.message.classes.now) j 0))) (words l.fn.body))
    × ((j : ℕ) → get_or (words l.fn.body) j 0 < 2 ^ 32)
