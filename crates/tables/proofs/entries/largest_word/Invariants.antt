-- `tables::entries::largest_word` meets its contract. The loop's invariant: `most` is the largest of the first i words. Assumes nothing.
use Rattle.std.proofs.Common.{◌≡◌, ◌^◌, ◌<◌, get_or}
use Rattle.torus.specs.Bytes.{words}
use Rattle.trees.specs.LookedUp.{largest}
use Rattle.tables.proofs.entries.largest_word.Given as goal

abbrev pub invariant-loop-i : goal.invariant-loop-i
invariant-loop-i l = (l.most ≡ largest l.i (λ k. get_or (words l.s) k 0)) × (l.most < 2 ^ 32)
