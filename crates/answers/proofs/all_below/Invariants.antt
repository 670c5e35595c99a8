-- The loop's invariant: all words are below the limit just where those from i on are. Assumes nothing.
use Rattle.std.proofs.Common.{◌≡◌, drop}
use Rattle.torus.specs.Bytes.{words}
use Rattle.answers.specs.Checks.{all_below}
use Rattle.answers.proofs.all_below.Given as goal

abbrev pub invariant-loop-i : goal.invariant-loop-i
invariant-loop-i l = all_below l.limit (words l.s) ≡ all_below l.limit (drop l.i (words l.s))
