-- The loop's invariant: the greatest magnitude is the greater of `most` and that of the words from i on. Assumes nothing.
use Rattle.std.proofs.Common.{◌≡◌, max, drop}
use Rattle.torus.specs.Bytes.{words}
use Rattle.answers.specs.Answers.{greatest_magnitude}
use Rattle.answers.proofs.greatest_magnitude.Given as goal

abbrev pub invariant-loop-i : goal.invariant-loop-i
invariant-loop-i l = max l.most (greatest_magnitude (drop l.i (words l.s))) ≡ greatest_magnitude (words l.s)
