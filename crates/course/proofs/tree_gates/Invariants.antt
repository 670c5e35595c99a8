-- Exercise 4.6: `course::tree_gates` meets its contract. The loop's invariant: gates and one more are 2^level. Assumes nothing.
use Rattle.std.proofs.Common.{◌≡◌, ◌+◌, ◌^◌}
use Rattle.course.proofs.tree_gates.Given as goal

abbrev pub invariant-loop-level : goal.invariant-loop-level
invariant-loop-level l = l.gates + 1 ≡ 2 ^ l._level
