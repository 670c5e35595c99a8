-- `vectors::run_all_products` is safe and ends. Assumes nothing.
use Rattle.std.proofs.Common.{◌^◌, ◌≤◌}
use Rattle.vectors.proofs.run_all_products.Given as goal

abbrev pub invariant-loop : goal.invariant-loop
invariant-loop l = l.from ≤ 2 ^ 62
