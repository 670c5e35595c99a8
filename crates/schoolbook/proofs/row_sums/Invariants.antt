-- `schoolbook::row_sums`'s loop: sums has the sums of the rows from the i-th on. Assumes nothing.
use Rattle.std.proofs.Common.{◌-◌, ◌%◌, ◌^◌}
use Rattle.torus.specs.Bytes.{words}
use Rattle.ring.specs.Polynomial.{coefficients, Agree}
use Rattle.schoolbook.specs.Rows.{row_sum}
use Rattle.schoolbook.proofs.row_sums.Given as goal

abbrev pub invariant-loop-i : goal.invariant-loop-i
invariant-loop-i g l = Agree l.n (coefficients l.sums) (λ k. row_sum l.n (words l.pair.small.now) l.table (l.n - l.i) k % 2 ^ 32)
