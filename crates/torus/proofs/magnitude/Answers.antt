-- `torus::magnitude` meets its contract. Assumes nothing.
use Rattle.std.proofs.Common.{sym, arith}
use Rattle.torus.proofs.Magnitudes.{magnitude_low, magnitude_high}
use Rattle.torus.proofs.magnitude.Goals as goal

pub returns-then-w-lt2147483648 : goal.returns-then-w-lt2147483648
returns-then-w-lt2147483648 c = sym (magnitude_low c.args.w (omega arith))

pub returns-else-w-lt2147483648 : goal.returns-else-w-lt2147483648
returns-else-w-lt2147483648 c = let high = magnitude_high c.args.w (omega arith) in omega arith
