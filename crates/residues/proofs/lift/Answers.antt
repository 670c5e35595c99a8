-- `residues::lift` meets its contract. Assumes nothing.
use Rattle.std.proofs.Common.{arith}
use Rattle.residues.proofs.Words.{lift_low, lift_high}
use Rattle.residues.proofs.lift.Goals as goal

pub returns-then-w-lt2147483648 : goal.returns-then-w-lt2147483648
returns-then-w-lt2147483648 c = (omega arith, lift_low _ _ c.if-w-lt2147483648.true)

pub returns-else-w-lt2147483648 : goal.returns-else-w-lt2147483648
returns-else-w-lt2147483648 c = (omega arith, lift_high _ _ c.requires.0 c.requires.1 (omega arith) (omega arith))
