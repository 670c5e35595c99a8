-- `exercises::class` makes an encoding: 16 is a number of classes. Assumes nothing.
use Rattle.std.proofs.Common.{refl}
use lib.Count.{ones}
use lib.Dec.{lit≤}
use Rattle.exercises.proofs.class.Goals as goal

pub invariant_of-decode : goal.invariant_of-decode
unfolding ones
invariant_of-decode c = record { class_number = record { power = refl; least = lit≤ tt; most = lit≤ tt } }
