-- `twiddles::plan` meets its contract. Assumes nothing.
use Rattle.std.proofs.lemmas.Grind.{merely}
use Rattle.twiddles.proofs.TableTest.{handed}
use Rattle.twiddles.proofs.plan.Goals as goal

pub invariant_of-result : goal.invariant_of-result
invariant_of-result c =
    let l = c.lists-lists.ensures in
    record { table = (handed c.args.prime c.modulus.ensures l.0 l.1 c.requires).0.table }

pub invariant_of-result-2 : goal.invariant_of-result-2
invariant_of-result-2 c =
    let l = c.lists-lists.ensures in
    record { twiddles = merely (handed c.args.prime c.modulus.ensures l.0 l.1 c.requires).0 }
