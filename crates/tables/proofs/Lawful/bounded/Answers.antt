-- `tables::Lawful::bounded` meets its contract. Assumes nothing.
use Rattle.trgsw.proofs.Told.{told_sized}
use Rattle.tables.proofs.Lawful.bounded.Goals as goal

pub invariant_of-result : goal.invariant_of-result
invariant_of-result c =
    let x = c.args.self in
    record { sized = rw c.parameter_set.ensures (told_sized x.numbers.scheme x.lawful.scheme) }
