-- `tables::Numbers::lawful` meets its contract. Assumes nothing.
use Rattle.std.proofs.Common.{sym, ◌∙◌}
use Rattle.tables.proofs.Passed.{numbers_held}
use Rattle.tables.proofs.Numbers.lawful.Goals as goal

pub invariant_of-result : goal.invariant_of-result
invariant_of-result c = record { lawful = numbers_held c.args.self (sym c.check.ensures ∙ c.in_ok-check.was) }
