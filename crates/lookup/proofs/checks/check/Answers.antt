-- `lookup::checks::check` meets its contract. Assumes nothing.
use Rattle.std.proofs.Common.{sym, ◌∙◌}
use Rattle.tables.proofs.Passed.{numbers_held}
use Rattle.lookup.proofs.checks.check.Goals as goal

pub check_lengths-requires : goal.check_lengths-requires
check_lengths-requires c = numbers_held c.args.lent.now.numbers (sym c.check.ensures ∙ c.in_ok-check.was)
