-- `trgsw::Scheme::bounded` meets its contract: what passes its checks is within the code's limits. Assumes nothing.
use Rattle.std.proofs.Common.{sym}
use Rattle.trgsw.proofs.Told.{told_sized}
use Rattle.trgsw.proofs.Checked.{scheme_held}
use Rattle.trgsw.proofs.Scheme.bounded.Goals as goal

pub invariant_of-result : goal.invariant_of-result
invariant_of-result c =
    let x = c.args.self in
    record { sized = rw c.parameter_set-set.ensures (told_sized x (scheme_held x (sym c.in_ok-check.ensures))) }
