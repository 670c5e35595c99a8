-- `gates::external::add_external` meets its contract. Assumes nothing.
use Rattle.rns.specs.Exact.{add_rows}
use Rattle.trlwe.specs.Sample.{polynomials}
use Rattle.trgsw.specs.External.{external}
use Rattle.gates.proofs.external.add_external.Goals as goal

pub returns : goal.returns
unfolding add_rows polynomials external
returns c = c.add_rows.ensures
