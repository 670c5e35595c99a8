-- `ring::coefficient` meets its contract. Assumes nothing.
use Rattle.std.proofs.Common.{◌∙◌}
use Rattle.torus.specs.Bytes.{words}
use Rattle.ring.specs.Polynomial.{coefficients}
use Rattle.ring.proofs.Coefficients.{coefficient_product}
use Rattle.ring.proofs.coefficient.Goals as goal

pub returns : goal.returns
returns c =
    c.sub.ensures
    ∙ coefficient_product c.args.n c.args.k _ _ (coefficients (words c.args.small.now)) (coefficients (words c.args.row.now)) c.requires.0
    c.sum_terms-inside.ensures c.sum_terms-passed.ensures
