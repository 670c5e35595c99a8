-- `trgsw::Scheme::parameter_set` meets its contract: with one mask. Assumes nothing.
use Rattle.std.proofs.Common.{refl}
use Rattle.trgsw.specs.Parameters.{masks}
use Rattle.trgsw.proofs.Scheme.parameter_set.Goals as goal

pub returns : goal.returns
unfolding masks
returns c = refl
