-- `residues::crt` meets its contract. Assumes nothing.
use Rattle.std.proofs.Common.{arith}
use Rattle.butterflies.proofs.SameLaws.{same_trans}
use Rattle.residues.proofs.Words.{crt_second}
use Rattle.residues.proofs.crt.Goals as goal

pub returns : goal.returns
returns c = (
  omega (arith, c.reduced-k.ensures.0),
  record { s = 0; t = c.reduced-k.result; same = omega arith },
  crt_second _ _ _ c.requires.0 (same_trans c.reduced-k.ensures.1 c.shoup.ensures.1),
)
