-- `residues::remainder` meets its contract. Assumes nothing.
use Rattle.std.proofs.Common.{mod-lt}
use Rattle.butterflies.proofs.SameLaws.{same_mod}
use Rattle.residues.proofs.Words.{rem_is}
use Rattle.residues.proofs.remainder.Goals as goal

pub returns-then-p-eq-P1 : goal.returns-then-p-eq-P1
returns-then-p-eq-P1 c = rem_is _ _ _ c.requires c.if-p-eq-P1.true

pub returns-then-p-eq-P2 : goal.returns-then-p-eq-P2
returns-then-p-eq-P2 c = rem_is _ _ _ c.requires c.if-p-eq-P2.true

pub returns-else-p-eq-P2 : goal.returns-else-p-eq-P2
returns-else-p-eq-P2 c = (mod-lt c.args.x c.requires, same_mod _ _)
