-- `butterflies::fold` meets its contract. Assumes nothing.
use Rattle.std.proofs.Common.{arith}
use Rattle.butterflies.proofs.FoldLaws.{folded}
use Rattle.butterflies.proofs.fold.Goals as goal

pub returns : goal.returns
returns c = folded c.args.p 2 _ _ _ (omega arith) (omega arith) (omega arith) (omega arith) c.min.ensures
