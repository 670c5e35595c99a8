-- `butterflies::Factor::shoup` meets its contract. Shoup's quotient is the product's, or one less. Assumes nothing.
use Rattle.std.proofs.Common.{arith}
use Rattle.butterflies.proofs.ShoupLaws.{shoup_le, shoup_lt, shoup_same}
use Rattle.butterflies.proofs.Factor.shoup.Goals as goal

pub overflow_sub-result : goal.overflow_sub-result
overflow_sub-result c = shoup_le c.args.self.ready c.args.y (omega arith)

pub overflow_cast-result-4 : goal.overflow_cast-result-4
overflow_cast-result-4 c =
    let r = c.args.self.ready in omega (arith, shoup_lt r c.args.y (omega arith), r.small)

pub returns : goal.returns
returns c = let r = c.args.self.ready in (
  omega (arith, shoup_lt r c.args.y (omega arith), shoup_le r c.args.y (omega arith)),
  shoup_same r c.args.y (omega arith),
)
