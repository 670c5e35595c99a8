-- `butterflies::pass` meets its contract. The loop's invariant: the first j butterflies of the node are done. Assumes nothing.
use Rattle.butterflies.specs.Butterflies.{Below, Pass}
use Rattle.butterflies.proofs.pass.Given as goal

abbrev pub invariant-loop-j : goal.invariant-loop-j
invariant-loop-j g l = let f = l.factor in let way = g.W.Way in
    Pass f.p (way.low f.w) (way.high f.p f.w) l.s l.h l.j l.fn.a l.a × Below (way.top f.p) l.a
