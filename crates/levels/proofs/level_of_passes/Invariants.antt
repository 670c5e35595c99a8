-- `levels::level_of_passes` meets its contract. The loop's invariant: the first j nodes of the level are done. Assumes nothing.
use Rattle.std.proofs.Common.{◌+◌, get_or}
use Rattle.butterflies.specs.Butterflies.{Level, Below}
use Rattle.levels.proofs.level_of_passes.Given as goal

abbrev pub invariant-loop-j : goal.invariant-loop-j
invariant-loop-j g l =
    let way = g.W.Way in
    let f = l.factors in
    Level f.p (λ i. way.low (get_or f.roots.now (f.m + way.turn f.m i) 0)) (λ i. way.high f.p (get_or f.roots.now (f.m + way.turn f.m i) 0)) l.h l.j l.fn.a l.a
    × Below (way.top f.p) l.a
