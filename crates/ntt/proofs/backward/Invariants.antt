-- `ntt::backward` meets its contract. The loop's invariant: d levels are left. Assumes nothing.
use Rattle.std.proofs.Common.{◌+◌}
use Rattle.butterflies.specs.Butterflies.{Below}
use Rattle.ntt.specs.Transforms.{Up}
use Rattle.ntt.proofs.backward.Given as goal

abbrev pub invariant-loop-d : goal.invariant-loop-d
invariant-loop-d l = let f = l.plan.tables in Up f.p f.n f.roots.now l.d l.fn.a l.a × Below (f.p + f.p) l.a
