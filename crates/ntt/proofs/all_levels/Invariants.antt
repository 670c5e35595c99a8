-- `ntt::all_levels` meets its contract. The loop's invariant: d levels are done. Assumes nothing.
use Rattle.std.proofs.Common.{◌*◌}
use Rattle.butterflies.specs.Butterflies.{Below}
use Rattle.ntt.specs.Transforms.{Down}
use Rattle.ntt.proofs.all_levels.Given as goal

abbrev pub invariant-loop-d : goal.invariant-loop-d
invariant-loop-d l = let f = l.tables in Down f.p f.n f.roots.now l.d l.fn.a l.a × Below (4 * f.p) l.a
