-- `sums_back::read_column` meets its contract. Assumes nothing.
use Rattle.std.proofs.Common.{◌≡◌, ◌^◌, length, arith, subst}
use Rattle.butterflies.specs.Butterflies.{Stored}
use Rattle.residues.specs.Residues.{Scaled}
use Rattle.held_sums.proofs.Rows.{scaled_back}
use Rattle.sums_back.proofs.read_column.Goals as goal

pub returns : goal.returns
returns c =
    let s = c.args in
    let t = s.plan.now.tables in
    let h = c.requires in
    let a = c.reduce_sums.new.a in
    let b = c.backward.new.a in
    let la : length a ≡ 2 ^ t.n = omega (arith, h.2) in
    let lb : length b ≡ 2 ^ t.n = omega (arith, h.2) in
    scaled_back t.p t.n s.scale.w t.roots.now s.sums.now a b _ la lb h.1 (λ k l. (c.reduce_sums.ensures.done k (rw h.2 l)).1)
    c.backward.ensures.0 (subst (λ p. Stored (Scaled p s.scale.w b) (length b) b c.scale.new.a) h.0 c.scale.ensures)
