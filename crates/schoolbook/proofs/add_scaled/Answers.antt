-- `schoolbook::add_scaled` meets its contract. The loop's invariant: the first k sums are made. Assumes nothing.
use Rattle.std.proofs.Common.{ℕ, ◌<◌, refl, ap, ◌∙◌, arith, get_or, length}
use Rattle.torus.specs.Word.{add, mul}
use Rattle.torus.proofs.Lists.{filled_none, filled_in_place, filled_before}
use Rattle.schoolbook.proofs.add_scaled.Goals as goal

pub loop-k-init : goal.loop-k-init
loop-k-init g c = filled_none _ _

pub loop-k-preserved : goal.loop-k-preserved
loop-k-preserved g c =
    let s = c.args in
    filled_in_place add _ (λ i. mul s.d (get_or s.row.now i 0)) s.acc.now _ _ _ _ c.loop-k.invariant refl c.mul.ensures c.add.ensures

pub returns : goal.returns
returns g c =
    let s = c.args in
    let at = c.loop-k in
    λ (k : ℕ) (l : k < length s.acc.now). ap (λ m. get_or m k 0) at.invariant ∙ filled_before at.k _ s.acc.now k (omega arith) (omega arith)
