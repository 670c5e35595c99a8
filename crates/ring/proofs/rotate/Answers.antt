-- `ring::rotate` meets its contract. The loop's invariant: the first t words are those of the rotation. Assumes nothing.
use Rattle.std.proofs.Common.{◌/◌, length, ap, ◌∙◌, arith}
use Rattle.torus.specs.Sum.{tabulate}
use Rattle.torus.specs.Bytes.{words}
use Rattle.torus.proofs.Lists.{filled_none, filled_more, filled_done}
use Rattle.torus.proofs.Parts.{length_words}
use Rattle.ring.specs.Polynomial.{coefficients, rotated}
use Rattle.ring.proofs.rotate.Goals as goal

pub loop-t-init : goal.loop-t-init
loop-t-init c = filled_none _ _

pub loop-t-preserved : goal.loop-t-preserved
loop-t-preserved c = c.put_word.ensures ∙ filled_more _ _ _ _ _ c.loop-t.invariant c.rotated_word.ensures

pub returns : goal.returns
returns c =
    let s = c.args in
    filled_done _ _ _ _ _ c.loop-t.invariant (omega arith) (length_words s.out.now)
    ∙ ap (λ m. tabulate (length s.out.now / 4) (rotated m s.r (coefficients (words s.p.now)))) {x = length s.p.now / 4} {y = length s.out.now / 4} (omega arith)
