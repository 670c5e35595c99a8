-- `ring::add_by_coefficients` meets its contract. The loop's invariant: the first k coefficients are made. Assumes nothing.
use Rattle.std.proofs.Common.{◌∙◌, arith}
use Rattle.torus.specs.Word.{add}
use Rattle.torus.specs.Bytes.{words}
use Rattle.torus.proofs.Lists.{filled_none, filled_in_place, filled_done}
use Rattle.torus.proofs.Parts.{length_words}
use Rattle.ring.specs.Polynomial.{coefficients, product, add_product}
use Rattle.ring.proofs.add_by_coefficients.Goals as goal

pub loop-k-init : goal.loop-k-init
loop-k-init c = filled_none _ _

pub loop-k-preserved : goal.loop-k-preserved
loop-k-preserved c =
    c.put_word.ensures
    ∙ filled_in_place add _ (product c.args.n (coefficients (words c.args.small.now)) (coefficients (words c.args.row.now)))
    (words c.args.out.now) _ _ _ _ c.loop-k.invariant c.word_at-w.ensures c.coefficient.ensures c.add.ensures

pub returns : goal.returns
unfolding add_product
returns c = filled_done c.args.n _ _ _ _ c.loop-k.invariant (omega arith) (omega (arith, length_words c.args.out.now))
