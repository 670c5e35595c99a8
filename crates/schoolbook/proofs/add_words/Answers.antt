-- `schoolbook::add_words` meets its contract. The loop's invariant: the first k sums are made. Assumes nothing.
use Rattle.std.proofs.Common.{refl, ◌∙◌, arith, get_or}
use Rattle.torus.specs.Word.{add}
use Rattle.torus.specs.Bytes.{words}
use Rattle.torus.proofs.Lists.{filled_none, filled_in_place, filled_done}
use Rattle.torus.proofs.Parts.{length_words}
use Rattle.schoolbook.proofs.add_words.Goals as goal

pub loop-k-init : goal.loop-k-init
loop-k-init c = filled_none _ _

pub loop-k-preserved : goal.loop-k-preserved
loop-k-preserved c =
    c.put_word.ensures
    ∙ filled_in_place add _ (λ i. get_or c.args.a.now i 0) (words c.args.out.now) _ _ _ _ c.loop-k.invariant c.word_at-w.ensures refl c.add.ensures

pub returns : goal.returns
returns c = filled_done _ _ _ _ _ c.loop-k.invariant (omega arith) (omega (arith, length_words c.args.out.now))
