-- `torus::sub_words` meets its contract. The loop's invariant: the first i differences are made. Assumes nothing.
use Rattle.std.proofs.Common.{get_or, ◌∙◌, arith}
use Rattle.torus.specs.Word.{sub}
use Rattle.torus.specs.Bytes.{words}
use Rattle.torus.proofs.Lists.{filled_none, filled_in_place, filled_done}
use Rattle.torus.proofs.Parts.{length_words}
use Rattle.torus.proofs.sub_words.Goals as goal

pub loop-i-init : goal.loop-i-init
loop-i-init c = filled_none _ _

pub loop-i-preserved : goal.loop-i-preserved
loop-i-preserved c =
    c.put_word.ensures
    ∙ filled_in_place sub _ (λ i. get_or (words c.args.a.now) i 0) (words c.args.out.now) _ _ _ _ c.loop-i.invariant c.word_at-w.ensures c.word_at.ensures c.sub.ensures

pub returns : goal.returns
returns c = filled_done _ _ _ _ _ c.loop-i.invariant (omega arith) (length_words c.args.out.now)
