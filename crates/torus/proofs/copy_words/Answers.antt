-- `torus::copy_words` meets its contract. The loop's invariant: the first i words are those of a. Assumes nothing.
use Rattle.std.proofs.Common.{◌∙◌, ◌/◌, arith, length}
use Rattle.torus.proofs.Lists.{filled_none, filled_more, filled_done, tabulate_self}
use Rattle.torus.proofs.Parts.{length_words}
use Rattle.torus.proofs.copy_words.Goals as goal

pub loop-i-init : goal.loop-i-init
loop-i-init c = filled_none _ _

pub loop-i-preserved : goal.loop-i-preserved
loop-i-preserved c = c.put_word.ensures ∙ filled_more _ _ _ _ _ c.loop-i.invariant c.word_at.ensures

pub returns : goal.returns
returns c =
    filled_done _ _ _ _ _ c.loop-i.invariant (omega arith) (length_words c.args.out.now)
    ∙ tabulate_self (length c.args.out.now / 4) _ (omega (arith, length_words c.args.a.now))
