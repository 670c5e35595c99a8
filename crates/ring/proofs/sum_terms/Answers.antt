-- `ring::sum_terms` meets its contract. The loop's invariant: total is the sum of the first i terms. Assumes nothing.
use Rattle.std.proofs.Common.{ap₂, ◌∙◌}
use Rattle.torus.specs.Word.{mul}
use Rattle.torus.proofs.Sums.{summed_none, summed_more}
use Rattle.ring.proofs.sum_terms.Goals as goal

pub loop-i-init : goal.loop-i-init
loop-i-init c = summed_none _

pub loop-i-preserved : goal.loop-i-preserved
loop-i-preserved c =
    c.add-total.ensures
    ∙ summed_more c.loop-i.i _ _ _ c.loop-i.invariant (c.mul-term.ensures ∙ ap₂ mul c.word_at.ensures c.word_at-in-loop-i.ensures)
