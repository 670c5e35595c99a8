-- Exercise 2.7: `course::round_word` meets its contract. Assumes nothing.
use Rattle.std.proofs.Common.{◌+◌, ◌-◌, ◌%◌, ◌^◌, ap, ◌∙◌, ap₂}
use Rattle.course.proofs.Lesson2.{round_law}
use Rattle.course.proofs.round_word.Goals as goal

pub returns : goal.returns
returns c =
    let s = c.args in
    let t = c.add-t.ensures ∙ ap (λ e. (s.w + e) % 2 ^ 32) c.precision.ensures in
    ap₂ (λ x h. x - x % h) t c.step.ensures ∙ round_law s.g s.l s.w c.requires.room
