-- Exercise 6.7: `course::negate_coefficient` meets its contract. Assumes nothing.
use Rattle.std.proofs.Common.{◌≡◌, ◌*◌, length, set, sym, ap, ◌∙◌, arith}
use Rattle.torus.specs.Bytes.{words}
use Rattle.answers.specs.Answers.{number, accepted}
use Rattle.answers.proofs.Laws.{went_on, exact_held, after_accepted}
use Rattle.course.specs.Definitions.{negative, negate_coefficient, negate_coefficient_slice}
use Rattle.course.proofs.negate_coefficient.Goals as goal

pub returns : goal.returns
unfolding negate_coefficient negate_coefficient_slice
returns c =
    let s = c.args in
    let accepts : negate_coefficient s.n s.p s.s.now ≡ accepted =
    went_on _ _ (sym c.in_ok-degree.ensures) ∙ went_on _ _ (sym c.in_ok-position.ensures) ∙ went_on _ _ (sym c.in_ok-exact.ensures) in
    let written = c.put_word.ensures ∙ ap (λ w. set (words s.s.now) s.p w) (c.negate.ensures ∙ ap negative c.word_at-w.ensures) in
    let size : length c.put_word.new.s ≡ 4 * s.n = omega (arith, exact_held _ _ (sym c.in_ok-exact.ensures)) in
    (c.accepted.ensures ∙ sym accepts, after_accepted _ s.n _ _ _ (ap number accepts) size (λ i. (c.type_inv.s i).fits) written)
