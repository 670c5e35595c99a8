-- `gadget::Gadget::decompose` meets its contract. The loop's invariant: q is what is left over of the closest multiple when the digits behind
-- place i are taken, and out has these. Assumes nothing.
use Rattle.std.proofs.Common.{◌≡◌, refl, ap, ◌∙◌, subst, ◌-◌, ◌/◌, ◌≤◌, length-set, arith}
use Rattle.gadget.specs.Digits as D
use Rattle.gadget.specs.Decomposition as Decomposition
use Rattle.gadget.proofs.Bounds.{count_le}
use Rattle.gadget.proofs.Lists.{Laid, laid_none, laid_more, laid_all}
use Rattle.gadget.proofs.Shifts.{left_none, left_more}
use Rattle.gadget.proofs.Gadget.decompose.Goals as goal

pub loop-i-init : goal.loop-i-init
loop-i-init c =
    let s = c.args.self in (
      refl,
      ap (λ x. x / D.step s.g s.l) c.closest_multiple.ensures ∙ left_none s.g _ s.l,
      laid_none s.l (Decomposition.digit s.g s.l c.args.w),
    )

pub loop-i-preserved : goal.loop-i-preserved
unfolding Decomposition.digit
loop-i-preserved c =
    let w = c.args.w in
    let g = c.args.self.g in
    let l = c.args.self.l in
    let at = c.loop-i in
    let within : at.i ≤ l = omega arith in
    let some : 1 ≤ at.i = omega arith in
    let few : l ≤ 32 = count_le g l c.args.self.lawful in
    let digit : c.centred_remainder.result ≡ Decomposition.digit g l w at.i =
    c.centred_remainder.ensures ∙ ap (Decomposition.centred_remainder g) at.invariant.1 in (
      length-set at.out (at.i - 1) c.centred_remainder.result ∙ at.invariant.0,
      c.left_over-q.ensures ∙ ap (Decomposition.left_over g) at.invariant.1 ∙ left_more g _ l at.i some within,
      laid_more l (Decomposition.digit g l w) at.i _ at.out at.invariant.0 few some within digit at.invariant.2,
    )

pub returns : goal.returns
unfolding Decomposition.digits
returns c =
    let s = c.args.self in
    let d = Decomposition.digit s.g s.l c.args.w in
    let at = c.loop-i in
    let e : at.i ≡ 0 = omega arith in
    laid_all s.l d at.out at.invariant.0 (count_le s.g s.l s.lawful) (subst (λ i. Laid s.l d i at.out) e at.invariant.2)
