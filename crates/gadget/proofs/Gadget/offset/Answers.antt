-- `gadget::Gadget::offset` meets its contract. The loop's invariant: o is the offset as far as place i. Assumes nothing.
use Rattle.std.proofs.Common.{◌≡◌, sym, ap, ◌∙◌, add-zero, arith}
use Rattle.torus.specs.Sum.{sum}
use Rattle.gadget.specs.Digits as D
use Rattle.gadget.proofs.Shifts.{partial, partial_more, partial_fits}
use Rattle.gadget.proofs.Gadget.offset.Goals as goal

pub loop-i-init : goal.loop-i-init
unfolding sum
loop-i-init c = c.precision-o.ensures ∙ sym (add-zero _)

pub overflow_add-o-in-loop-i : goal.overflow_add-o-in-loop-i
overflow_add-o-in-loop-i c =
    record { fits = partial_fits c.args.self.g c.args.self.l c.loop-i.i _ _ c.args.self.lawful (omega arith) c.half-half.ensures c.loop-i.invariant }

pub loop-i-preserved : goal.loop-i-preserved
loop-i-preserved c = partial_more c.args.self.g c.args.self.l c.loop-i.i _ _ c.args.self.lawful (omega arith) c.half-half.ensures c.loop-i.invariant

pub returns : goal.returns
unfolding D.offset
returns c =
    let e : c.loop-i.i ≡ c.args.self.l = omega arith in
    c.loop-i.invariant ∙ ap (λ n. partial c.args.self.g c.args.self.l n) e
