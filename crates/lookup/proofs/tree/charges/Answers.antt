-- `lookup::tree::charges` meets its contract. The loop's invariant: the charges of the first i selectors are added up. Assumes nothing.
use Rattle.std.proofs.Common.{◌+◌, refl, arith}
use Rattle.torus.specs.Bytes.{words}
use Rattle.trgsw.specs.Parameters.{parameters}
use Rattle.lookup.proofs.Charges.{charges_none, charges_more, selectors_fit}
use Rattle.lookup.proofs.tree.charges.Goals as goal

pub loop-i-init : goal.loop-i-init
loop-i-init c = omega (arith, charges_none (parameters c.args.lent.now.numbers.scheme) (words c.args.lent.now.amplitudes.now))

pub overflow_add-sum : goal.overflow_add-sum
overflow_add-sum c =
    let i = c.loop-i.i in
    omega (
      arith,
      c.charge_of-sum.ensures,
      charges_more (parameters c.args.lent.now.numbers.scheme) (words c.args.lent.now.amplitudes.now) (i + 1) i refl,
      selectors_fit c.args.lent.now.numbers c.args.d c.args.lent.now.amplitudes.now c.requires (i + 1) (omega arith),
    )

pub loop-i-preserved : goal.loop-i-preserved
loop-i-preserved c =
    let i = c.loop-i.i in
    omega (arith, c.charge_of-sum.ensures, charges_more (parameters c.args.lent.now.numbers.scheme) (words c.args.lent.now.amplitudes.now) (i + 1) i refl)
