-- `row_terms::Terms::write_row_digits` meets its contract. Assumes nothing.
use Rattle.std.proofs.Common.{arith}
use Rattle.row_terms.proofs.RowLaws.{component_inside}
use Rattle.row_terms.proofs.Terms.write_row_digits.Goals as goal

pub write_row_digits-requires : goal.write_row_digits-requires
write_row_digits-requires c =
    let t = c.args.self.now in
    (c.requires.1, omega (arith, t.x_length, component_inside t.n t.k t.gadget.l c.args.r c.requires.0))
