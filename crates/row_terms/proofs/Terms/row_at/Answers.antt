-- `row_terms::Terms::row_at` meets its contract. Assumes nothing.
use Rattle.std.proofs.Common.{arith}
use Rattle.ring.proofs.Degrees.{degree_pos}
use Rattle.row_terms.proofs.RowLaws.{row_inside}
use Rattle.row_terms.proofs.Terms.row_at.Goals as goal

pub row_at-requires : goal.row_at-requires
row_at-requires c =
    let t = c.args.self.now in
    (degree_pos t.n t.degree, omega (arith, t.block_length, row_inside t.n t.k t.gadget.l c.args.r c.requires))
