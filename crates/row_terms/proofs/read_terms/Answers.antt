-- `row_terms::read_terms` meets its contract. Assumes nothing.
use Rattle.std.proofs.Common.{arith, ◌+◌, ◌*◌, ◌-◌}
use Rattle.held_sums.proofs.HeldLaws.{zeros_front}
use Rattle.row_terms.proofs.RowLaws.{size_le}
use Rattle.row_terms.proofs.read_terms.Goals as goal

pub read_terms_in-requires : goal.read_terms_in-requires
read_terms_in-requires c =
    let b = c.args.batch.now in
    let t = b.terms in (
      record { degree = t.degree; size = omega (arith, size_le t.k t.n b.narrow t.degree.most) },
      zeros_front ((t.k + 1) * t.n - 0) 2048,
      c.requires.0,
      c.requires.1,
    )
