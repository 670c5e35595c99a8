-- `tables::Lawful::table_size` meets its contract. Assumes nothing.
use Rattle.std.proofs.Common.{◌*◌, ap, arith}
use Rattle.tables.proofs.Packings.{table_size_le}
use Rattle.tables.proofs.Lawful.table_size.Goals as goal

pub returns : goal.returns
returns c =
    let e = ap (λ n. c.args.self.numbers.s * n) c.power.ensures in
    (e, omega (arith, e, table_size_le c.args.self.numbers c.args.self.lawful))
