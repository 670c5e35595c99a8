-- `tables::entries::write_classes` meets its contract. Assumes nothing.
use Rattle.std.proofs.Common.{arith}
use Rattle.tables.proofs.Packings.{sample_classes_le}
use Rattle.tables.proofs.entries.write_classes.Goals as goal

pub write_trivial-requires : goal.write_trivial-requires
write_trivial-requires c =
    let x = c.args.x in
    rw c.parameter_set-p.ensures (omega (arith, c.requires.0), omega (arith, c.requires.1, sample_classes_le x.numbers x.lawful))
