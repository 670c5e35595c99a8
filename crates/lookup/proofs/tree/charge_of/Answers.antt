-- `lookup::tree::charge_of` meets its contract. Assumes nothing.
use Rattle.std.proofs.Common.{arith}
use Rattle.lookup.proofs.tree.charge_of.Goals as goal

pub charge-requires : goal.charge-requires
charge-requires c = rw c.word_at-amplitude.ensures (c.requires.small c.args.i (omega arith))
