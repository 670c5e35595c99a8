-- `torus::word_at` meets its contract. Assumes nothing.
use Rattle.std.proofs.Common.{arith}
use Rattle.torus.proofs.Parts.{words_at}
use Rattle.torus.proofs.word_at.Goals as goal

pub returns : goal.returns
returns c = omega (arith, words_at c.args.s.now c.args.i c.requires, c.from_le_bytes.ensures)
