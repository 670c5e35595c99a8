-- `torus::put_word` meets its contract: the four bytes make up the word. Assumes nothing.
use Rattle.std.proofs.Common.{arith}
use Rattle.torus.proofs.Parts.{words_set}
use Rattle.torus.proofs.put_word.Goals as goal

pub returns : goal.returns
returns c = rw c.to_le_bytes.ensures (words_set c.args.s.now c.args.i _ _ _ _ c.args.w c.requires (omega arith))
