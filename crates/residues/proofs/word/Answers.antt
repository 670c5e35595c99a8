-- `residues::word` meets its contract. Assumes nothing.
use Rattle.std.proofs.Common.{refl, arith}
use Rattle.residues.proofs.Words.{word_low, word_high}
use Rattle.residues.proofs.word.Goals as goal

pub returns-then-v-le576418972683954176 : goal.returns-then-v-le576418972683954176
returns-then-v-le576418972683954176 c = word_low _ _ _ c.crt-v.ensures.1 c.crt-v.ensures.2 (omega arith) _ refl

pub returns-else-v-le576418972683954176 : goal.returns-else-v-le576418972683954176
returns-else-v-le576418972683954176 c =
    word_high _ _ _ c.crt-v.ensures.1 c.crt-v.ensures.2 (omega arith) c.crt-v.ensures.0 _ (omega arith)
