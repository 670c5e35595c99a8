-- `torus::clear_words` meets its contract: bytes that are 0 are words that are 0. Assumes nothing.
use Rattle.std.proofs.Common.{ap, ◌∙◌, length}
use Rattle.torus.specs.Bytes.{words}
use Rattle.torus.proofs.Parts.{words_zero}
use Rattle.torus.proofs.clear_words.Goals as goal

pub returns : goal.returns
returns c = ap words (c.fill.ensures.after (λ y e. e)) ∙ words_zero (length c.args.out.now)
