-- `ring::rotated_word` meets its contract. Assumes nothing.
use Rattle.std.proofs.Common.{ap, sym, ◌∙◌, ◌/◌, length, arith}
use Rattle.torus.specs.Word.{sub}
use Rattle.ring.proofs.Rotation.{rotated_low, rotated_high}
use Rattle.ring.proofs.rotated_word.Goals as goal

pub returns-then-from-n : goal.returns-then-from-n
returns-then-from-n c = c.word_at.ensures ∙ sym (rotated_low (length c.args.p.now / 4) c.args.r _ c.args.t (omega arith))

pub returns-else-from-n : goal.returns-else-from-n
returns-else-from-n c =
    c.sub.ensures ∙ ap (sub 0) c.word_at-else-from-n.ensures ∙ sym (rotated_high (length c.args.p.now / 4) c.args.r _ c.args.t (omega arith))
