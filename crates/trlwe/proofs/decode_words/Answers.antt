-- `trlwe::decode_words` meets its contract. The loop's invariant: the first i words are the classes of the first i phases.
-- Assumes nothing.
use Rattle.std.proofs.Common.{arith, ap, ◌∙◌, ◌≡◌, ◌+◌, ◌/◌, length, get_or}
use Rattle.torus.specs.Word as W
use Rattle.torus.specs.Bytes.{words}
use Rattle.torus.proofs.Lists.{filled_none, filled_more, filled_all}
use Rattle.torus.proofs.Parts.{length_words}
use Rattle.trlwe.specs.Classes as Classes
use Rattle.trlwe.proofs.decode_words.Goals as goal

pub loop-i-init : goal.loop-i-init
loop-i-init c = filled_none _ _

pub loop-i-preserved : goal.loop-i-preserved
loop-i-preserved c =
    let at = c.loop-i in
    let phase : c.sub-f.result ≡ W.sub (get_or (words c.args.sample.now) (c.args.from + at.i) 0) (get_or (words c.args.room.now) at.i 0) = omega arith in
    c.put_word.ensures ∙ filled_more _ _ _ _ _ at.invariant (c.decode.ensures ∙ ap (Classes.decode c.args.encoding.m) phase)

pub returns : goal.returns
returns c =
    let e : c.loop-i.i ≡ length c.args.classes.now / 4 = omega arith in
    c.loop-i.invariant ∙ rw e (filled_all _ _ _ (length_words c.args.classes.now))
