-- `trlwe::add_message` meets its contract. The loop's invariant: the encodings of the first i classes are added. Assumes nothing.
use Rattle.std.proofs.Common.{arith, ap, ◌∙◌, ◌≡◌, ◌/◌, length, get_or}
use Rattle.torus.specs.Word as W
use Rattle.torus.specs.Bytes.{words}
use Rattle.torus.proofs.Lists.{filled_none, filled_in_place}
use Rattle.torus.proofs.Parts.{length_words, words_word}
use Rattle.trlwe.specs.Classes as Classes
use Rattle.trlwe.proofs.Masks.{message_added}
use Rattle.trlwe.proofs.add_message.Goals as goal

pub loop-i-init : goal.loop-i-init
loop-i-init c = (filled_none _ _, words_word _ (λ i. (c.type_inv.body i).fits))

pub loop-i-preserved : goal.loop-i-preserved
loop-i-preserved c =
    let s = c.args.message.now in
    let class : c.encode-w.result ≡ Classes.encode s.encoding.m (get_or (words s.classes.now) c.loop-i.i 0) =
    c.encode-w.ensures ∙ ap (Classes.encode s.encoding.m) c.word_at.ensures in (
      c.put_word.ensures
          ∙ filled_in_place W.add _ (λ j. Classes.encode s.encoding.m (get_or (words s.classes.now) j 0)) (words c.args.body.now) _ _ _ _
          c.loop-i.invariant.0 c.word_at-in-loop-i.ensures class c.add.ensures,
      c.loop-i.invariant.1,
    )

pub returns : goal.returns
returns c =
    let s = c.args.message.now in
    let body = c.args.body.now in
    let e : c.loop-i.i ≡ length s.classes.now / 4 = omega arith in
    c.loop-i.invariant.0
    ∙ rw e
    (message_added (length body / 4) s.encoding.m (length s.classes.now / 4) (words body) (words s.classes.now) (length_words body) (omega arith)
    c.loop-i.invariant.1)
