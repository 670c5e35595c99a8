-- `gadget::Gadget::write_digits` meets its contract. The loop's invariant: the first i words are digit j of the first i words of x.
-- Assumes nothing.
use Rattle.std.proofs.Common.{◌≡◌, get_or, sym, ap, ◌∙◌, arith}
use Rattle.torus.specs.Word as W
use Rattle.torus.specs.Bytes.{words}
use Rattle.torus.proofs.Lists.{filled_none, filled_more, filled_done}
use Rattle.torus.proofs.Parts.{length_words}
use Rattle.gadget.specs.Digits as D
use Rattle.gadget.proofs.Laws.{digit_cut}
use Rattle.gadget.proofs.Decomposition.{same_polynomial}
use Rattle.gadget.proofs.Gadget.write_digits.Goals as goal

pub loop-i-init : goal.loop-i-init
loop-i-init c = filled_none _ _

pub loop-i-preserved : goal.loop-i-preserved
loop-i-preserved c =
    let g = c.args.self.g in
    let l = c.args.self.l in
    let j = c.args.j in
    let w = get_or (words c.args.x.now) c.loop-i.i 0 in
    let moved : c.add-t.result ≡ W.add w (D.offset g l) = omega arith in
    let digit : c.cut.result ≡ D.digit g l w j =
    omega (arith, ap (λ t. D.signed g t j) moved ∙ digit_cut g l w j c.args.self.lawful c.requires.0 c.requires.1) in
    c.put_word.ensures ∙ filled_more _ _ _ _ _ c.loop-i.invariant digit

pub returns : goal.returns
unfolding D.digit_polynomial
returns c =
    let written = filled_done _ _ _ _ _ c.loop-i.invariant (omega arith) (length_words c.args.out.now) in
    record {
      polynomial = written;
      decomposed = written ∙ sym (same_polynomial _ _ _ _ _ c.args.self.lawful c.requires.0 c.requires.1);
    }
