-- `jobfile::parts::SectionTwo::gather_amplitudes` meets its contract. Assumes nothing.
use Rattle.std.proofs.Common.{◌≡◌, sym, ◌∙◌, arith}
use Rattle.torus.specs.Bytes.{words}
use Rattle.torus.proofs.Lists.{filled_none, filled_more, filled_all}
use Rattle.torus.proofs.Parts.{length_words}
use Rattle.jobfile.proofs.Sections.{amplitude_at}
use Rattle.jobfile.proofs.parts.SectionTwo.gather_amplitudes.Goals as goal

pub loop-i-init : goal.loop-i-init
loop-i-init c = filled_none _ _

pub loop-i-preserved : goal.loop-i-preserved
loop-i-preserved c =
    let at = c.loop-i in
    c.put_word.ensures
    ∙ filled_more _ _ _ _ _ at.invariant (c.word_at.ensures ∙ sym (amplitude_at c.args.self.now.b at.i (words c.args.self.now.parts.now)))

pub returns : goal.returns
returns c =
    let s = c.args in
    let at = c.loop-i in
    let e : at.i ≡ s.self.now.d = omega arith in
    at.invariant ∙ rw e (filled_all s.self.now.d _ _ (omega (arith, length_words s.amplitudes.now)))
