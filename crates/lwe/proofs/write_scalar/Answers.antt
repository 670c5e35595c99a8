-- `lwe::write_scalar` meets its contract. Assumes nothing.
use Rattle.std.proofs.Common.{◌≡◌, ℕ, ◌*◌, List, set, ap, ap₂, ◌∙◌, arith}
use Rattle.torus.specs.Bytes.{words}
use Rattle.torus.proofs.Lists.{filled, filled_none, filled_more, filled_last}
use Rattle.torus.proofs.Parts.{length_words}
use Rattle.trlwe.specs.Sample.{part}
use Rattle.lwe.specs.Scalar.{extracted}
use Rattle.lwe.proofs.Extraction.{mask_word}
use Rattle.lwe.proofs.write_scalar.Goals as goal

pub loop-t-init : goal.loop-t-init
loop-t-init c = filled_none _ _

pub loop-t-preserved : goal.loop-t-preserved
loop-t-preserved c = c.put_word.ensures ∙ filled_more _ _ _ _ _ c.loop-t.invariant c.extracted_word.ensures

pub returns : goal.returns
unfolding extracted
returns c =
    let s = c.args in
    let at = c.loop-t in
    let word : ℕ → ℕ = mask_word s.n s.p (words s.sample.now) in
    let e : at.t ≡ s.k * s.n = omega arith in
    let masks : words at.scalar ≡ filled (s.k * s.n) word (words s.scalar.now) =
    at.invariant ∙ ap (λ t. filled t word (words s.scalar.now)) e in
    let body : c.word_at.result ≡ part s.n (words s.sample.now) s.k s.p = c.word_at.ensures in
    c.put_word-2.ensures
    ∙ ap₂ (λ (l : List ℕ) (b : ℕ). set l (s.k * s.n) b) masks body
    ∙ filled_last (s.k * s.n) word (words s.scalar.now) _ (omega (arith, length_words s.scalar.now))
