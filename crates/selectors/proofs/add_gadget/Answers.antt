-- `selectors::add_gadget` meets its contract. Assumes nothing.
use Rattle.std.proofs.Common.{arith, ◌≡◌, ℕ, ◌*◌, ◌/◌, ◌^◌, ◌<◌, length, get_or, refl, ap, ap₂, ◌∙◌, subst}
use lib.ListN.{set}
use Rattle.torus.specs.Word.{add}
use Rattle.torus.specs.Bytes.{words}
use Rattle.torus.proofs.Parts.{length_words, words_word}
use Rattle.gadget.specs.Digits.{step}
use Rattle.trgsw.specs.Block.{scaled_step}
use Rattle.selectors.proofs.Added.{added_at, words_before}
use Rattle.selectors.proofs.add_gadget.Goals as goal

pub returns : goal.returns
returns c =
    let s = c.args in
    let row = words s.row.now in
    let at = s.r / s.p.L * s.p.N in
    let scaled : s.m * c.step.result ≡ scaled_step s.p s.m s.r = ap (λ h. s.m * h) (c.step.ensures ∙ ap (step s.p.g) c.place.ensures.0) in
    let after = subst (λ r. (t : ℕ) → get_or r t 0 < 2 ^ 32) c.put_word.ensures (words_word _ (λ i. (c.type_inv.row i).fits)) in
    let before = words_before at c.add.result row after (subst (λ w. w < 2 ^ 32) c.word_at.ensures c.word_at.type_inv) in
    c.put_word.ensures
    ∙ ap (set row at) (c.add.ensures ∙ ap₂ add c.word_at.ensures scaled)
    ∙ added_at (length row) at (scaled_step s.p s.m s.r) row refl
    (omega (arith, length_words s.row.now)) before
