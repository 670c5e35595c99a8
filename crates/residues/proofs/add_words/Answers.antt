-- `residues::add_words` meets its contract. The loop's invariant: to the first i words those are added of which x and y have the
-- residues. Assumes nothing.
use Rattle.std.proofs.Common.{◌≡◌, get_or, ap, ◌∙◌, arith}
use Rattle.torus.specs.Bytes.{words}
use Rattle.torus.specs.Word.{add}
use Rattle.torus.proofs.Parts.{length_words}
use Rattle.butterflies.proofs.StoredLaws.{stored_more}
use Rattle.residues.proofs.add_words.Goals as goal

pub loop-i-preserved : goal.loop-i-preserved
loop-i-preserved c =
    let at = c.loop-i in
    let out = words c.args.out.now in
    let w = c.word.result in
    let before : c.word_at-w.result ≡ get_or out at.i 0 = c.word_at-w.ensures ∙ at.invariant.1.rest at.i (omega arith) in (
      omega arith,
      rw c.put_word.ensures (stored_more _ _ _ _ at.invariant.1 (omega (arith, length_words c.args.out.now, c.requires.0)) _
          (record { word = w; is = c.add.ensures ∙ ap (λ v. add v w) before; known = c.word.ensures })),
    )
