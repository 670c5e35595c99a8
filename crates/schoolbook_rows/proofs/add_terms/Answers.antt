-- `schoolbook_rows::add_terms` meets its contract. Assumes nothing.
use Rattle.std.proofs.Common.{arith, refl}
use Rattle.torus.specs.Bytes.{words}
use Rattle.torus.proofs.Parts.{length_words, words_word}
use Rattle.ring.proofs.Degrees.{degree_pos}
use Rattle.row_sums.proofs.Batches.{accumulated_none}
use Rattle.schoolbook_rows.proofs.OneRow.{accumulated_more}
use Rattle.schoolbook_rows.proofs.add_terms.Goals as goal

pub loop-r-init : goal.loop-r-init
loop-r-init c =
    let out = c.args.out.now in
    let t = c.args.terms.now in (
      refl,
      refl,
      refl,
      accumulated_none t.n t.k t.gadget.g t.gadget.l (words t.block.now) (words t.x.now) (words out) (degree_pos t.n t.degree)
          (omega (arith, length_words out, c.requires.0)) (words_word _ (λ i. (c.type_inv.out i).fits)),
    )

pub loop-r-preserved : goal.loop-r-preserved
loop-r-preserved c =
    let t = c.args.terms.now in
    let at = c.loop-r in (
      omega arith,
      omega arith,
      omega arith,
      accumulated_more t.n t.k t.gadget.g t.gadget.l (words t.block.now) (words t.x.now) at.r (words c.args.out.now) (words at.out) _ at.invariant.3
          c.add_term.ensures,
    )
