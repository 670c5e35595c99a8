-- `row_sums::add_rows` meets its contract. Assumes nothing.
use Rattle.std.proofs.Common.{arith, refl}
use Rattle.torus.specs.Bytes.{words}
use Rattle.torus.proofs.Parts.{length_words, words_word}
use Rattle.ring.proofs.Degrees.{degree_pos}
use Rattle.row_sums.proofs.Batches.{accumulated_none, accumulated_batch}
use Rattle.row_sums.proofs.add_rows.Goals as goal

pub loop-from-init : goal.loop-from-init
loop-from-init c =
    let out = c.args.out.now in
    let t = c.args.terms.now in (
      omega arith,
      refl,
      refl,
      accumulated_none t.n t.k t.gadget.g t.gadget.l (words t.block.now) (words t.x.now) (words out) (degree_pos t.n t.degree)
          (omega (arith, length_words out, c.requires.2)) (words_word _ (λ i. (c.type_inv.out i).fits)),
    )

pub loop-from-preserved : goal.loop-from-preserved
loop-from-preserved c =
    let t = c.args.terms.now in
    let at = c.loop-from in (
      omega arith,
      omega arith,
      omega arith,
      accumulated_batch t.n t.k t.gadget.g t.gadget.l (words t.block.now) (words t.x.now) at.from _ (words c.args.out.now) (words at.out) _
          at.invariant.3 c.add_batch.ensures,
    )
