-- `trlwe::add_masked` meets its contract. The loop's invariant: a·K over the first c masks is added. Assumes nothing.
use Rattle.std.proofs.Common.{arith, ◌+◌, ◌*◌, ◌-◌, ◌≤◌, ◌<◌}
use Rattle.torus.specs.Bytes.{words}
use Rattle.torus.proofs.Parts.{length_words, words_word}
use Rattle.torus.proofs.Joined.{chunk_inside}
use Rattle.trlwe.proofs.Masks.{added_none, added_more, key_small}
use Rattle.trlwe.proofs.add_masked.Goals as goal

pub loop-c-init : goal.loop-c-init
loop-c-init c = added_none _ _ _ _ (omega (arith, length_words c.args.out.now)) (words_word _ (λ i. (c.type_inv.out i).fits))

pub add_product-requires : goal.add_product-requires
add_product-requires c =
    let at = c.loop-c in
    let key = c.args.key.now in
    let p = at.c * (4 * key.n) in
    let l : at.c < key.k = omega arith in
    -- The polynomials of a turn lie inside the key, and inside the masks.
    let inside : p + 4 * key.n ≤ 4 * (key.k * key.n) = omega (arith, chunk_inside at.c key.k key.n l) in
    record {
      degree = key.fits.degree;
      out_length = omega arith;
      small_length = omega (arith, inside, key.fits.size);
      row_length = omega (arith, inside, c.requires.1);
      small_words = key_small key.n key.k at.c p (p + 4 * key.n - p) _ key.fits l (omega arith) (omega arith);
    }

pub loop-c-preserved : goal.loop-c-preserved
loop-c-preserved c =
    let at = c.loop-c in
    let key = c.args.key.now in
    let p = at.c * (4 * key.n) in
    added_more key.n key.polynomials.now c.args.a.now at.c p (p + 4 * key.n - p) (words c.args.out.now) _ _ at.invariant (omega arith) (omega arith) c.add_product.ensures
