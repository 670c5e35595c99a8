-- `rns::add_product_in` meets its contract. Assumes nothing.
use Rattle.std.proofs.Common.{arith, ◌≡◌, length}
use Rattle.torus.specs.Bytes.{words}
use Rattle.torus.proofs.Parts.{length_words, words_word}
use Rattle.ring.proofs.Degrees.{degree_pos}
use Rattle.rns.proofs.Words.{product_added}
use Rattle.rns.proofs.add_product_in.Goals as goal

pub returns : goal.returns
returns c =
    let h = c.requires in
    let first = c.read_product.new.a in
    let one : length first ≡ c.args.n = omega (arith, h.1) in
    product_added c.args.n (words c.args.small.now) (words c.args.row.now) first c.read_product-2.new.a (words c.args.out.now) _ (degree_pos _ h.0.degree) h.0.degree.most h.0.small_words
    (words_word _ (λ i. (c.type_inv.small i).fits)) (words_word _ (λ i. (c.type_inv.row i).fits))
    c.read_product.ensures.0 c.read_product-2.ensures.0 (omega (arith, length_words c.args.out.now, h.0.out_length)) (rw one at c.add_words.ensures)
