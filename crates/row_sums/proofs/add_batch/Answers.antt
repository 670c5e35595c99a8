-- `row_sums::add_batch` meets its contract. Assumes nothing.
use Rattle.std.proofs.Common.{arith, ◌≡◌, suc, ◌*◌, length}
use Rattle.torus.specs.Bytes.{words}
use Rattle.torus.proofs.Parts.{length_words, words_word}
use Rattle.ring.proofs.Degrees.{degree_pos}
use Rattle.row_sums.proofs.Batches.{terms_added}
use Rattle.row_sums.proofs.add_batch.Goals as goal

pub returns : goal.returns
returns c =
    let out = c.args.out.now in
    let b = c.args.batch.now in
    let t = b.terms in
    let first = c.read_terms.new.a in
    let size : length first ≡ suc t.k * t.n = omega arith in
    terms_added t.n t.k t.gadget.g t.gadget.l (words t.block.now) (words t.x.now) first c.read_terms-2.new.a (words out) _ b.from b.count t.gadget.lawful
    (words_word t.block.now c.are_bytes.ensures) c.requires.2 c.read_terms.ensures.0 c.read_terms-2.ensures.0 (degree_pos t.n t.degree)
    (omega (arith, length_words out, c.requires.0)) (rw size at c.add_words.ensures)
