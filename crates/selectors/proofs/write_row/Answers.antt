-- `selectors::write_row` meets its contract. Assumes nothing.
use Rattle.std.proofs.Common.{arith, ◌≡◌, suc, ◌+◌, ◌*◌, ◌-◌, ◌/◌, length, get_or, ap₂, ◌∙◌}
use Rattle.torus.specs.Sum.{tabulate}
use Rattle.torus.specs.Word.{add}
use Rattle.torus.specs.Bytes.{words}
use Rattle.torus.proofs.Parts.{length_words, words_lent}
use Rattle.torus.proofs.Joined.{chunk_inside}
use Rattle.ring.proofs.Degrees.{degree_pos}
use Rattle.trlwe.specs.Sample.{encryption}
use Rattle.trgsw.specs.Parameters.{key_size, sample_size, row_count}
use Rattle.trgsw.specs.Block.{gadget_row}
use Rattle.selectors.specs.Encrypted.{encrypted_row}
use Rattle.row_terms.proofs.RowLaws.{component_lt}
use Rattle.selectors.proofs.write_row.Goals as goal

-- The row's masks and errors lie inside.
pub overflow_mul-a : goal.overflow_mul-a
overflow_mul-a c = let s = c.args in omega (arith, chunk_inside s.r (row_count s.p) (key_size s.p) c.requires.1, c.requires.0.masks_length)

pub overflow_add-zero : goal.overflow_add-zero
overflow_add-zero c = let s = c.args in omega (arith, chunk_inside s.r (row_count s.p) (key_size s.p) c.requires.1, c.requires.0.masks_length)

pub slice_bounds-zero-end : goal.slice_bounds-zero-end
slice_bounds-zero-end c = let s = c.args in omega (arith, chunk_inside s.r (row_count s.p) (key_size s.p) c.requires.1, c.requires.0.masks_length)

pub slice_bounds-zero-end-2 : goal.slice_bounds-zero-end-2
slice_bounds-zero-end-2 c = let s = c.args in omega (arith, chunk_inside s.r (row_count s.p) s.p.N c.requires.1, c.requires.0.errors_length)

-- The word to which the step is added lies in the row.
pub add_gadget-requires : goal.add_gadget-requires
add_gadget-requires c =
    let s = c.args in
    let inside = chunk_inside (s.r / s.p.L) (suc s.p.k) s.p.N (component_lt s.p.k s.p.L s.r c.requires.1) in
    (c.requires.0.lawful, c.requires.0.bit, omega (arith, inside, degree_pos s.p.N c.requires.0.key_fits.degree))

pub returns : goal.returns
unfolding encrypted_row
returns c =
    let s = c.args in
    let zero = c.encrypt_zero in
    let q = s.p.k * (4 * s.p.N) in
    let p = s.r * q in
    let e = s.r * (4 * s.p.N) in
    let size : length (words zero.new.sample) ≡ sample_size s.p = omega (arith, length_words zero.new.sample) in
    c.add_gadget.ensures
    ∙ ap₂ (λ w row. tabulate w (λ t. add (get_or row t 0) (gadget_row s.p s.lent.now.bit s.r t))) size
    (zero.ensures ∙ ap₂ (λ a b. encryption s.p.N s.p.k (words s.lent.now.key.now) a b (λ i. 0))
    (words_lent (s.r * key_size s.p) (key_size s.p) p (p + q - p) s.lent.now.masks.now (omega arith) (omega arith))
    (words_lent (s.r * s.p.N) s.p.N e (e + 4 * s.p.N - e) s.lent.now.errors.now (omega arith) (omega arith)))
