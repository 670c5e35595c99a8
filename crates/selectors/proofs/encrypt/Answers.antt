-- `selectors::encrypt` meets its contract. The loop's invariant: the first r rows are written. Assumes nothing.
use Rattle.std.proofs.Common.{arith, ◌≡◌, ℕ, ◌+◌, ◌*◌, ◌-◌, ◌<◌, List}
use Rattle.torus.specs.Bytes.{words}
use Rattle.torus.proofs.Parts.{length_words}
use Rattle.torus.proofs.Joined.{Each, written_none, written_more, written_all, chunk_inside}
use Rattle.trgsw.specs.declared.Parameters.{Parameters}
use Rattle.trgsw.specs.Parameters.{sample_size, row_count}
use Rattle.selectors.specs.Encrypted.{encrypted_block}
use Rattle.selectors.proofs.Encrypted.{length_row}
use Rattle.selectors.proofs.encrypt.Invariants.{made}
use Rattle.selectors.proofs.encrypt.Goals as goal

each : (p : Parameters) (m : ℕ) (key masks errors : List ℕ) (q : ℕ) → Each q (sample_size p) (made p m key masks errors)
each p m key masks errors q r h = length_row p m (words key) _ _ r

pub loop-r-init : goal.loop-r-init
loop-r-init c =
    let s = c.args in
    let f = made s.p s.lent.now.bit s.lent.now.key.now s.lent.now.masks.now s.lent.now.errors.now in
    written_none (sample_size s.p) f (words s.block.now)

-- The row of a turn lies inside.
pub overflow_mul-at : goal.overflow_mul-at
overflow_mul-at c =
    let s = c.args in
    let lt : c.loop-r.r < row_count s.p = omega arith in
    omega (arith, chunk_inside c.loop-r.r (row_count s.p) (sample_size s.p) lt)

pub overflow_add-at : goal.overflow_add-at
overflow_add-at c =
    let s = c.args in
    let lt : c.loop-r.r < row_count s.p = omega arith in
    omega (arith, chunk_inside c.loop-r.r (row_count s.p) (sample_size s.p) lt)

pub slice_bounds-write_row-end : goal.slice_bounds-write_row-end
slice_bounds-write_row-end c =
    let s = c.args in
    let lt : c.loop-r.r < row_count s.p = omega arith in
    omega (arith, chunk_inside c.loop-r.r (row_count s.p) (sample_size s.p) lt)

pub loop-r-preserved : goal.loop-r-preserved
loop-r-preserved c =
    let s = c.args in
    let at = c.loop-r in
    let lt : at.r < row_count s.p = omega arith in
    let inside = chunk_inside at.r (row_count s.p) (sample_size s.p) lt in
    let q = (s.p.k + 1) * (4 * s.p.N) in
    let p = at.r * q in
    let f = made s.p s.lent.now.bit s.lent.now.key.now s.lent.now.masks.now s.lent.now.errors.now in
    written_more (sample_size s.p) at.r p (p + q - p) f (words s.block.now) at.block (each _ _ _ _ _ _) at.invariant (omega arith) (omega arith) _
    (omega (arith, inside)) (omega arith) c.write_row.ensures

pub returns : goal.returns
unfolding encrypted_block
returns c =
    let s = c.args in
    let at = c.loop-r in
    let f = made s.p s.lent.now.bit s.lent.now.key.now s.lent.now.masks.now s.lent.now.errors.now in
    let e : at.r ≡ row_count s.p = omega arith in
    written_all (sample_size s.p) (row_count s.p) f (words s.block.now) (words at.block) (omega (arith, length_words s.block.now)) (rw e at at.invariant)
