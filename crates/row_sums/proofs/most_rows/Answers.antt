-- `row_sums::most_rows` meets its contract. Assumes nothing.
use Rattle.std.proofs.Common.{arith, ◌*◌, ◌/◌, ◌≤◌, ◌<◌}
use Rattle.std.proofs.Math.Nat.{mul-le-mul_right}
use Rattle.gadget.specs.Digits.{half}
use Rattle.ring.proofs.Degrees.{degree_pos}
use Rattle.row_sums.proofs.Batches.{most_fits, row_room}
use Rattle.row_sums.proofs.most_rows.Goals as goal

pub nonzero_div-terms : goal.nonzero_div-terms
nonzero_div-terms c =
    let t = c.args.terms.now in
    rw c.half.ensures (row_room t.n t.gadget.g (degree_pos t.n t.degree) t.degree.most t.gadget.lawful.high).0

pub returns : goal.returns
returns c =
    let t = c.args.terms.now in
    let d = row_room t.n t.gadget.g (degree_pos t.n t.degree) t.degree.most t.gadget.lawful.high in
    let m = 268415999 / (t.n * c.half.result) in
    let fits : (0 < m) × (m * (t.n * half t.gadget.g) ≤ 268415999) = rw c.half.ensures (most_fits (t.n * half t.gadget.g) d.0 d.1) in
    let below : c.min.result ≤ m = omega arith in
    (omega arith, omega arith, omega (arith, fits.1, mul-le-mul_right (t.n * half t.gadget.g) below))
