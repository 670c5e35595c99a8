-- `schoolbook_rows::add_row` meets its contract. The loop's invariant: the first c polynomials are done. Assumes nothing.
use Rattle.std.proofs.Common.{◌≡◌, length}
use Rattle.torus.specs.Sum.{chunk}
use Rattle.torus.specs.Bytes.{words}
use Rattle.torus.proofs.Joined.{Written}
use Rattle.ring.specs.Polynomial.{add_product}
use Rattle.schoolbook_rows.proofs.add_row.Given as goal

abbrev pub invariant-loop-c : goal.invariant-loop-c
invariant-loop-c l =
    (length l.out ≡ length l.fn.out) × (length l.room ≡ length l.fn.room)
    × Written l.n l.c (λ c. add_product l.n (chunk l.n c (words l.fn.out)) (words l.small) (chunk l.n c (words l.row))) (words l.fn.out) (words l.out)
