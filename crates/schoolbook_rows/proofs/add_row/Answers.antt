-- `schoolbook_rows::add_row` meets its contract. Assumes nothing.
use Rattle.std.proofs.Common.{arith, ◌≡◌, ℕ, suc, ◌+◌, ◌*◌, ◌-◌, ◌≤◌, ◌<◌, List, refl, ap₂, ◌∙◌}
use Rattle.torus.specs.Sum.{chunk}
use Rattle.torus.specs.Bytes.{words}
use Rattle.torus.proofs.Lists.{length_tabulate}
use Rattle.torus.proofs.Parts.{length_words, words_lent}
use Rattle.torus.proofs.Joined.{Each, written_none, written_lent, written_more, written_all, chunk_inside}
use Rattle.ring.specs.Polynomial.{add_product}
use Rattle.schoolbook_rows.proofs.add_row.Goals as goal

-- Polynomial c of the result.
abbrev made : (n : ℕ) (out small row : List ℕ) (c : ℕ) → List ℕ
made n out small row c = add_product n (chunk n c (words out)) (words small) (chunk n c (words row))

each : (n : ℕ) (out small row : List ℕ) (m : ℕ) → Each m n (made n out small row)
unfolding add_product
each n out small row m c l = length_tabulate n _

pub loop-c-init : goal.loop-c-init
loop-c-init c =
    let s = c.args in
    (refl, refl, written_none s.n (made s.n s.out.now s.small.now s.row.now) (words s.out.now))

pub loop-c-preserved : goal.loop-c-preserved
loop-c-preserved c =
    let s = c.args in
    let at = c.loop-c in
    let p = at.c * (4 * s.n) in
    let l : at.c < suc s.k = omega arith in
    let inside : p + 4 * s.n ≤ 4 * (suc s.k * s.n) = omega (arith, chunk_inside at.c (suc s.k) s.n l) in
    let f = made s.n s.out.now s.small.now s.row.now in
    let lent : words _ ≡ chunk s.n at.c (words s.out.now) =
    written_lent s.n at.c p (p + 4 * s.n - p) f (words s.out.now) at.out (each _ _ _ _ _) at.invariant.2 (omega arith) (omega arith) in
    let row : words _ ≡ chunk s.n at.c (words s.row.now) = words_lent (at.c * s.n) s.n p (p + 4 * s.n - p) s.row.now (omega arith) (omega arith) in (
      omega arith,
      omega arith,
      written_more s.n at.c p (p + 4 * s.n - p) f (words s.out.now) at.out (each _ _ _ _ _) at.invariant.2 (omega arith) (omega arith) _
          (omega arith) (omega arith)
          (c.add_sparse_product_in.ensures ∙ ap₂ (λ o r. add_product s.n o (words s.small.now) r) lent row),
    )

pub returns : goal.returns
returns c =
    let s = c.args in
    let at = c.loop-c in
    let e : at.c ≡ suc s.k = omega arith in
    written_all s.n (suc s.k) (made s.n s.out.now s.small.now s.row.now) (words s.out.now) (words at.out)
    (omega (arith, length_words s.out.now)) (rw e at at.invariant.2)
