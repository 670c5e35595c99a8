-- `trlwe::rotate` meets its contract. The loop's invariant: the first c polynomials are rotated. Assumes nothing.
use Rattle.std.proofs.Common.{arith, ap, take, drop, ◌∙◌, ◌≡◌, suc, ◌+◌, ◌*◌, ◌-◌, ◌≤◌, ◌<◌}
use Rattle.torus.specs.Sum.{tabulate}
use Rattle.torus.specs.Bytes.{words}
use Rattle.torus.proofs.Lists.{length_tabulate, tabulate_cong}
use Rattle.torus.proofs.Parts.{length_words}
use Rattle.torus.proofs.Joined.{written_none, written_more, written_all, chunk_inside}
use Rattle.ring.specs.Polynomial.{coefficients, rotated}
use Rattle.ring.proofs.Rotation.{rotated_agree}
use Rattle.trlwe.specs.Sample.{polynomials, rotated_sample}
use Rattle.trlwe.proofs.Masks.{part_lent}
use Rattle.trlwe.proofs.rotate.Invariants.{made}
use Rattle.trlwe.proofs.rotate.Goals as goal

pub loop-c-init : goal.loop-c-init
loop-c-init c = let s = c.args in written_none s.n (made s.n s.r s.sample.now) (words s.out.now)

pub loop-c-preserved : goal.loop-c-preserved
loop-c-preserved c =
    let a = c.args in
    let at = c.loop-c in
    let q = 4 * a.n in
    let p = at.c * q in
    let f = made a.n a.r a.sample.now in
    let lt : at.c < suc a.k = omega arith in
    -- The polynomial of a turn lies inside.
    let inside : p + q ≤ 4 * (suc a.k * a.n) = omega (arith, chunk_inside at.c (suc a.k) a.n lt) in
    written_more a.n at.c p (p + q - p) f (words a.out.now) at.out (λ d l. length_tabulate a.n _) at.invariant (omega arith) (omega arith) _
    (omega arith) (omega arith)
    (c.rotate.ensures
    ∙ ap (λ m. tabulate m (rotated m a.r (coefficients (words (take (p + q - p) (drop p a.sample.now)))))) {x = _} {y = a.n} (omega arith)
    ∙ tabulate_cong a.n _ _ (rotated_agree a.n a.r c.requires.3 (part_lent a.n at.c p (p + q - p) a.sample.now (omega arith) (omega arith))))

pub returns : goal.returns
unfolding rotated_sample polynomials
returns c =
    let s = c.args in
    let at = c.loop-c in
    let f = made s.n s.r s.sample.now in
    let e : at.c ≡ suc s.k = omega arith in
    written_all s.n (suc s.k) f (words s.out.now) (words at.out) (omega (arith, length_words s.out.now)) (rw e at at.invariant)
