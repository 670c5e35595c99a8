-- A polynomial modulo X^(2h) - w² splits into one modulo X^h - w, and one modulo X^h + w.
-- Assumes nothing.
use mathlib.Core.Path.{◌≡◌, refl, ap, ◌∙◌, fun_ext}
use Prim.Native.Nat.{ℕ, zero, suc, ◌+◌, ◌*◌, ◌-◌, ◌<◌}
use native.Mathlib.Nat.{add-zero, add-suc, mul-one, add-sub_cancel_left, le_refl}
use native.Mathlib.Omega.{arith}
use Rattle.torus.specs.Sum.{sum}
use Rattle.torus.proofs.Sums.{sum_cong, sum_append}
use Rattle.ring.specs.Polynomial.{Agree}
use Rattle.ring.proofs.Poly.{Poly, ◌⊕◌, ◌⊙◌, nil, psum, Linear, psum_linear, rot, rotn, mul, rotn_linear}
use Rattle.ring.proofs.Terms.{rotn_agree, rotn_high}
use Rattle.butterflies.specs.Same.{Same, Cong}
use Rattle.ntt.specs.Nodes.{part}
use Rattle.butterflies.proofs.SameLaws.{same_refl, same_sym, same_add, same_mul, same_scale, same_sum, same_trans, same_path, cong_trans}

pub part_linear : (w h : ℕ) → Linear (part w h)
unfolding part ◌⊕◌ ◌⊙◌ nil
part_linear w h = record {
  on_add = λ p q. fun_ext λ k. omega arith;
  on_scale = λ c p. fun_ext λ k. omega arith;
  on_nil = fun_ext λ k. omega arith;
}

-- It takes times X to times X.
pub part_rot : (w g : ℕ) (p : Poly) → part w (suc g) (rot (w * w) (suc g + suc g) p) ≡ rot w (suc g) (part w (suc g) p)
unfolding part rot
part_rot w g p =
    let e : suc g + suc g - 1 ≡ suc g + g = omega arith in
    let f : suc g - 1 ≡ g = omega arith in
    fun_ext (elim [
      | zero ↦ rw (add-zero (suc g), e, f) (omega arith)
      | suc k ↦ rw (add-suc (suc g) k)
    ])

pub part_rotn : (w g i : ℕ) (p : Poly) → part w (suc g) (rotn (w * w) (suc g + suc g) i p) ≡ rotn w (suc g) i (part w (suc g) p)
unfolding rotn
part_rotn w g zero p = refl
part_rotn w g (suc i) p = part_rot w g _ ∙ ap (rot w (suc g)) (part_rotn w g i p)

module _ (w h : ℕ) where
  pub rotn_add : (i : ℕ) (q : Poly) → rotn w h (h + i) q ≡ rotn w h i (rotn w h h q)
  unfolding rotn
  rotn_add zero q = rw add-zero
  rotn_add (suc i) q = rw add-suc (ap (rot w h) (rotn_add i q))

  pub rotn_whole : (q : Poly) → Agree h (rotn w h h q) (w ⊙ q)
  unfolding ◌⊙◌
  rotn_whole q k l = rotn_high w h h q k l (le_refl h) ∙ ap (λ j. w * q j) (add-sub_cancel_left h k)

  pub rotn_past : (i : ℕ) (q : Poly) (k : ℕ) → k < h → rotn w h (h + i) q k ≡ w * rotn w h i q k
  unfolding ◌⊙◌
  rotn_past i q k l = ap (λ r. r k) (rotn_add i q) ∙ rotn_agree w h i (rotn_whole q) k l ∙ ap (λ r. r k) ((rotn_linear w h i).on_scale w q)

gather : (n w : ℕ) (a b R : ℕ → ℕ) → sum n (λ i. a i * R i) + sum n (λ i. b i * (w * R i)) ≡ sum n (λ i. (a i + w * b i) * R i)
unfolding sum
gather zero w a b R = refl
gather (suc n) w a b R = omega (arith, gather n w a b R)

-- Splitting respects the product: exactly, over the numbers.
pub split_mul : (w g : ℕ) (a b : Poly) → Agree (suc g) (part w (suc g) (mul (w * w) (suc g + suc g) a b)) (mul w (suc g) (part w (suc g) a) (part w (suc g) b))
unfolding mul ◌⊙◌ part psum
split_mul w g a b k l =
    let R : ℕ → ℕ = λ i. rotn w (suc g) i (part w (suc g) b) k in
    ap (λ q. q k) (psum_linear (part_linear w (suc g)) (suc g + suc g) (λ i. a i ⊙ rotn (w * w) (suc g + suc g) i b))
    ∙ sum_cong (suc g + suc g) _ (λ i. a i * rotn w (suc g) i (part w (suc g) b) k)
    (λ i _. ap (λ q. q k) ((part_linear w (suc g)).on_scale (a i) (rotn (w * w) (suc g + suc g) i b)) ∙ ap (λ q. a i * q k) (part_rotn w g i b))
    ∙ sum_append (suc g) (suc g) _
    ∙ ap (λ x. sum (suc g) (λ i. a i * R i) + x) (sum_cong (suc g) _ _ (λ i _. ap (λ x. a (suc g + i) * x) (rotn_past w (suc g) i (part w (suc g) b) k l)))
    ∙ gather (suc g) w a (λ i. a (suc g + i)) R

module _ {p z z' : ℕ} (N : ℕ) (e : Same p z z') where
  pub rot_cong : {a b : Poly} → Cong p N a b → Cong p N (rot z N a) (rot z' N b)
  unfolding rot
  rot_cong h zero l = same_mul e (h (N - 1) (omega arith))
  rot_cong h (suc k) l = h k (omega arith)

  pub rotn_cong : (i : ℕ) {a b : Poly} → Cong p N a b → Cong p N (rotn z N i a) (rotn z' N i b)
  unfolding rotn
  rotn_cong zero h = h
  rotn_cong (suc i) h = rot_cong (rotn_cong i h)

  -- A product depends, modulo p, on its factors and on z modulo p alone.
  pub mul_cong : {a b c d : Poly} → Cong p N a b → Cong p N c d → Cong p N (mul z N a c) (mul z' N b d)
  unfolding mul ◌⊙◌ psum
  mul_cong {a} {b} {c} {d} h g k l =
      same_sum N {f = λ i. a i * rotn z N i c k} {g = λ i. b i * rotn z' N i d k} (λ i li. same_mul (h i li) (rotn_cong i g k l))

pub part_cong : {p w w' : ℕ} (h : ℕ) {a b : Poly} → Same p w w' → Cong p (h + h) a b → Cong p h (part w h a) (part w' h b)
unfolding part
part_cong h e f k l = same_add (f k (omega arith)) (same_mul e (f (h + k) (omega arith)))

split_at : (w h : ℕ) (a b : Poly) → 0 < h → Agree h (part w h (mul (w * w) (h + h) a b)) (mul w h (part w h a) (part w h b))
split_at w zero a b pos k l = omega arith
split_at w (suc g) a b pos k l = split_mul w g a b k l

-- Splitting respects the product, modulo p, where w is a root of r modulo p.
pub split : {p : ℕ} (r w h : ℕ) (a b : Poly) → 0 < h → Same p (w * w) r
    → Cong p h (part w h (mul r (h + h) a b)) (mul w h (part w h a) (part w h b))
split r w h a b pos e = cong_trans
    (part_cong h (same_refl w) (mul_cong (h + h) (same_sym e) (λ k l. same_refl _) (λ k l. same_refl _)))
    (λ k l. same_path (split_at w h a b pos k l))

-- Undo: from both parts, times m, follow twice the coefficients, times m. z is - 1.
module _ (p z : ℕ) (o : suc z ≡ p) (m w x y u v : ℕ) (hu : Same p u (m * (x + w * y))) (hv : Same p v (m * (x + z * w * y))) where
  pub undo_low : Same p (u + v) (2 * m * x)
  undo_low = same_trans (same_add hu hv) (record { s = 0; t = m * w * y; same = omega (arith, ap (λ n. m * w * y * n) o) })

  pub undo_high : (iw : ℕ) → Same p (iw * w) 1 → Same p (iw * (u + z * v)) (2 * m * y)
  undo_high iw e = same_trans (same_scale iw (same_add hu (same_scale z hv)))
      (same_trans (record {
        s = iw * m * w * y;
        t = iw * m * x + iw * m * w * y * z;
        same = omega (arith, ap (λ n. (iw * m * x + iw * m * w * y * z) * n) o, ap (λ n. iw * m * w * y * n) o);
      })
      (same_trans (same_scale (2 * m * y) e) (same_path (mul-one (2 * m * y)))))
