-- One product more in the leaves, and the way back.
-- Assumes nothing.
use mathlib.Core.Path.{◌≡◌, ap}
use mathlib.Core.List.{List}
use Prim.Native.Nat.{ℕ, suc, ◌+◌, ◌*◌, ◌-◌, ◌^◌, ◌≤◌, ◌<◌}
use native.Mathlib.Nat.{mul-one, mul-le-mul}
use native.Mathlib.Omega.{arith}
use lib.ListN.{get_or, length}
use Rattle.ring.specs.Polynomial.{coefficients}
use Rattle.ring.proofs.Poly.{Poly, ◌⊕◌, mul}
use Rattle.ring.proofs.Terms.{mul_at}
use Rattle.butterflies.specs.Same.{Same}
use Rattle.ntt.specs.Nodes.{At, Rooted}
use Rattle.butterflies.specs.Butterflies.{Below, Stored}
use Rattle.ntt.specs.Transforms.{Leaves, Down, Up}
use Rattle.butterflies.proofs.SameLaws.{same_refl, same_trans, same_path, same_times, same_scale, same_add}
use Rattle.ntt.proofs.NodeLaws.{at_mul, at_add, at_cong, at_end}
use Rattle.butterflies.proofs.StoredLaws.{stored_below}
use Rattle.residues.specs.Residues.{residues, Lifted, Summed, Scaled}
use Rattle.held_sums.specs.Sums.{product_modulo, More, MoreRow, Back}

-- The product of the contracts is that of the ring laws.
pub product_modulo_mul : (p N : ℕ) (y b : Poly) (i : ℕ) → i < N → mul (p - 1) N y b i ≡ product_modulo p N y b i
unfolding product_modulo
product_modulo_mul p N y b i l = mul_at (p - 1) N y b i l

-- Residues modulo a prime below 2^30 are below that.
pub below_limit : {p : ℕ} (l : List ℕ) → p < 1073741824 → Below p l → Below 1073741824 l
below_limit l few h i li = let x = h i li in omega arith

module _ (p n : ℕ) (t : List ℕ) (pos : 0 < p) (R : Rooted p (p - 1) n (coefficients t)) where
  -- Lifted words, transformed.
  pub lifted_leaves : (ws a b c : List ℕ) → length a ≡ 2 ^ n → Stored (Lifted p ws) (length a) a b → Down p n t n b c
      → Leaves p n t (residues p (coefficients ws)) c
  unfolding Down residues
  lifted_leaves ws a b c e s d = d _ (λ k l. (s.done k (rw e l)).1)

  -- Products of leaves, added place by place.
  pub summed_more : (ws f g a c : List ℕ) → length a ≡ 2 ^ n → length f ≡ length a → length g ≡ length a
      → p ≤ 1073741824 → Below p f → Below p g
      → Leaves p n t (residues p (coefficients ws)) g → Stored (Summed a f g) (length a) a c → More p n t f ws a c
  unfolding ◌⊕◌
  summed_more ws f g a c e lf lg few bf bg hg s = record {
    leaves = λ S Y hf h_s.
        let o : suc (p - 1) ≡ p = omega arith in
        at_cong p (p - 1) n (coefficients t) 1 n (S ⊕ mul (p - 1) (2 ^ n) Y (residues p (coefficients ws))) _ (coefficients c) (omega arith)
        (λ k l. same_add (same_refl (S k)) (same_path (product_modulo_mul p (2 ^ n) Y (residues p (coefficients ws)) k l)))
        (at_add p (p - 1) n (coefficients t) S (mul (p - 1) (2 ^ n) Y (residues p (coefficients ws))) (coefficients a)
        (λ k. get_or f k 0 * get_or g k 0) (coefficients c) h_s
        (at_mul p (p - 1) n (coefficients t) o R Y (residues p (coefficients ws)) (coefficients f) (coefficients g) (λ k. get_or f k 0 * get_or g k 0)
        hf hg (λ k l. same_refl _))
        (λ k l. same_path (s.done k (rw e l))));
    within = λ r h k l.
        let lk : k < length a = rw s.len at l in
        let x : get_or f k 0 ≤ 1073741824 = (let y = bf k (rw lf lk) in omega arith) in
        let z : get_or g k 0 ≤ 1073741824 = (let y = bg k (rw lg lk) in omega arith) in
        rw (s.done k lk) (omega (arith, h k lk, mul-le-mul x z));
  }

-- The leaves of the words y, made first.
pub more_row : (p n : ℕ) (t y f b a c : List ℕ) → Leaves p n t (residues p (coefficients y)) f → More p n t f b a c → MoreRow p n t y b a c
more_row p n t y f b a c h m = record { leaves = λ S. m.leaves S (residues p (coefficients y)) h; within = m.within }

-- Sums reduced, all levels up, and the factor 2^n taken away.
pub scaled_back : (p n w : ℕ) (t s a b c : List ℕ)
    → length a ≡ 2 ^ n → length b ≡ 2 ^ n → Same p (2 ^ n * w) 1 → ((k : ℕ) → k < 2 ^ n → Same p (get_or a k 0) (get_or s k 0))
    → Up p n t 0 a b → Stored (Scaled p w b) (length b) b c → Back p n t s c
unfolding Up At
scaled_back p n w t s a b c la lb last r u e = record {
  is = λ S H k l.
      let z : n - 0 ≡ n = omega arith in
      let H' : Leaves p n t S a = λ j i lj li. same_trans (r _ (leaf j i lj li)) (H j i lj li) in
      let h : (k : ℕ) → k < 2 ^ n → Same p (get_or b k 0) (2 ^ (n - 0) * S k) =
      at_end p (p - 1) n (coefficients t) (2 ^ (n - 0)) S (coefficients b) (u S H') in
      let g : Same p (get_or b k 0) (2 ^ n * S k) = rw z at (h k l) in
      same_trans (e.done k (rw lb l)).1
      (same_trans (same_times g w) (same_trans (same_path (let f : 2 ^ n * S k * w ≡ S k * (2 ^ n * w) = omega arith in f))
      (same_trans (same_scale (S k) last) (same_path (mul-one (S k))))));
  below = stored_below e (λ k v x. x.0);
}
  where
    leaf : (j i : ℕ) → j < 2 ^ n → i < 2 ^ (n - n) → j * 2 ^ (n - n) + i < 2 ^ n
    leaf j i lj li =
        let f : 2 ^ (n - n) ≡ 1 = ap (λ x. 2 ^ x) (let g : n - n ≡ 0 = omega arith in g) in
        let l : i < 1 = rw f at li in
        rw f (omega arith)
