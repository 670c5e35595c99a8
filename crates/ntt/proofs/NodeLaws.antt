-- Laws of the tree: a level down, a level up, products and sums of leaves.
-- Assumes nothing.
use mathlib.Core.Path.{◌≡◌, refl, ap, ap₂, sym, ◌∙◌, subst}
use mathlib.Core.Logic.{◌⊎◌, inl, inr}
use Prim.Native.Nat.{ℕ, zero, suc, ◌+◌, ◌*◌, ◌-◌, ◌/◌, ◌%◌, ◌^◌, ◌≤◌, ◌<◌}
use native.Mathlib.Nat.{two-pow-succ, zero-add, add_assoc, one-mul, lt_of_not-le, lt_of_lt_of_le, mul-add}
use native.Mathlib.Decide.{dec_le}
use native.Mathlib.Omega.{arith}
use lib.Pow.{pow_pos, pow_mono}
use Rattle.torus.specs.Sum.{sum}
use Rattle.ring.proofs.Poly.{Poly, ◌⊕◌, ◌⊙◌, nil, psum, rotn, mul}
use Rattle.butterflies.specs.Same.{Same, Cong}
use Rattle.ntt.specs.Nodes.{part, signed, node, At, Rooted}
use Rattle.butterflies.proofs.SameLaws.{same_refl, same_sym, same_trans, same_path, same_add, same_mul, same_scale, cong_trans}
use Rattle.ntt.proofs.Split.{part_linear, part_cong, split, undo_low, undo_high}

-- (- w)·(- w) = w·w
neg_square : (p z : ℕ) → suc z ≡ p → (w : ℕ) → Same p (z * w * (z * w)) (w * w)
neg_square p z o w = record { s = w * w; t = z * (w * w); same = omega (arith, ap (λ n. w * w * n) o, ap (λ n. z * (w * w) * n) o) }

-- 2^(n - d), of which there is twice as much a level up.
pub halves : (n d : ℕ) → d < n → 2 ^ (n - d) ≡ 2 ^ (n - suc d) + 2 ^ (n - suc d)
halves n d l = let e : n - d ≡ suc (n - suc d) = omega arith in rw e (two-pow-succ (n - suc d))

module _ (p z n : ℕ) (t : ℕ → ℕ) where
  pub node_even : (a : Poly) (d j : ℕ) → node z n t a (suc d) (2 * j) ≡ part (t (2 ^ d + j)) (2 ^ (n - suc d)) (node z n t a d j)
  unfolding node signed
  node_even a d j =
      let e : 2 * j % 2 ≡ 0 = omega arith in
      let f : 2 * j / 2 ≡ j = omega arith in
      rw (e, f)

  pub node_odd : (a : Poly) (d j : ℕ) → node z n t a (suc d) (2 * j + 1) ≡ part (z * t (2 ^ d + j)) (2 ^ (n - suc d)) (node z n t a d j)
  unfolding node signed
  node_odd a d j =
      let e : (2 * j + 1) % 2 ≡ 1 = omega arith in
      let f : (2 * j + 1) / 2 ≡ j = omega arith in
      rw (e, f)

  pub at_start : (a A : Poly) → Cong p (2 ^ n) A a → At p z n t 1 0 a A
  unfolding At node
  at_start a A h j k lj lk =
      let g : j ≡ 0 = omega arith in
      let e : n - 0 ≡ n = omega arith in
      let f : j * 2 ^ (n - 0) + k ≡ k = rw g (omega arith) in
      same_trans (same_path (ap A f)) (same_trans (h k (rw e at lk)) (same_path (sym (one-mul (a k)))))

  parity : (j : ℕ) → (j ≡ 2 * (j / 2)) ⊎ (j ≡ 2 * (j / 2) + 1)
  parity j = go (dec_le (j % 2) 0)
    where
      go : Dec (j % 2 ≤ 0) → (j ≡ 2 * (j / 2)) ⊎ (j ≡ 2 * (j / 2) + 1)
      go (yes g) = inl (omega arith)
      go (no g) = let f = lt_of_not-le g in inr (omega arith)

  module _ (m d : ℕ) (l : d < n) (a A B : Poly) where
    abbrev h : ℕ
    h = 2 ^ (n - suc d)

    -- A level down: what a pass over the level does.
    module _ (H : At p z n t m d a A)
        (lo : (j k : ℕ) → j < 2 ^ d → k < h → Same p (B (j * (h + h) + k)) (A (j * (h + h) + k) + t (2 ^ d + j) * A (j * (h + h) + h + k)))
        (hi : (j k : ℕ) → j < 2 ^ d → k < h → Same p (B (j * (h + h) + h + k)) (A (j * (h + h) + k) + z * t (2 ^ d + j) * A (j * (h + h) + h + k))) where
      here : (j k : ℕ) → j < 2 ^ d → k < h + h → Same p (A (j * (h + h) + k)) (m * node z n t a d j k)
      unfolding At
      here = rw (halves n d l) at H

      there : (j k : ℕ) → j < 2 ^ d → k < h → Same p (A (j * (h + h) + h + k)) (m * node z n t a d j (h + k))
      there j k lj lk = same_trans (same_path (ap A (add_assoc _ h k))) (here j (h + k) lj (omega arith))

      down_even : (j k : ℕ) → j < 2 ^ d → k < h → Same p (B (2 * j * h + k)) (m * node z n t a (suc d) (2 * j) k)
      unfolding part
      down_even j k lj lk = rw (node_even a d j)
          (same_trans (same_path (ap B (omega arith)))
          (same_trans (lo j k lj lk)
          (same_trans (same_add (here j k lj (omega arith)) (same_scale (t (2 ^ d + j)) (there j k lj lk)))
          (same_path (omega arith)))))

      down_odd : (j k : ℕ) → j < 2 ^ d → k < h → Same p (B ((2 * j + 1) * h + k)) (m * node z n t a (suc d) (2 * j + 1) k)
      unfolding part
      down_odd j k lj lk = rw (node_odd a d j)
          (same_trans (same_path (ap B (omega arith)))
          (same_trans (hi j k lj lk)
          (same_trans (same_add (here j k lj (omega arith)) (same_scale (z * t (2 ^ d + j)) (there j k lj lk)))
          (same_path (omega arith)))))

      down_at : (j k : ℕ) → j < 2 ^ d + 2 ^ d → k < h → (j ≡ 2 * (j / 2)) ⊎ (j ≡ 2 * (j / 2) + 1) → Same p (B (j * h + k)) (m * node z n t a (suc d) j k)
      down_at j k lj lk (inl e) = subst (λ i. Same p (B (i * h + k)) (m * node z n t a (suc d) i k)) (sym e) (down_even (j / 2) k (omega arith) lk)
      down_at j k lj lk (inr e) = subst (λ i. Same p (B (i * h + k)) (m * node z n t a (suc d) i k)) (sym e) (down_odd (j / 2) k (omega arith) lk)

      pub at_down : At p z n t m (suc d) a B
      unfolding At
      at_down j k lj lk = down_at j k (rw (two-pow-succ d) at lj) lk (parity j)

    -- A level up.
    module _ (o : suc z ≡ p) (s : ℕ → ℕ) (inv : (j : ℕ) → j < 2 ^ d → Same p (s (2 ^ d + j) * t (2 ^ d + j)) 1)
        (H : At p z n t m (suc d) a A)
        (lo : (j k : ℕ) → j < 2 ^ d → k < h → Same p (B (j * (h + h) + k)) (A (j * (h + h) + k) + A (j * (h + h) + h + k)))
        (hi : (j k : ℕ) → j < 2 ^ d → k < h → Same p (B (j * (h + h) + h + k)) (s (2 ^ d + j) * (A (j * (h + h) + k) + z * A (j * (h + h) + h + k)))) where
      module _ (j k : ℕ) (lj : j < 2 ^ d) (lk : k < h) where
        even : Same p (A (j * (h + h) + k)) (m * (node z n t a d j k + t (2 ^ d + j) * node z n t a d j (h + k)))
        unfolding At part
        even = same_trans (same_path (ap A (omega arith))) (rw (node_even a d j) at (H (2 * j) k (rw (two-pow-succ d) (omega arith)) lk))

        odd : Same p (A (j * (h + h) + h + k)) (m * (node z n t a d j k + z * t (2 ^ d + j) * node z n t a d j (h + k)))
        unfolding At part
        odd = same_trans (same_path (ap A (omega arith))) (rw (node_odd a d j) at (H (2 * j + 1) k (rw (two-pow-succ d) (omega arith)) lk))

        up_low : Same p (B (j * (h + h) + k)) (2 * m * node z n t a d j k)
        up_low = same_trans (lo j k lj lk) (undo_low p z o m _ _ _ _ _ even odd)

        up_high : Same p (B (j * (h + h) + h + k)) (2 * m * node z n t a d j (h + k))
        up_high = same_trans (hi j k lj lk) (undo_high p z o m _ _ _ _ _ even odd (s (2 ^ d + j)) (inv j lj))

      up_at : (j k : ℕ) → j < 2 ^ d → k < h + h → Dec (h ≤ k) → Same p (B (j * (h + h) + k)) (2 * m * node z n t a d j k)
      up_at j k lj lk (no g) = up_low j k lj (lt_of_not-le g)
      up_at j k lj lk (yes g) =
          let e : h + (k - h) ≡ k = omega arith in
          let f : j * (h + h) + k ≡ j * (h + h) + h + (k - h) = omega arith in
          same_trans (same_path (ap B f)) (subst (λ i. Same p (B (j * (h + h) + h + (k - h))) (2 * m * node z n t a d j i)) e (up_high j (k - h) lj (omega arith)))

      pub at_up : At p z n t (2 * m) d a B
      unfolding At
      at_up = rw (halves n d l) (λ j k lj lk. up_at j k lj lk (dec_le h k))

  -- X^(2^(n-d)) at node j of level d.
  unfoldable pub root : ℕ → ℕ → ℕ
  root zero j = z
  root (suc d) j = signed z (j % 2) (t (2 ^ d + j / 2))

  rooted : Rooted p z n t → (d j : ℕ) → d < n → j < 2 ^ d → Same p (t (2 ^ d + j) * t (2 ^ d + j)) (root d j)
  unfolding root
  rooted R zero j l lj =
      let e : 2 ^ 0 + j ≡ 1 = omega arith in
      rw e (R.first (omega arith))
  rooted R (suc d) j l lj =
      let e : (2 ^ suc d + j) % 2 ≡ j % 2 = omega (arith, two-pow-succ d) in
      let f : (2 ^ suc d + j) / 2 ≡ 2 ^ d + j / 2 = omega (arith, two-pow-succ d) in
      rw (e, f) at (R.next (2 ^ suc d + j) (omega (arith, two-pow-succ d, pow_pos d)) (lt_of_lt_of_le (let g : 2 ^ suc d + j < 2 ^ suc (suc d) = omega (arith, two-pow-succ (suc d)) in g) (pow_mono l)))

  signed_square : suc z ≡ p → (b w : ℕ) → Same p (signed z b w * signed z b w) (w * w)
  unfolding signed
  signed_square o zero w = same_refl (w * w)
  signed_square o (suc b) w = neg_square p z o w

  node_mul_suc : suc z ≡ p → Rooted p z n t → (a b : Poly) (d j : ℕ) → d < n → j < 2 ^ suc d
      → Cong p (2 ^ (n - d)) (node z n t (mul z (2 ^ n) a b) d (j / 2)) (mul (root d (j / 2)) (2 ^ (n - d)) (node z n t a d (j / 2)) (node z n t b d (j / 2)))
      → Cong p (2 ^ (n - suc d)) (node z n t (mul z (2 ^ n) a b) (suc d) j) (mul (root (suc d) j) (2 ^ (n - suc d)) (node z n t a (suc d) j) (node z n t b (suc d) j))
  unfolding node root
  node_mul_suc o R a b d j l lj ih =
      let g : j / 2 < 2 ^ d = omega (arith, two-pow-succ d) in
      let ih' : Cong p (2 ^ (n - suc d) + 2 ^ (n - suc d)) (node z n t (mul z (2 ^ n) a b) d (j / 2)) (mul (root d (j / 2)) (2 ^ (n - suc d) + 2 ^ (n - suc d)) (node z n t a d (j / 2)) (node z n t b d (j / 2)))
      = rw (halves n d l) at ih in
      cong_trans (part_cong (2 ^ (n - suc d)) (same_refl _) ih')
      (split (root d (j / 2)) _ (2 ^ (n - suc d)) _ _ (pow_pos (n - suc d)) (same_trans (signed_square o (j % 2) _) (rooted R d (j / 2) l g)))

  -- The nodes of a product are the products of the nodes.
  pub node_mul : suc z ≡ p → Rooted p z n t → (a b : Poly) (d j : ℕ) → d ≤ n → j < 2 ^ d
      → Cong p (2 ^ (n - d)) (node z n t (mul z (2 ^ n) a b) d j) (mul (root d j) (2 ^ (n - d)) (node z n t a d j) (node z n t b d j))
  unfolding node root
  node_mul o R a b zero j l lj = let e : n - 0 ≡ n = omega arith in rw e (λ k lk. same_refl _)
  node_mul o R a b (suc d) j l lj = node_mul_suc o R a b d j l lj (node_mul o R a b d (j / 2) (omega arith) (omega (arith, two-pow-succ d)))

  one : (r : ℕ) (a b : Poly) → mul r 1 a b 0 ≡ a 0 * b 0
  unfolding mul psum sum ◌⊙◌ rotn
  one r a b = zero-add (a 0 * b 0)

  last_mul : suc z ≡ p → Rooted p z n t → (a b : Poly) (j : ℕ) → j < 2 ^ n
      → Cong p (2 ^ (n - n)) (node z n t (mul z (2 ^ n) a b) n j) (mul (root n j) (2 ^ (n - n)) (node z n t a n j) (node z n t b n j))
  last_mul o R a b j l = node_mul o R a b n j (omega arith) l

  module _ (a b A B C : Poly)
      (ha : (j k : ℕ) → j < 2 ^ n → k < 1 → Same p (A (j * 1 + k)) (1 * node z n t a n j k))
      (hb : (j k : ℕ) → j < 2 ^ n → k < 1 → Same p (B (j * 1 + k)) (1 * node z n t b n j k))
      (hm : (j : ℕ) → j < 2 ^ n → Cong p 1 (node z n t (mul z (2 ^ n) a b) n j) (mul (root n j) 1 (node z n t a n j) (node z n t b n j)))
      (hc : Cong p (2 ^ n) C (λ k. A k * B k)) where
    at_last : (j : ℕ) → j < 2 ^ n → Same p (C (j * 1 + 0)) (1 * node z n t (mul z (2 ^ n) a b) n j 0)
    at_last j l =
        let e : j * 1 + 0 ≡ j = omega arith in
        let x : Same p (A j) (1 * node z n t a n j 0) = rw e at (ha j 0 l (omega arith)) in
        let y : Same p (B j) (1 * node z n t b n j 0) = rw e at (hb j 0 l (omega arith)) in
        rw e (same_trans (hc j l) (same_trans (same_mul x y)
        (same_trans (same_path (ap₂ ◌*◌ (one-mul _) (one-mul _) ∙ sym (one (root n j) (node z n t a n j) (node z n t b n j))))
        (same_trans (same_sym (hm j l 0 (omega arith))) (same_path (sym (one-mul _)))))))

    at_all : (j k : ℕ) → j < 2 ^ n → k < 1 → Same p (C (j * 1 + k)) (1 * node z n t (mul z (2 ^ n) a b) n j k)
    at_all j zero lj lk = at_last j lj
    at_all j (suc k) lj lk = let f : ⊥ = omega arith in absurd f

  -- Lists that hold the last level of a and of b, multiplied place by place, hold that of the product.
  pub at_mul : suc z ≡ p → Rooted p z n t → (a b A B C : Poly) → At p z n t 1 n a A → At p z n t 1 n b B → Cong p (2 ^ n) C (λ k. A k * B k) → At p z n t 1 n (mul z (2 ^ n) a b) C
  unfolding At
  at_mul o R a b A B C ha hb hc =
      let e : n - n ≡ 0 = omega arith in
      let ha' : (j k : ℕ) → j < 2 ^ n → k < 1 → Same p (A (j * 1 + k)) (1 * node z n t a n j k) = rw e at ha in
      let hb' : (j k : ℕ) → j < 2 ^ n → k < 1 → Same p (B (j * 1 + k)) (1 * node z n t b n j k) = rw e at hb in
      let hm : (j : ℕ) → j < 2 ^ n → Cong p 1 (node z n t (mul z (2 ^ n) a b) n j) (mul (root n j) 1 (node z n t a n j) (node z n t b n j)) = rw e at (last_mul o R a b) in
      rw e (at_all a b A B C ha' hb' hm hc)

  pub at_end : (m : ℕ) (a A : Poly) → At p z n t m 0 a A → (k : ℕ) → k < 2 ^ n → Same p (A k) (m * a k)
  unfolding At node
  at_end m a A h k l =
      let e : n - 0 ≡ n = omega arith in
      let g : (j k : ℕ) → j < 1 → k < 2 ^ n → Same p (A (j * 2 ^ n + k)) (m * a k) = rw e at h in
      let f : 0 * 2 ^ n + k ≡ k = omega arith in
      rw f at (g 0 k (omega arith) l)

  node_add : (a b : Poly) (d j : ℕ) → node z n t (a ⊕ b) d j ≡ node z n t a d j ⊕ node z n t b d j
  unfolding node
  node_add a b zero j = refl
  node_add a b (suc d) j = ap (part _ _) (node_add a b d (j / 2)) ∙ (part_linear _ _).on_add _ _

  node_nil : (d j : ℕ) → node z n t nil d j ≡ nil
  unfolding node
  node_nil zero j = refl
  node_nil (suc d) j = ap (part _ _) (node_nil d (j / 2)) ∙ (part_linear _ _).on_nil

  -- What holds the last level of a and what holds that of b, added place by place, holds that of a + b.
  pub at_add : (a b A B C : Poly) → At p z n t 1 n a A → At p z n t 1 n b B → Cong p (2 ^ n) C (λ k. A k + B k) → At p z n t 1 n (a ⊕ b) C
  unfolding At ◌⊕◌
  at_add a b A B C ha hb hc j k lj lk =
      let e : n - n ≡ 0 = omega arith in
      let f : 2 ^ (n - n) ≡ 1 = ap (λ x. 2 ^ x) e in
      let l : k < 1 = rw f at lk in
      let i : j * 2 ^ (n - n) + k < 2 ^ n = rw f (omega arith) in
      same_trans (hc (j * 2 ^ (n - n) + k) i)
      (same_trans (same_add (ha j k lj lk) (hb j k lj lk))
      (same_path (sym (mul-add 1 (node z n t a n j k) (node z n t b n j k)) ∙ ap (λ q. 1 * q k) (sym (node_add a b n j)))))

  pub at_none : At p z n t 1 n nil (λ k. 0)
  unfolding At nil
  at_none j k lj lk = same_path (sym (ap (λ q. 1 * q k) (node_nil n j)))

  -- What is the same modulo p has nodes that are.
  node_cong : (a b : Poly) → Cong p (2 ^ n) a b → (d j : ℕ) → d ≤ n → Cong p (2 ^ (n - d)) (node z n t a d j) (node z n t b d j)
  unfolding node
  node_cong a b h zero j l = let e : n - 0 ≡ n = omega arith in rw e h
  node_cong a b h (suc d) j l =
      part_cong (2 ^ (n - suc d)) (same_refl _) (rw (halves n d l) at (node_cong a b h d (j / 2) (omega arith)))

  pub at_cong : (m d : ℕ) (a b A : Poly) → d ≤ n → Cong p (2 ^ n) a b → At p z n t m d a A → At p z n t m d b A
  unfolding At
  at_cong m d a b A l h H j k lj lk = same_trans (H j k lj lk) (same_scale m (node_cong a b h d j l k lk))
