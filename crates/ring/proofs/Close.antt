-- Nearness of polynomials, and what a product does to it.
-- Assumes nothing.
use mathlib.Core.Path.{sym, subst}
use Prim.Native.Nat.{ℕ, zero, suc, ◌+◌, ◌*◌, ◌-◌, ◌≤◌, ◌<◌}
use native.Mathlib.Nat.{le_of_eq}
use native.Mathlib.Omega.{arith}
use Rattle.torus.specs.Sum.{sum}
use Rattle.torus.proofs.Sums.{sum_const, sum_mul}
use Rattle.torus.proofs.Near.{Near, near_sym, near_trans, near_add, near_scale, near_mul, near_sum, near_weaken, near_neg}
use Rattle.ring.specs.Polynomial.{Agree}
use Rattle.ring.proofs.Poly.{Poly, ◌⊕◌, ◌⊙◌, nil, psum, rot, rotn, mul}

-- The first N coefficients are within A of each other, modulo Q.
abbrev pub Close : ℕ → ℕ → ℕ → Poly → Poly → Type 0
Close Q N A p q = (k : ℕ) → k < N → Near Q A (p k) (q k)

module _ {Q N : ℕ} where
  pub close_sym : {A : ℕ} {p q : Poly} → Close Q N A p q → Close Q N A q p
  close_sym h k l = near_sym (h k l)

  pub close_weaken : {A B : ℕ} {p q : Poly} → A ≤ B → Close Q N A p q → Close Q N B p q
  close_weaken a h k l = near_weaken a (h k l)

  pub close_trans : {A B : ℕ} {p q r : Poly} → Close Q N A p q → Close Q N B q r → Close Q N (A + B) p r
  close_trans h g k l = near_trans (h k l) (g k l)

  -- Exact steps in a chain, at either end.
  pub close_from : {A : ℕ} {p q r : Poly} → Agree N p q → Close Q N A q r → Close Q N A p r
  close_from {A} {r = r} e h k l = subst (λ x. Near Q A x (r k)) (sym (e k l)) (h k l)

  pub close_to : {A : ℕ} {p q r : Poly} → Close Q N A p q → Agree N q r → Close Q N A p r
  close_to {A} {p = p} h e k l = subst (λ x. Near Q A (p k) x) (e k l) (h k l)

  pub close_add : {A B : ℕ} {p q p' q' : Poly} → Close Q N A p q → Close Q N B p' q' → Close Q N (A + B) (p ⊕ p') (q ⊕ q')
  unfolding ◌⊕◌
  close_add h g k l = near_add (h k l) (g k l)

  pub close_scale : (c : ℕ) {A : ℕ} {p q : Poly} → Close Q N A p q → Close Q N (c * A) (c ⊙ p) (c ⊙ q)
  unfolding ◌⊙◌
  close_scale c h k l = near_scale c (h k l)

  pub close_psum : (n : ℕ) (A : ℕ → ℕ) {f g : ℕ → Poly} → ((i : ℕ) → i < n → Close Q N (A i) (f i) (g i))
      → Close Q N (sum n A) (psum n f) (psum n g)
  unfolding psum
  close_psum n A h k l = near_sum n A _ _ (λ i m. h i m k l)

  pub close_psum_const : (n A : ℕ) {f g : ℕ → Poly} → ((i : ℕ) → i < n → Close Q N A (f i) (g i))
      → Close Q N (n * A) (psum n f) (psum n g)
  close_psum_const n A h = close_weaken (le_of_eq (sum_const n A)) (close_psum n (λ i. A) h)

module _ (z N : ℕ) where
  pub close_neg : {A : ℕ} {p q : Poly} → Close (suc z) N A p q → Close (suc z) N A (z ⊙ p) (z ⊙ q)
  unfolding ◌⊙◌
  close_neg h k l = near_neg z (h k l)

  rot_close : {A : ℕ} {p q : Poly} → Close (suc z) N A p q → Close (suc z) N A (rot z N p) (rot z N q)
  unfolding rot
  rot_close h zero l = near_neg z (h (N - 1) (omega arith))
  rot_close h (suc k) l = h k (omega arith)

  pub rotn_close : (i : ℕ) {A : ℕ} {p q : Poly} → Close (suc z) N A p q → Close (suc z) N A (rotn z N i p) (rotn z N i q)
  unfolding rotn
  rotn_close zero h = h
  rotn_close (suc i) h = rot_close (rotn_close i h)

  -- A factor whose coefficients are within B of 0 takes a distance of A to one of at most N·B·A.
  pub mul_close : {B A : ℕ} (y : Poly) {p q : Poly} → Close (suc z) N B y nil → Close (suc z) N A p q
      → Close (suc z) N (N * (B * A)) (mul z N y p) (mul z N y q)
  unfolding mul ◌⊙◌ nil
  mul_close {B} {A} y hy h =
      close_psum_const N (B * A) (λ i m k l. near_mul (hy i m) (rotn_close i h k l))

  -- A factor whose coefficients add up to W takes it to one of at most W·A: a key of 0s and 1s with W ones.
  pub mul_close_weight : {A : ℕ} (y : Poly) {p q : Poly} → Close (suc z) N A p q
      → Close (suc z) N (sum N y * A) (mul z N y p) (mul z N y q)
  unfolding mul
  mul_close_weight {A} y h =
      close_weaken (le_of_eq (sum_mul N y A)) (close_psum N (λ i. y i * A) (λ i m. close_scale (y i) (rotn_close i h)))
