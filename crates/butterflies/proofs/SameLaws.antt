-- Laws of numbers that are the same modulo p.
-- Assumes nothing.
use mathlib.Core.Path.{◌≡◌, refl, ap, sym, ◌∙◌}
use Prim.Native.Nat.{ℕ, zero, suc, ◌+◌, ◌*◌, ◌/◌, ◌%◌, ◌<◌}
use native.Mathlib.Nat.{mod-add-div', add-mul-mod_self_right}
use native.Mathlib.Omega.{arith}
use Rattle.torus.specs.Sum.{sum}
use Rattle.butterflies.specs.Same.{Same, Cong}

module _ {p : ℕ} where
  pub same_refl : (x : ℕ) → Same p x x
  same_refl x = record { s = 0; t = 0; same = refl }

  pub same_path : {x y : ℕ} → x ≡ y → Same p x y
  same_path e = record { s = 0; t = 0; same = ap (λ n. n + 0 * p) e }

  pub same_sym : {x y : ℕ} → Same p x y → Same p y x
  same_sym h = record { s = h.t; t = h.s; same = sym h.same }

  pub same_trans : {x y w : ℕ} → Same p x y → Same p y w → Same p x w
  same_trans h k = record { s = h.s + k.s; t = h.t + k.t; same = omega (arith, h.same, k.same) }

  pub same_add : {x y x' y' : ℕ} → Same p x y → Same p x' y' → Same p (x + x') (y + y')
  same_add h k = record { s = h.s + k.s; t = h.t + k.t; same = omega (arith, h.same, k.same) }

  pub same_scale : (c : ℕ) {x y : ℕ} → Same p x y → Same p (c * x) (c * y)
  same_scale c h = record { s = c * h.s; t = c * h.t; same = omega (arith, ap (λ n. c * n) h.same) }

  pub same_times : {x y : ℕ} → Same p x y → (c : ℕ) → Same p (x * c) (y * c)
  same_times h c = record { s = c * h.s; t = c * h.t; same = omega (arith, ap (λ n. c * n) h.same) }

  pub same_mul : {x y x' y' : ℕ} → Same p x y → Same p x' y' → Same p (x * x') (y * y')
  same_mul {x} {y} {x'} {y'} h k = same_trans (same_scale x k) (same_times h y')

  pub same_sum : (n : ℕ) {f g : ℕ → ℕ} → ((i : ℕ) → i < n → Same p (f i) (g i)) → Same p (sum n f) (sum n g)
  unfolding sum
  same_sum zero h = same_refl 0
  same_sum (suc n) h = same_add (same_sum n (λ i l. h i (omega arith))) (h n (omega arith))

pub same_mod : (p x : ℕ) → Same p (x % p) x
same_mod p x = record { s = x / p; t = 0; same = omega (arith, mod-add-div' x p) }

-- Such numbers have the same remainder.
pub same_eq : {p x y : ℕ} → Same p x y → x % p ≡ y % p
same_eq {p} {x} {y} h =
    sym (add-mul-mod_self_right x h.s p) ∙ ap (λ a. a % p) h.same ∙ add-mul-mod_self_right y h.t p

pub eq_same : {p x y : ℕ} → x % p ≡ y % p → Same p x y
eq_same {p} {x} {y} e = same_trans (same_sym (same_mod p x)) (same_trans (same_path e) (same_mod p y))

pub cong_trans : {p N : ℕ} {a b c : ℕ → ℕ} → Cong p N a b → Cong p N b c → Cong p N a c
cong_trans h k i l = same_trans (h i l) (k i l)
