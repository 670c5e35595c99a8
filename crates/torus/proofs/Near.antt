-- Nearness modulo Q: congruence and noise in one relation. It carries its witnesses, so it stays in proofs; statements
-- that a reader must believe speak of `distance`.
-- Assumes nothing.
use Rattle.std.proofs.Common.{◌≡◌, ℕ, zero, suc, ◌+◌, ◌-◌, ◌*◌, ◌/◌, ◌%◌, ◌^◌, ◌<◌, ◌≤◌, sym, refl, ap, ◌∙◌, subst, le_trans, le_of_eq, le_refl, add-zero, mul-le-mul, add_comm, one-mul, mul-zero, zero-add, arith}
use native.Mathlib.Nat.{mod-add-div', add-mul-mod_self_right}
use Rattle.torus.specs.Sum.{sum}
use Rattle.torus.specs.Word.{sub}
use Rattle.torus.proofs.Sums.{sum_const}

-- x and y differ by at most A, modulo Q: x + u and y + v are congruent, and u + v is at most A.
pub record Near (Q A x y : ℕ) : Type 0 where
  pub u : ℕ
  pub v : ℕ
  pub s : ℕ
  pub t : ℕ
  pub same : x + u + s * Q ≡ y + v + t * Q
  pub small : u + v ≤ A

module _ {Q : ℕ} where
  pub near_refl : (x : ℕ) → Near Q 0 x x
  near_refl x = record { u = 0; v = 0; s = 0; t = 0; same = refl; small = le_refl 0 }

  pub near_path : {x y : ℕ} → x ≡ y → Near Q 0 x y
  near_path {x} e = subst (λ y. Near Q 0 x y) e (near_refl x)

  pub near_sym : {A x y : ℕ} → Near Q A x y → Near Q A y x
  near_sym h = record { u = h.v; v = h.u; s = h.t; t = h.s; same = sym h.same; small = omega (arith, h.small) }

  pub near_weaken : {A B x y : ℕ} → A ≤ B → Near Q A x y → Near Q B x y
  near_weaken l h = record { u = h.u; v = h.v; s = h.s; t = h.t; same = h.same; small = le_trans h.small l }

  pub near_add : {A B x y x' y' : ℕ} → Near Q A x y → Near Q B x' y' → Near Q (A + B) (x + x') (y + y')
  near_add h k = record {
    u = h.u + k.u;
    v = h.v + k.v;
    s = h.s + k.s;
    t = h.t + k.t;
    same = omega (arith, h.same, k.same);
    small = omega (arith, h.small, k.small);
  }

  pub near_cancel : (z : ℕ) {A x y : ℕ} → Near Q A (x + z) (y + z) → Near Q A x y
  near_cancel z h = record { u = h.u; v = h.v; s = h.s; t = h.t; same = omega (arith, h.same); small = h.small }

  pub near_trans : {A B x y w : ℕ} → Near Q A x y → Near Q B y w → Near Q (A + B) x w
  near_trans {A} {B} {x} {y} {w} h k = near_cancel y (subst (λ v. Near Q (A + B) (x + y) v) (add_comm y w) (near_add h k))

  pub near_scale : (c : ℕ) {A x y : ℕ} → Near Q A x y → Near Q (c * A) (c * x) (c * y)
  near_scale c h = record {
    u = c * h.u;
    v = c * h.v;
    s = c * h.s;
    t = c * h.t;
    same = omega (arith, ap (λ n. c * n) h.same);
    small = omega (arith, mul-le-mul (le_refl c) h.small);
  }

  -- A factor that is within B of 0 scales a distance of A to one of B · A.
  pub near_mul : {B A w x y : ℕ} → Near Q B w 0 → Near Q A x y → Near Q (B * A) (w * x) (w * y)
  near_mul {w = w} h k = record {
    u = h.v * k.u + h.u * k.v;
    v = h.v * k.v + h.u * k.u;
    s = w * k.s + h.t * k.u + h.s * k.v;
    t = w * k.t + h.t * k.v + h.s * k.u;
    same = omega (arith, ap (λ n. w * n) k.same, ap (λ n. n * k.u) h.same, ap (λ n. n * k.v) h.same);
    small = omega (arith, mul-le-mul h.small k.small);
  }

  pub near_sum : (n : ℕ) (A f g : ℕ → ℕ) → ((i : ℕ) → i < n → Near Q (A i) (f i) (g i)) → Near Q (sum n A) (sum n f) (sum n g)
  unfolding sum
  near_sum zero A f g h = near_refl 0
  near_sum (suc n) A f g h = near_add (near_sum n A f g (λ i l. h i (omega arith))) (h n (omega arith))

  -- ---- congruence: nearness with no noise

  pub congruent_trans : {A x y w : ℕ} → Near Q 0 x y → Near Q A y w → Near Q A x w
  congruent_trans {A} h k = near_weaken (le_of_eq (zero-add A)) (near_trans h k)

  pub near_congruent : {A x y w : ℕ} → Near Q A x y → Near Q 0 y w → Near Q A x w
  near_congruent {A} h k = near_weaken (le_of_eq (add-zero A)) (near_trans h k)

  pub congruent_add : {x y x' y' : ℕ} → Near Q 0 x y → Near Q 0 x' y' → Near Q 0 (x + x') (y + y')
  congruent_add h k = near_weaken (le_refl 0) (near_add h k)

  pub congruent_scale : (c : ℕ) {x y : ℕ} → Near Q 0 x y → Near Q 0 (c * x) (c * y)
  congruent_scale c h = near_weaken (le_of_eq (mul-zero c)) (near_scale c h)

  pub congruent_sum : (n : ℕ) (f g : ℕ → ℕ) → ((i : ℕ) → i < n → Near Q 0 (f i) (g i)) → Near Q 0 (sum n f) (sum n g)
  congruent_sum n f g h = near_weaken (le_of_eq (sum_const n 0 ∙ mul-zero n)) (near_sum n (λ i. 0) f g h)

  -- ---- remainders

  pub near_mod : (x : ℕ) → Near Q 0 (x % Q) x
  near_mod x = record { u = 0; v = 0; s = x / Q; t = 0; same = omega (arith, mod-add-div' x Q); small = le_refl 0 }

  -- Congruent numbers have one remainder.
  pub near_eq : {x y : ℕ} → Near Q 0 x y → x % Q ≡ y % Q
  near_eq {x} {y} h =
      sym (add-mul-mod_self_right x h.s Q) ∙ ap (λ a. a % Q) (omega (arith, h.same, h.small)) ∙ add-mul-mod_self_right y h.t Q

  pub eq_near : {x y : ℕ} → x % Q ≡ y % Q → Near Q 0 x y
  eq_near {x} {y} e = congruent_trans (near_sym (near_mod x)) (subst (λ w. Near Q 0 w y) (sym e) (near_mod y))

-- ---- minus one: with Q = z + 1, z · x stands for -x

module _ (z : ℕ) where
  pub minus_one : Near (suc z) 1 z 0
  minus_one = record { u = 1; v = 0; s = 0; t = 1; same = omega arith; small = le_refl 1 }

  pub near_neg : {A x y : ℕ} → Near (suc z) A x y → Near (suc z) A (z * x) (z * y)
  near_neg {A} h = near_weaken (le_of_eq (one-mul A)) (near_mul minus_one h)

-- The difference of two words: to take b away is to add 2^32 - 1 times b.
pub sub_near : (a b : ℕ) → b ≤ 2 ^ 32 → Near (2 ^ 32) 0 (sub a b) (a + 4294967295 * b)
sub_near a b h =
    congruent_trans (near_mod (a + (2 ^ 32 - b)))
    (record { u = 0; v = 0; s = b; t = 1; same = omega arith; small = le_refl 0 })
