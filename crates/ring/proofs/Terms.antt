-- The terms of a product: its coefficients by the formula, the unit, and commutativity.
-- Assumes nothing.
use mathlib.Core.Path.{◌≡◌, refl, ap, ap₂, sym, ◌∙◌}
use mathlib.Core.Logic.{◌⊎◌, inl, inr, ◌≢◌}
use Prim.Native.Nat.{ℕ, zero, suc, ◌+◌, ◌*◌, ◌-◌, ◌%◌, ◌^◌, ◌≤◌, ◌<◌}
use native.Mathlib.Nat.{add-zero, zero-add, mul-zero, mul-one, mul_comm, sub-zero, le_of_suc-le-suc, eq-or-lt_of_le, mod-lt, mod-mod}
use native.Mathlib.Omega.{arith}
use lib.Dec.{lit<}
use Rattle.torus.specs.Sum.{sum}
use Rattle.torus.specs.Word.{sub}
use Rattle.torus.proofs.Sums.{sum_cong, sum_mul, sum_append}
use Rattle.torus.proofs.Near.{congruent_trans, congruent_add, congruent_scale, near_mod, near_eq, sub_near}
use Rattle.ring.specs.Polynomial.{Agree, inside, passed, product}
use Rattle.ring.proofs.Poly.{Poly, ◌⊙◌, nil, psum, rot, rotn, mul, mul_mul, mul_linear}

-- A sum of N terms, taken apart after term k.
pub sum_split : (N k : ℕ) (f : ℕ → ℕ) → k < N → sum N f ≡ sum (suc k) f + sum (N - suc k) (λ i. f (suc k + i))
sum_split N k f l = let e : N ≡ suc k + (N - suc k) = omega arith in ap (λ n. sum n f) e ∙ sum_append (suc k) (N - suc k) f

-- ---- the unit

-- X^i: coefficient i is 1 and the others are 0.
unfoldable pub unit : ℕ → Poly
unit zero zero = 1
unit zero (suc k) = 0
unit (suc i) zero = 0
unit (suc i) (suc k) = unit i k

pub unit_same : (i : ℕ) → unit i i ≡ 1
unfolding unit
unit_same zero = refl
unit_same (suc i) = unit_same i

pub unit_other : (i k : ℕ) → i ≢ k → unit i k ≡ 0
unfolding unit
unit_other zero zero h = absurd (h refl)
unit_other zero (suc k) h = refl
unit_other (suc i) zero h = refl
unit_other (suc i) (suc k) h = unit_other i k (λ e. h (ap suc e))

pick_none : (n k : ℕ) (p : Poly) → n ≤ k → sum n (λ i. p i * unit i k) ≡ 0
unfolding sum
pick_none zero k p l = refl
pick_none (suc n) k p l = ap₂ ◌+◌ (pick_none n k p (omega arith)) (ap (λ x. p n * x) (unit_other n k (omega arith)) ∙ mul-zero (p n))

-- The sum of p_i·X^i has p's coefficients.
pick_one : (n k : ℕ) (p : Poly) → k < n → sum n (λ i. p i * unit i k) ≡ p k
unfolding sum
pick_one zero k p l = absurd (omega arith)
pick_one (suc n) k p l = go (eq-or-lt_of_le (le_of_suc-le-suc l)) (pick_one n k p)
  where
    go : (k ≡ n) ⊎ (k < n) → (k < n → sum n (λ i. p i * unit i k) ≡ p k) → sum n (λ i. p i * unit i k) + p n * unit n k ≡ p k
    go (inl e) ih = rw e (ap₂ ◌+◌ (pick_none n n p (omega arith)) (ap (λ x. p n * x) (unit_same n) ∙ mul-one (p n)) ∙ zero-add (p n))
    go (inr h) ih = ap₂ ◌+◌ (ih h) (ap (λ x. p n * x) (unit_other n k (omega arith)) ∙ mul-zero (p n)) ∙ add-zero (p k)

module _ (z N : ℕ) where
  -- ---- coefficients

  -- Coefficient k of X^i·p: p's coefficient k - i, or, where the term has passed the end, z times the one that came round.
  pub rotn_low : (i : ℕ) (p : Poly) (k : ℕ) → i ≤ k → rotn z N i p k ≡ p (k - i)
  unfolding rotn rot
  rotn_low zero p k l = ap p (sym (sub-zero k))
  rotn_low (suc i) p zero l = absurd (omega arith)
  rotn_low (suc i) p (suc k) l = rotn_low i p k (omega arith) ∙ ap p (omega arith)

  pub rotn_high : (i : ℕ) (p : Poly) (k : ℕ) → k < i → i ≤ N → rotn z N i p k ≡ z * p (N + k - i)
  unfolding rotn rot
  rotn_high zero p k l h = absurd (omega arith)
  rotn_high (suc i) p zero l h = ap (λ x. z * x) (rotn_low i p (N - 1) (omega arith) ∙ ap p (omega arith))
  rotn_high (suc i) p (suc k) l h = rotn_high i p k (omega arith) (omega arith) ∙ ap (λ j. z * p j) (omega arith)

  -- The coefficients of a product, by the formula.
  pub mul_at : (y p : Poly) (k : ℕ) → k < N → mul z N y p k ≡ inside y p k + z * passed N y p k
  unfolding mul psum ◌⊙◌
  mul_at y p k h =
      sum_split N k _ h
      ∙ ap₂ ◌+◌
      (sum_cong (suc k) _ _ (λ i l. ap (λ x. y i * x) (rotn_low i p k (omega arith))))
      (sum_cong (N - suc k) _ (λ i. y (suc k + i) * p (N + k - (suc k + i)) * z)
      (λ i l. ap (λ x. y (suc k + i) * x) (rotn_high (suc k + i) p k (omega arith) (omega arith)) ∙ omega arith)
      ∙ sum_mul (N - suc k) _ z ∙ mul_comm _ z)

  rot_agree : {p q : Poly} → Agree N p q → Agree N (rot z N p) (rot z N q)
  unfolding rot
  rot_agree h zero l = ap (λ x. z * x) (h (N - 1) (omega arith))
  rot_agree h (suc k) l = h k (omega arith)

  pub rotn_agree : (i : ℕ) {p q : Poly} → Agree N p q → Agree N (rotn z N i p) (rotn z N i q)
  unfolding rotn
  rotn_agree zero h = h
  rotn_agree (suc i) h = rot_agree (rotn_agree i h)

  pub mul_agree : {y v p q : Poly} → Agree N y v → Agree N p q → Agree N (mul z N y p) (mul z N v q)
  unfolding mul psum ◌⊙◌
  mul_agree e f k h = sum_cong N _ _ (λ i l. ap₂ ◌*◌ (e i l) (rotn_agree i f k h))

  rot_unit : (i : ℕ) → suc i < N → Agree N (rot z N (unit i)) (unit (suc i))
  unfolding rot unit
  rot_unit i l zero h = ap (λ x. z * x) (unit_other i (N - 1) (omega arith)) ∙ mul-zero z
  rot_unit i l (suc k) h = refl

  pub rotn_unit : (i : ℕ) → i < N → Agree N (rotn z N i (unit 0)) (unit i)
  unfolding rotn
  rotn_unit zero l k h = refl
  rotn_unit (suc i) l k h = rot_agree (rotn_unit i (omega arith)) k h ∙ rot_unit i l k h

  -- p·1 = p
  pub mul_unit : (p : Poly) → Agree N (mul z N p (unit 0)) p
  unfolding mul psum ◌⊙◌
  mul_unit p k h = sum_cong N _ _ (λ i l. ap (λ x. p i * x) (rotn_unit i l k h)) ∙ pick_one N k p h

  -- y·p = p·y, as y·(p·1) = p·(y·1)
  pub mul_swap : (y p : Poly) → Agree N (mul z N y p) (mul z N p y)
  mul_swap y p k h =
      mul_agree (λ i l. refl) (λ i l. sym (mul_unit p i l)) k h
      ∙ ap (λ q. q k) (mul_mul z N y p (unit 0))
      ∙ mul_agree (λ i l. refl) (mul_unit y) k h

-- The word of a difference of two sums.
pub minus_word : (a b : ℕ) → sub (a % 2 ^ 32) (b % 2 ^ 32) ≡ (a + 4294967295 * b) % 2 ^ 32
minus_word a b =
    let word : b % 2 ^ 32 < 2 ^ 32 = mod-lt b (lit< tt) in
    sym (mod-mod (a % 2 ^ 32 + (2 ^ 32 - b % 2 ^ 32)) (2 ^ 32))
    ∙ near_eq (congruent_trans (sub_near (a % 2 ^ 32) (b % 2 ^ 32) (omega arith))
    (congruent_add (near_mod a) (congruent_scale 4294967295 (near_mod b))))

-- The product of the definitions is that of the ring laws.
pub product_mul : (N : ℕ) (y p : Poly) (k : ℕ) → k < N → product N y p k ≡ mul 4294967295 N y p k % 2 ^ 32
unfolding product
product_mul N y p k h = minus_word (inside y p k) (passed N y p k) ∙ ap (λ x. x % 2 ^ 32) (sym (mul_at 4294967295 N y p k h))

-- It depends on the first N coefficients of its factors alone.
pub product_agree : (N : ℕ) {y v p q : Poly} → Agree N y v → Agree N p q → Agree N (product N y p) (product N v q)
product_agree N e f k h =
    product_mul N _ _ k h ∙ ap (λ x. x % 2 ^ 32) (mul_agree 4294967295 N e f k h) ∙ sym (product_mul N _ _ k h)

-- A product with 0 is 0.
pub product_nil : (N : ℕ) (y : Poly) {p : Poly} → Agree N p nil → Agree N (product N y p) nil
unfolding nil
product_nil N y e k h =
    product_agree N (λ i l. refl) e k h ∙ product_mul N y nil k h ∙ ap (λ q. q k % 2 ^ 32) (mul_linear 4294967295 N y).on_nil
