-- Polynomials over the natural numbers with X^N = z, their sums and products. Nothing is reduced, so that every law here is an
-- equation. With z = Q - 1, which is minus one modulo Q, the product is that modulo X^N + 1 and Q (`mul_at` and `product_mul`
-- in Terms). Coefficients from N on mean nothing, and no coefficient below N depends on them.
-- Assumes nothing.
use mathlib.Core.Path.{◌≡◌, refl, ap, ap₂, sym, ◌∙◌, fun_ext}
use mathlib.Core.Logic.{◌⊎◌, inl, inr, ◌≢◌}
use Prim.Native.Nat.{ℕ, zero, suc, ◌+◌, ◌*◌, ◌-◌, ◌<◌}
use native.Mathlib.Nat.{add-zero, zero-add, mul-zero, zero-mul, mul-add, add-mul, mul_assoc, mul_left_comm, le_of_suc-le-suc, eq-or-lt_of_le}
use native.Mathlib.Omega.{arith}
use Rattle.torus.specs.Sum.{sum}
use Rattle.torus.proofs.Sums.{sum_cong, sum_add}

abbrev pub Poly : Type 0
Poly = ℕ → ℕ

infixl 65 ◌⊕◌
infixr 70 ◌⊙◌
unfoldable pub ◌⊕◌ : Poly → Poly → Poly
(p ⊕ q) k = p k + q k

unfoldable pub ◌⊙◌ : ℕ → Poly → Poly
(c ⊙ p) k = c * p k

unfoldable pub nil : Poly
nil k = 0

-- f 0 ⊕ f 1 ⊕ .. ⊕ f (n - 1)
unfoldable pub psum : ℕ → (ℕ → Poly) → Poly
psum n f k = sum n (λ i. f i k)

-- ---- sums and multiples

pub scale_add : (c : ℕ) (p q : Poly) → c ⊙ (p ⊕ q) ≡ c ⊙ p ⊕ c ⊙ q
unfolding ◌⊕◌ ◌⊙◌
scale_add c p q = fun_ext λ k. mul-add c (p k) (q k)

pub scale_scale : (c d : ℕ) (p : Poly) → c ⊙ d ⊙ p ≡ d ⊙ c ⊙ p
unfolding ◌⊙◌
scale_scale c d p = fun_ext λ k. mul_left_comm c d (p k)

pub scale_nil : (c : ℕ) → c ⊙ nil ≡ nil
unfolding ◌⊙◌ nil
scale_nil c = fun_ext λ k. mul-zero c

pub add_scale : (c d : ℕ) (p : Poly) → (c + d) ⊙ p ≡ c ⊙ p ⊕ d ⊙ p
unfolding ◌⊕◌ ◌⊙◌
add_scale c d p = fun_ext λ k. add-mul c d (p k)

pub scale_mul : (c d : ℕ) (p : Poly) → (c * d) ⊙ p ≡ c ⊙ d ⊙ p
unfolding ◌⊙◌
scale_mul c d p = fun_ext λ k. mul_assoc c d (p k)

pub zero_scale : (p : Poly) → 0 ⊙ p ≡ nil
unfolding ◌⊙◌ nil
zero_scale p = fun_ext λ k. zero-mul (p k)

pub psum_zero : (f : ℕ → Poly) → psum 0 f ≡ nil
unfolding psum sum nil
psum_zero f = refl

pub psum_suc : (n : ℕ) (f : ℕ → Poly) → psum (suc n) f ≡ psum n f ⊕ f n
unfolding psum sum ◌⊕◌
psum_suc n f = refl

pub psum_cong : (n : ℕ) (f g : ℕ → Poly) → ((i : ℕ) → i < n → f i ≡ g i) → psum n f ≡ psum n g
unfolding psum
psum_cong n f g h = fun_ext λ k. sum_cong n _ _ (λ i l. ap (λ p. p k) (h i l))

pub psum_add : (n : ℕ) (f g : ℕ → Poly) → psum n (λ i. f i ⊕ g i) ≡ psum n f ⊕ psum n g
unfolding psum ◌⊕◌
psum_add n f g = fun_ext λ k. sum_add n _ _

-- ---- linear operators

pub record Linear (T : Poly → Poly) : Type 0 where
  pub on_add : (p q : Poly) → T (p ⊕ q) ≡ T p ⊕ T q
  pub on_scale : (c : ℕ) (p : Poly) → T (c ⊙ p) ≡ c ⊙ T p
  pub on_nil : T nil ≡ nil

pub psum_linear : {T : Poly → Poly} → Linear T → (n : ℕ) (f : ℕ → Poly) → T (psum n f) ≡ psum n (λ i. T (f i))
psum_linear {T} t zero f = ap T (psum_zero f) ∙ t.on_nil ∙ sym (psum_zero (λ i. T (f i)))
psum_linear {T} t (suc n) f =
    ap T (psum_suc n f) ∙ t.on_add (psum n f) (f n) ∙ ap (λ p. p ⊕ T (f n)) (psum_linear t n f) ∙ sym (psum_suc n (λ i. T (f i)))

pub scale_linear : (c : ℕ) → Linear (λ p. c ⊙ p)
scale_linear c = record { on_add = scale_add c; on_scale = scale_scale c; on_nil = scale_nil c }

pub psum_scale : (c n : ℕ) (f : ℕ → Poly) → psum n (λ i. c ⊙ f i) ≡ c ⊙ psum n f
psum_scale c n f = sym (psum_linear (scale_linear c) n f)

pub psum_nil : (n : ℕ) → psum n (λ i. nil) ≡ nil
psum_nil n = psum_cong n (λ i. nil) (λ i. 0 ⊙ nil) (λ i l. sym (zero_scale nil)) ∙ psum_scale 0 n (λ i. nil) ∙ zero_scale _

-- The sum of linear operators is linear.
pub linear_psum : (n : ℕ) (F : ℕ → Poly → Poly) → ((i : ℕ) → Linear (F i)) → Linear (λ p. psum n (λ i. F i p))
linear_psum n F h = record {
  on_add = λ p q. psum_cong n _ _ (λ i l. (h i).on_add p q) ∙ psum_add n _ _;
  on_scale = λ c p. psum_cong n _ _ (λ i l. (h i).on_scale c p) ∙ psum_scale c n _;
  on_nil = psum_cong n _ _ (λ i l. (h i).on_nil) ∙ psum_nil n;
}

pub psum_swap : (n m : ℕ) (f : ℕ → ℕ → Poly) → psum n (λ i. psum m (λ j. f i j)) ≡ psum m (λ j. psum n (λ i. f i j))
psum_swap zero m f = psum_zero _ ∙ sym (psum_nil m) ∙ psum_cong m _ _ (λ j l. sym (psum_zero (λ i. f i j)))
psum_swap (suc n) m f =
    psum_suc n _ ∙ ap (λ p. p ⊕ psum m (λ j. f n j)) (psum_swap n m f) ∙ sym (psum_add m _ _)
    ∙ psum_cong m _ _ (λ j l. sym (psum_suc n (λ i. f i j)))

-- ---- sums with one term

-- p + 0 = p and 0 + p = p.
add_nil : (p : Poly) → p ⊕ nil ≡ p
unfolding ◌⊕◌ nil
add_nil p = fun_ext λ k. add-zero (p k)

nil_add : (p : Poly) → nil ⊕ p ≡ p
unfolding ◌⊕◌ nil
nil_add p = fun_ext λ k. zero-add (p k)

-- One term more: it is the one, or the one is before it.
only_suc : (n c : ℕ) (f : ℕ → Poly) → ((i : ℕ) → i ≢ c → f i ≡ nil) → (c < n → psum n f ≡ f c) → (c ≡ n) ⊎ (c < n) → psum n f ⊕ f n ≡ f c
only_suc n c f h ih (inl e) =
    ap (λ p. p ⊕ f n) (psum_cong n f (λ i. nil) (λ i l. h i (omega arith)) ∙ psum_nil n) ∙ nil_add (f n) ∙ ap f (sym e)
only_suc n c f h ih (inr l) = ap₂ ◌⊕◌ (ih l) (h n (omega arith)) ∙ add_nil (f c)

-- A sum with one term.
pub psum_only : (n c : ℕ) (f : ℕ → Poly) → ((i : ℕ) → i ≢ c → f i ≡ nil) → c < n → psum n f ≡ f c
psum_only zero c f h l = absurd (omega arith)
psum_only (suc n) c f h l = psum_suc n f ∙ only_suc n c f h (psum_only n c f h) (eq-or-lt_of_le (le_of_suc-le-suc l))

-- ---- the product

module _ (z N : ℕ) where
  -- Times X: the last coefficient comes to the front, times z.
  unfoldable pub rot : Poly → Poly
  rot p zero = z * p (N - 1)
  rot p (suc k) = p k

  -- Times X^i.
  unfoldable pub rotn : ℕ → Poly → Poly
  rotn zero p = p
  rotn (suc i) p = rot (rotn i p)

  -- y·p: the sum of y_i·X^i·p.
  unfoldable pub mul : Poly → Poly → Poly
  mul y p = psum N (λ i. y i ⊙ rotn i p)

  pub rot_linear : Linear rot
  unfolding rot ◌⊕◌ ◌⊙◌ nil
  rot_linear = record {
    on_add = λ p q. fun_ext (elim [ zero ↦ mul-add z _ _ | suc k ↦ refl ]);
    on_scale = λ c p. fun_ext (elim [ zero ↦ mul_left_comm z c _ | suc k ↦ refl ]);
    on_nil = fun_ext (elim [ zero ↦ mul-zero z | suc k ↦ refl ]);
  }

  pub rotn_linear : (i : ℕ) → Linear (rotn i)
  unfolding rotn
  rotn_linear zero = record { on_add = λ p q. refl; on_scale = λ c p. refl; on_nil = refl }
  rotn_linear (suc i) = record {
    on_add = λ p q. ap rot ((rotn_linear i).on_add p q) ∙ rot_linear.on_add _ _;
    on_scale = λ c p. ap rot ((rotn_linear i).on_scale c p) ∙ rot_linear.on_scale c _;
    on_nil = ap rot (rotn_linear i).on_nil ∙ rot_linear.on_nil;
  }

  pub rotn_rot : (i : ℕ) (p : Poly) → rotn i (rot p) ≡ rot (rotn i p)
  unfolding rotn
  rotn_rot zero p = refl
  rotn_rot (suc i) p = ap rot (rotn_rot i p)

  -- Linear, and commutes with the product by X.
  pub record Module (T : Poly → Poly) : Type 0 where
    pub linear : Linear T
    pub on_rot : (p : Poly) → T (rot p) ≡ rot (T p)

  pub module_rotn : {T : Poly → Poly} → Module T → (i : ℕ) (p : Poly) → T (rotn i p) ≡ rotn i (T p)
  unfolding rotn
  module_rotn t zero p = refl
  module_rotn t (suc i) p = t.on_rot _ ∙ ap rot (module_rotn t i p)

  -- Such an operator commutes with every product.
  pub module_mul : {T : Poly → Poly} → Module T → (y p : Poly) → T (mul y p) ≡ mul y (T p)
  unfolding mul
  module_mul t y p =
      psum_linear t.linear N _
      ∙ psum_cong N _ _ (λ i l. t.linear.on_scale (y i) _ ∙ ap (λ q. y i ⊙ q) (module_rotn t i p))

  pub mul_linear : (y : Poly) → Linear (mul y)
  unfolding mul
  mul_linear y = linear_psum N (λ i p. y i ⊙ rotn i p) (λ i. record {
    on_add = λ p q. ap (λ r. y i ⊙ r) ((rotn_linear i).on_add p q) ∙ scale_add (y i) _ _;
    on_scale = λ c p. ap (λ r. y i ⊙ r) ((rotn_linear i).on_scale c p) ∙ scale_scale (y i) c _;
    on_nil = ap (λ r. y i ⊙ r) (rotn_linear i).on_nil ∙ scale_nil (y i);
  })

  pub mul_module : (y : Poly) → Module (mul y)
  unfolding mul
  mul_module y = record {
    linear = mul_linear y;
    on_rot = λ p. psum_cong N _ _ (λ i l. ap (λ r. y i ⊙ r) (rotn_rot i p) ∙ sym (rot_linear.on_scale (y i) _))
        ∙ sym (psum_linear rot_linear N _);
  }

  -- y·(v·p) = v·(y·p)
  pub mul_mul : (y v p : Poly) → mul y (mul v p) ≡ mul v (mul y p)
  mul_mul y v p = module_mul (mul_module y) v p

  -- The product is linear in its first factor too.
  pub mul_linear_left : (p : Poly) → Linear (λ y. mul y p)
  unfolding mul ◌⊕◌ ◌⊙◌ nil
  mul_linear_left p = record {
    on_add = λ y v. psum_cong N _ _ (λ i l. add_scale (y i) (v i) _) ∙ psum_add N _ _;
    on_scale = λ c y. psum_cong N _ _ (λ i l. scale_mul c (y i) _) ∙ psum_scale c N _;
    on_nil = psum_cong N _ _ (λ i l. zero_scale (rotn i p)) ∙ psum_nil N;
  }
