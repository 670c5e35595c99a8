-- The signed key: minus K c for mask c, and 1 for the body. With it masks and body are alike, and the phase of a sample is one
-- sum over its polynomials. Polynomials are those of the ring laws, with z for minus one.
-- Assumes nothing.
use mathlib.Core.Path.{◌≡◌, ap, ap₂, sym, ◌∙◌}
use mathlib.Core.Logic.{◌⊎◌, inl, inr}
use mathlib.Core.Bool.{cond}
use mathlib.Core.List.{List}
use Prim.Native.Nat.{ℕ, suc, ◌+◌, ◌*◌, ◌^◌, ◌<◌}
use native.Mathlib.Nat.{le_refl, le_of_eq, one-mul, mul-zero, add_comm, eq-or-lt_of_le, le_of_suc-le-suc}
use lib.Dec.{ltb}
use borrow.Author.Tests.{lt-ltb, le-ltb}
use Rattle.torus.specs.Sum.{sum}
use Rattle.torus.proofs.Sums.{sum_cong, sum_const}
use Rattle.torus.proofs.Near.{near_refl, near_path, congruent_trans, congruent_add, congruent_scale, congruent_sum, near_mod, sub_near}
use Rattle.ring.specs.Polynomial.{Agree}
use Rattle.ring.proofs.Poly.{Poly, ◌⊕◌, ◌⊙◌, psum, psum_cong, psum_linear, psum_swap, psum_add, psum_scale, mul, mul_linear, mul_mul, mul_linear_left}
use Rattle.ring.proofs.Terms.{unit, mul_unit, mul_swap, product_mul}
use Rattle.ring.proofs.Close.{Close, close_weaken, close_from, close_to, close_neg, close_psum, mul_close_weight}
use Rattle.trlwe.specs.Sample.{part, masked, phase}
use Rattle.trlwe.proofs.Phases.{masked_le}

-- The polynomials of a sample: the masks first, and then the body.
abbrev pub Sample : Type 0
Sample = ℕ → Poly

-- ---- a sum of products with the polynomials of a key

-- s 0·x 0 + s 1·x 1 + .. + s (n - 1)·x (n - 1)
unfoldable pub dot : (z N n : ℕ) (s : ℕ → Poly) → Sample → Poly
dot z N n s x = psum n (λ c. mul z N (s c) (x c))

-- The product by s takes a distance of A to one of at most w·A.
abbrev pub Weight : (z N : ℕ) (s : Poly) (w : ℕ) → Type 0
Weight z N s w = (A : ℕ) (p q : Poly) → Close (suc z) N A p q → Close (suc z) N (w * A) (mul z N s p) (mul z N s q)

module _ (z N n : ℕ) (s : ℕ → Poly) where
  -- It takes a sum of samples to the sum of what it gives for each,
  pub dot_psum : (m : ℕ) (X : ℕ → Sample) → dot z N n s (λ c. psum m (λ i. X i c)) ≡ psum m (λ i. dot z N n s (X i))
  unfolding dot
  dot_psum m X = psum_cong n _ _ (λ c l. psum_linear (mul_linear z N (s c)) m _) ∙ psum_swap n m _

  -- a product by d to the product by d,
  pub dot_mul : (d : Poly) (x : Sample) → dot z N n s (λ c. mul z N d (x c)) ≡ mul z N d (dot z N n s x)
  unfolding dot
  dot_mul d x = psum_cong n _ _ (λ c l. mul_mul z N (s c) d (x c)) ∙ sym (psum_linear (mul_linear z N d) n _)

  -- a sum to the sum,
  pub dot_add : (x y : Sample) → dot z N n s (λ c. x c ⊕ y c) ≡ dot z N n s x ⊕ dot z N n s y
  unfolding dot
  dot_add x y = psum_cong n _ _ (λ c l. (mul_linear z N (s c)).on_add (x c) (y c)) ∙ psum_add n _ _

  -- a multiple to the multiple,
  pub dot_scale : (a : ℕ) (x : Sample) → dot z N n s (λ c. a ⊙ x c) ≡ a ⊙ dot z N n s x
  unfolding dot
  dot_scale a x = psum_cong n _ _ (λ c l. (mul_linear z N (s c)).on_scale a (x c)) ∙ psum_scale a n _

  -- and congruent samples to congruent polynomials.
  pub dot_congruent : (w : ℕ → ℕ) → ((c : ℕ) → c < n → Weight z N (s c) (w c)) → (x y : Sample)
      → ((c : ℕ) → c < n → Close (suc z) N 0 (x c) (y c)) → Close (suc z) N 0 (dot z N n s x) (dot z N n s y)
  unfolding dot
  dot_congruent w hw x y h =
      close_weaken (le_of_eq (sum_cong n _ (λ c. 0) (λ c l. mul-zero (w c)) ∙ sum_const n 0 ∙ mul-zero n))
      (close_psum n (λ c. w c * 0) (λ c l. hw c l 0 _ _ (h c l)))

-- ---- the signed key

-- -K c for mask c, and 1 for the body.
unfoldable pub signed : (z k : ℕ) (K : ℕ → Poly) → ℕ → Poly
signed z k K c = cond (ltb c k) (z ⊙ K c) (unit 0)

-- The weights of its polynomials: those of the key's, and 1.
unfoldable pub weights : (N k : ℕ) (K : ℕ → Poly) → ℕ → ℕ
weights N k K c = cond (ltb c k) (sum N (K c)) 1

module _ (z N k : ℕ) (K : ℕ → Poly) where
  -- The two cases, of the key and of its weights.
  signed_mask : (c : ℕ) → c < k → signed z k K c ≡ z ⊙ K c
  unfolding signed
  signed_mask c l = rw (lt-ltb c k l)

  signed_body : signed z k K k ≡ unit 0
  unfolding signed
  signed_body = rw (le-ltb k k (le_refl k))

  weights_mask : (c : ℕ) → c < k → weights N k K c ≡ sum N (K c)
  unfolding weights
  weights_mask c l = rw (lt-ltb c k l)

  weights_body : weights N k K k ≡ 1
  unfolding weights
  weights_body = rw (le-ltb k k (le_refl k))

  -- 1·p = p
  unit_mul : (p : Poly) → Agree N (mul z N (unit 0) p) p
  unit_mul p i l = mul_swap z N (unit 0) p i l ∙ mul_unit z N p i l

  -- The phase as it is written: the body less the sum of the masks times the key's polynomials.
  dot_signed : (x : Sample) → Agree N (dot z N (suc k) (signed z k K) x) (x k ⊕ z ⊙ psum k (λ c. mul z N (K c) (x c)))
  unfolding dot psum sum ◌⊕◌
  dot_signed x i l =
      ap₂ ◌+◌
      (ap (λ p. p i) (psum_cong k _ _ (λ c m. ap (λ t. mul z N t (x c)) (signed_mask c m) ∙ (mul_linear_left z N (x c)).on_scale z (K c))
      ∙ psum_scale z k _))
      (ap (λ t. mul z N t (x k) i) signed_body ∙ unit_mul (x k) i l)
      ∙ add_comm _ _

  -- Each polynomial of the signed key has its weight: that of a mask,
  weight_mask : (c : ℕ) → c < k → Weight z N (signed z k K c) (weights N k K c)
  weight_mask c l A p q h =
      rw (signed_mask c l, weights_mask c l, (mul_linear_left z N p).on_scale z (K c), (mul_linear_left z N q).on_scale z (K c))
      (close_neg z N (mul_close_weight z N (K c) h))

  -- that of the body,
  weight_body : Weight z N (signed z k K k) (weights N k K k)
  weight_body A p q h =
      rw (signed_body, weights_body)
      (close_weaken (le_of_eq (sym (one-mul A))) (close_from (unit_mul p) (close_to h (λ i l. sym (unit_mul q i l)))))

  -- and so each.
  pub signed_weight : (c : ℕ) → c < suc k → Weight z N (signed z k K c) (weights N k K c)
  signed_weight c l = go (eq-or-lt_of_le (le_of_suc-le-suc l))
    where
      go : (c ≡ k) ⊎ (c < k) → Weight z N (signed z k K c) (weights N k K c)
      go (inl e) = rw e weight_body
      go (inr m) = weight_mask c m

  -- The signed key weighs 1 more than the key.
  pub weights_sum : sum (suc k) (weights N k K) ≡ sum k (λ c. sum N (K c)) + 1
  unfolding sum
  weights_sum = ap₂ ◌+◌ (sum_cong k _ _ weights_mask) weights_body

-- ---- words

-- The signed key of a list of polynomials, modulo 2^32.
abbrev pub signed_key : (N k : ℕ) (K : List ℕ) → ℕ → Poly
signed_key N k K = signed 4294967295 k (part N K)

-- The phase of a list of words as such a sum.
abbrev pub signed_phase : (N k : ℕ) (K : List ℕ) → Sample → Poly
signed_phase N k K = dot 4294967295 N (suc k) (signed_key N k K)

-- a·K is congruent to the sum of the products.
masked_near : (N k : ℕ) (K x : List ℕ) → Close (2 ^ 32) N 0 (masked N k K x) (psum k (λ c. mul 4294967295 N (part N K c) (part N x c)))
unfolding masked psum
masked_near N k K x i l =
    congruent_trans (near_mod _)
    (congruent_sum k _ _ (λ c lc. congruent_trans (near_path (product_mul N (part N K c) (part N x c) i l)) (near_mod _)))

-- The phase of the definitions is the signed one, modulo 2^32.
pub phase_signed : (N k : ℕ) (K x : List ℕ) → Close (2 ^ 32) N 0 (phase N k K x) (signed_phase N k K (part N x))
unfolding phase ◌⊕◌ ◌⊙◌
phase_signed N k K x =
    close_to
    (λ i l. congruent_trans (sub_near (part N x k i) (masked N k K x i) (masked_le N k K x i))
    (congruent_add (near_refl (part N x k i)) (congruent_scale 4294967295 (masked_near N k K x i l))))
    (λ i l. sym (dot_signed 4294967295 N k (part N K) (part N x) i l))
