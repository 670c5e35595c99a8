-- The rotation X^(-r)·p: its two cases, that exponents add up, that it keeps every distance, that it commutes with the product, and
-- that it is the product with the monomial. For every N, and r up to N.
-- Assumes nothing.
use mathlib.Core.Path.{◌≡◌, refl, ap, sym, ◌∙◌, subst}
use Prim.Native.Nat.{ℕ, ◌+◌, ◌*◌, ◌-◌, ◌^◌, ◌≤◌, ◌<◌}
use native.Mathlib.Nat.{add-zero, zero-add, le_refl, le_of_lt, le_of_eq, mod-lt, mod-eq_of_lt, mul-zero}
use native.Mathlib.Decide.{dec_lt}
use native.Mathlib.Omega.{arith}
use lib.Dec.{lit<}
use borrow.Author.Tests.{lt-ltb, le-ltb}
use Rattle.torus.specs.Sum.{sum}
use Rattle.torus.specs.Word.{sub}
use Rattle.torus.proofs.Near.{Near, near_path, near_sym, congruent_trans, near_congruent, near_mod, near_eq, near_neg, sub_near}
use Rattle.ring.specs.Polynomial.{Agree, product, rotated}
use Rattle.ring.proofs.Poly.{Poly, ◌⊙◌, mul, rotn, rotn_linear, rotn_rot, rot_linear, scale_scale, scale_linear, Linear, Module, module_mul}
use Rattle.ring.proofs.Terms.{unit, rotn_low, rotn_high, rotn_agree, rotn_unit, mul_agree, mul_unit, mul_swap, product_mul}
use Rattle.ring.proofs.Close.{Close, close_weaken, close_to, close_neg, rotn_close, mul_close_weight}

-- ---- coefficients

-- A term that stays, and one that passes the end.
pub rotated_low : (N r : ℕ) (p : Poly) (t : ℕ) → t + r < N → rotated N r p t ≡ p (t + r)
unfolding rotated
rotated_low N r p t l = rw (lt-ltb (t + r) N l)

pub rotated_high : (N r : ℕ) (p : Poly) (t : ℕ) → N ≤ t + r → rotated N r p t ≡ sub 0 (p (t + r - N))
unfolding rotated
rotated_high N r p t l = rw (le-ltb (t + r) N l)

-- Coefficient 0 of X^(-r)·p is coefficient r of p.
pub rotated_first : (N r : ℕ) (p : Poly) → r < N → rotated N r p 0 ≡ p r
rotated_first N r p l = rotated_low N r p 0 (omega arith) ∙ ap p (zero-add r)

-- X^0·p = p
pub rotated_none : (N : ℕ) (p : Poly) → Agree N (rotated N 0 p) p
rotated_none N p t l = rotated_low N 0 p t (omega arith) ∙ ap p (add-zero t)

-- X^(-r)·(X^(-s)·p) = X^(-(r + s))·p
pub rotated_rotated : (N r s : ℕ) (p : Poly) → r + s ≤ N → Agree N (rotated N r (rotated N s p)) (rotated N (r + s) p)
rotated_rotated N r s p h t l = outer (dec_lt (t + r) N)
  where
    inner : t + r < N → Dec (t + (r + s) < N) → rotated N s p (t + r) ≡ rotated N (r + s) p t
    inner m (yes y) = rotated_low N s p (t + r) (omega arith) ∙ ap p (omega arith) ∙ sym (rotated_low N (r + s) p t y)
    inner m (no n) =
        rotated_high N s p (t + r) (omega arith) ∙ ap (λ i. sub 0 (p (i - N))) {x = t + r + s} {y = t + (r + s)} (omega arith)
        ∙ sym (rotated_high N (r + s) p t (omega arith))

    outer : Dec (t + r < N) → rotated N r (rotated N s p) t ≡ rotated N (r + s) p t
    outer (yes m) = rotated_low N r _ t m ∙ inner m (dec_lt (t + (r + s)) N)
    outer (no n) =
        rotated_high N r _ t (omega arith) ∙ ap (sub 0) (rotated_low N s p (t + r - N) (omega arith) ∙ ap p (omega arith))
        ∙ sym (rotated_high N (r + s) p t (omega arith))

-- It depends on the first N coefficients alone,
pub rotated_agree : (N r : ℕ) {p q : Poly} → r ≤ N → Agree N p q → Agree N (rotated N r p) (rotated N r q)
rotated_agree N r {p} {q} h e t l = go (dec_lt (t + r) N)
  where
    go : Dec (t + r < N) → rotated N r p t ≡ rotated N r q t
    go (yes m) = rotated_low N r p t m ∙ e (t + r) m ∙ sym (rotated_low N r q t m)
    go (no n) = rotated_high N r p t (omega arith) ∙ ap (sub 0) (e (t + r - N) (omega arith)) ∙ sym (rotated_high N r q t (omega arith))

-- and is of words where they are.
pub rotated_word : (N r : ℕ) {p : Poly} → ((i : ℕ) → i < N → p i < 2 ^ 32) → (t : ℕ) → rotated N r p t < 2 ^ 32
rotated_word N r {p} word t = go (dec_lt (t + r) N)
  where
    go : Dec (t + r < N) → rotated N r p t < 2 ^ 32
    go (yes m) = rw (rotated_low N r p t m) (word (t + r) m)
    go (no n) = rw (rotated_high N r p t (omega arith)) (mod-lt _ (lit< tt))

-- ---- distances

-- To change a word's sign is to multiply it by 2^32 - 1.
pub minus_near : (b : ℕ) → b ≤ 2 ^ 32 → Near (2 ^ 32) 0 (sub 0 b) (4294967295 * b)
minus_near b h = subst (λ x. Near (2 ^ 32) 0 (sub 0 b) x) (zero-add (4294967295 * b)) (sub_near 0 b h)

-- It keeps every distance.
pub rotated_close : (N r : ℕ) {A : ℕ} {p q : Poly} → r ≤ N → ((i : ℕ) → i < N → p i < 2 ^ 32) → ((i : ℕ) → i < N → q i < 2 ^ 32)
    → Close (2 ^ 32) N A p q → Close (2 ^ 32) N A (rotated N r p) (rotated N r q)
rotated_close N r {A} {p} {q} h wp wq near t l = go (dec_lt (t + r) N)
  where
    go : Dec (t + r < N) → Near (2 ^ 32) A (rotated N r p t) (rotated N r q t)
    go (yes m) = rw (rotated_low N r p t m, rotated_low N r q t m) (near (t + r) m)
    go (no n) =
        let i : ℕ = t + r - N in
        let li : i < N = omega arith in
        rw (rotated_high N r p t (omega arith), rotated_high N r q t (omega arith))
        (congruent_trans (minus_near (p i) (le_of_lt (wp i li)))
        (near_congruent (near_neg 4294967295 (near i li)) (near_sym (minus_near (q i) (le_of_lt (wq i li))))))

-- ---- the product

-- Minus minus x is x.
minus_minus : (x : ℕ) → Near (2 ^ 32) 0 x (4294967295 * (4294967295 * x))
minus_minus x = record { u = 0; v = 0; s = 4294967294 * x; t = 0; same = omega arith; small = le_refl 0 }

-- X^(-r) as the ring laws have it: minus X^(N - r).
abbrev back : (N r : ℕ) → Poly → Poly
back N r p = 4294967295 ⊙ rotn 4294967295 N (N - r) p

rotated_back : (N r : ℕ) (p : Poly) → r ≤ N → ((i : ℕ) → i < N → p i < 2 ^ 32) → Close (2 ^ 32) N 0 (rotated N r p) (back N r p)
unfolding ◌⊙◌
rotated_back N r p h word t l = go (dec_lt (t + r) N)
  where
    go : Dec (t + r < N) → Near (2 ^ 32) 0 (rotated N r p t) (4294967295 * rotn 4294967295 N (N - r) p t)
    go (yes m) =
        let place : N + t - (N - r) ≡ t + r = omega arith in
        rw (rotated_low N r p t m, rotn_high 4294967295 N (N - r) p t (omega arith) (omega arith), place) (minus_minus (p (t + r)))
    go (no n) =
        let place : t - (N - r) ≡ t + r - N = omega arith in
        rw (rotated_high N r p t (omega arith), rotn_low 4294967295 N (N - r) p t (omega arith), place)
        (minus_near (p (t + r - N)) (le_of_lt (word (t + r - N) (omega arith))))

-- It is linear and commutes with the product by X.
back_module : (N r : ℕ) → Module 4294967295 N (back N r)
back_module N r =
    let z : ℕ = 4294967295 in
    let turn : Linear (rotn z N (N - r)) = rotn_linear z N (N - r) in
    record {
      linear = record {
        on_add = λ p q. ap (λ s. z ⊙ s) (turn.on_add p q) ∙ (scale_linear z).on_add _ _;
        on_scale = λ c p. ap (λ s. z ⊙ s) (turn.on_scale c p) ∙ scale_scale z c _;
        on_nil = ap (λ s. z ⊙ s) turn.on_nil ∙ (scale_linear z).on_nil;
      };
      on_rot = λ p. ap (λ s. z ⊙ s) (rotn_rot z N (N - r) p) ∙ sym ((rot_linear z N).on_scale z _);
    }

-- A product is of words.
pub product_word : (N : ℕ) (y p : Poly) (i : ℕ) → product N y p i < 2 ^ 32
unfolding product
product_word N y p i = mod-lt _ (lit< tt)

-- The rotation of a product is the product with the rotation: y·(X^(-r)·p) = X^(-r)·(y·p).
pub product_rotated : (N r : ℕ) (y p : Poly) → r ≤ N → ((i : ℕ) → i < N → p i < 2 ^ 32)
    → Agree N (product N y (rotated N r p)) (rotated N r (product N y p))
product_rotated N r y p h word t l =
    let z : ℕ = 4294967295 in
    let made : (i : ℕ) → product N y p i < 2 ^ 32 = product_word N y p in
    let left : Close (2 ^ 32) N 0 (product N y (rotated N r p)) (back N r (mul z N y p)) =
    close_to
    (λ i m. congruent_trans (near_path (product_mul N y (rotated N r p) i m)) (congruent_trans (near_mod _) (rotated_factor i m)))
    (λ i m. ap (λ (q : Poly). q i) (sym (module_mul z N (back_module N r) y p))) in
    let right : Close (2 ^ 32) N 0 (rotated N r (product N y p)) (back N r (mul z N y p)) =
    λ i m. congruent_trans (rotated_back N r (product N y p) h (λ j k. made j) i m)
    (close_neg z N (rotn_close z N (N - r) (λ j k. congruent_trans (near_path (product_mul N y p j k)) (near_mod _))) i m) in
    sym (mod-eq_of_lt (product_word N y (rotated N r p) t))
    ∙ near_eq (congruent_trans (left t l) (near_sym (right t l)))
    ∙ mod-eq_of_lt (rotated_word N r (λ j k. made j) t)
  where
    rotated_factor : Close (2 ^ 32) N 0 (mul 4294967295 N y (rotated N r p)) (mul 4294967295 N y (back N r p))
    rotated_factor = close_weaken (le_of_eq (mul-zero (sum N y))) (mul_close_weight 4294967295 N y (rotated_back N r p h word))

-- ---- the monomial

-- X^(-r), for r from 1 to N: as X^N is -1, it is -X^(N - r), so the word -1 stands at place N - r, and 0 elsewhere.
abbrev pub monomial : (N r : ℕ) → Poly
monomial N r = 4294967295 ⊙ unit (N - r)

-- The rotation is the product with it.
pub rotated_product : (N r : ℕ) (p : Poly) → 0 < r → r ≤ N → ((i : ℕ) → i < N → p i < 2 ^ 32)
    → Agree N (rotated N r p) (product N (monomial N r) p)
unfolding ◌⊙◌
rotated_product N r p some h word t l =
    let z : ℕ = 4294967295 in
    let factor : Agree N (monomial N r) (back N r (unit 0)) = λ i m. ap (λ u. z * u) (sym (rotn_unit z N (N - r) (omega arith) i m)) in
    let same : Agree N (mul z N (monomial N r) p) (back N r (mul z N p (unit 0))) =
    λ i m. mul_agree z N factor (λ j k. refl) i m ∙ mul_swap z N (back N r (unit 0)) p i m
    ∙ ap (λ (q : Poly). q i) (sym (module_mul z N (back_module N r) p (unit 0))) in
    let turned : Close (2 ^ 32) N 0 (rotated N r p) (mul z N (monomial N r) p) =
    close_to (rotated_back N r p h word)
    (λ i m. ap (λ u. z * u) (sym (rotn_agree z N (N - r) (mul_unit z N p) i m)) ∙ sym (same i m)) in
    sym (mod-eq_of_lt (rotated_word N r word t))
    ∙ near_eq (turned t l)
    ∙ sym (product_mul N (monomial N r) p t l)
