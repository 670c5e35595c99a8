-- Laws of magnitude and distance, and the way between distance and nearness.
-- Assumes nothing.
use Rattle.std.proofs.Common.{◌≡◌, ℕ, ◌+◌, ◌-◌, ◌*◌, ◌/◌, ◌%◌, ◌^◌, ◌<◌, ◌≤◌, min, sym, ap, ◌∙◌, subst, le_trans, mul-le-mul_right, mod-lt, mod-eq_of_lt, le_antisymm, lt_of_not-le, mul-zero, arith, lit<, lit≤, le-ltb, lt-ltb}
use native.Mathlib.Nat.{mod-add-div', min-le_left, min-le_right}
use native.Mathlib.Decide.{dec_le}
use Rattle.torus.specs.Word.{add, sub, mul, magnitude, distance}
use Rattle.torus.proofs.Near.{Near, near_refl, near_sym, near_trans, near_add, congruent_trans, near_mul, near_mod, near_eq}

pub magnitude_low : (w : ℕ) → w < 2 ^ 31 → magnitude w ≡ w
unfolding magnitude
magnitude_low w h = rw (lt-ltb w (2 ^ 31) h)

pub magnitude_high : (w : ℕ) → 2 ^ 31 ≤ w → magnitude w ≡ 2 ^ 32 - w
unfolding magnitude
magnitude_high w h = rw (le-ltb w (2 ^ 31) h)

-- The smaller of w and 2^32 - w: the form that arithmetic uses.
pub magnitude_min : (w : ℕ) → magnitude w ≡ min w (2 ^ 32 - w)
magnitude_min w = go (dec_le (2 ^ 31) w)
  where
    go : Dec (2 ^ 31 ≤ w) → magnitude w ≡ min w (2 ^ 32 - w)
    go (yes h) = magnitude_high w h ∙ omega arith
    go (no n) = let h : w < 2 ^ 31 = lt_of_not-le n in magnitude_low w h ∙ omega arith

-- "so it goes up to 2^31"
pub magnitude_le : (w : ℕ) → magnitude w ≤ 2 ^ 31
magnitude_le w = omega (arith, magnitude_min w)

-- ---- nearness

near_min : (Q A r u v a b : ℕ) → r < Q → r + u + a * Q ≡ v + b * Q → u + v ≤ A → min r (Q - r) ≤ A
near_min Q A r u v a b below total small = go (dec_le b a)
  where
    go : Dec (b ≤ a) → min r (Q - r) ≤ A
    go (yes l) = le_trans (min-le_left r (Q - r)) (omega (arith, mul-le-mul_right Q l))
    go (no n) = le_trans (min-le_right r (Q - r)) (omega (arith, mul-le-mul_right Q (lt_of_not-le n)))

-- From nearness to distance.
pub near_distance : {A x y : ℕ} → y ≤ 2 ^ 32 → Near (2 ^ 32) A x y → distance x y ≤ A
near_distance {A} {x} {y} ly h =
    let w = x + (2 ^ 32 - y) in
    rw (magnitude_min (w % 2 ^ 32))
    (near_min (2 ^ 32) A (w % 2 ^ 32) h.u h.v (w / 2 ^ 32 + h.s) (h.t + 1) (mod-lt w (lit< tt))
    (omega (arith, mod-add-div' w (2 ^ 32), h.same)) h.small)

min_near : (Q x y r q : ℕ) → r < Q → y ≤ Q → r + q * Q ≡ x + (Q - y) → Near Q (min r (Q - r)) x y
min_near Q x y r q below ly split = go (dec_le r (Q - r))
  where
    go : Dec (r ≤ Q - r) → Near Q (min r (Q - r)) x y
    go (yes l) = record { u = 0; v = r; s = 1; t = q; same = omega arith; small = omega arith }
    go (no n) = record { u = Q - r; v = 0; s = 0; t = q; same = omega arith; small = omega (arith, lt_of_not-le n) }

-- From distance to nearness.
pub distance_near : {x y : ℕ} → y ≤ 2 ^ 32 → Near (2 ^ 32) (distance x y) x y
distance_near {x} {y} ly =
    rw (magnitude_min (sub x y)) (min_near (2 ^ 32) x y _ _ (mod-lt _ (lit< tt)) ly (mod-add-div' (x + (2 ^ 32 - y)) (2 ^ 32)))

-- A word's distance from 0 is its magnitude.
pub distance_zero : (x : ℕ) → x < 2 ^ 32 → distance x 0 ≡ magnitude x
distance_zero x h = ap magnitude (omega arith)

pub near_magnitude : {A x : ℕ} → x < 2 ^ 32 → Near (2 ^ 32) A x 0 → magnitude x ≤ A
near_magnitude {A} {x} hx h = subst (λ m. m ≤ A) (distance_zero x hx) (near_distance (lit≤ tt) h)

pub magnitude_near : {x : ℕ} → x < 2 ^ 32 → Near (2 ^ 32) (magnitude x) x 0
magnitude_near {x} h = subst (λ m. Near (2 ^ 32) m x 0) (distance_zero x h) (distance_near (lit≤ tt))

-- ---- what follows

-- The remainder of a number within A of 0.
near_word : {A x : ℕ} → Near (2 ^ 32) A x 0 → magnitude (x % 2 ^ 32) ≤ A
near_word {A} {x} h =
    near_magnitude (mod-lt x (lit< tt)) (congruent_trans (near_mod x) h)

pub magnitude_add : (a b : ℕ) → a < 2 ^ 32 → b < 2 ^ 32 → magnitude (add a b) ≤ magnitude a + magnitude b
magnitude_add a b ha hb = near_word (near_add (magnitude_near ha) (magnitude_near hb))

pub magnitude_mul : (a b : ℕ) → a < 2 ^ 32 → b < 2 ^ 32 → magnitude (mul a b) ≤ magnitude a * magnitude b
magnitude_mul a b ha hb = near_word (subst (λ x. Near (2 ^ 32) (magnitude a * magnitude b) (a * b) x) (mul-zero a) (near_mul (magnitude_near ha) (magnitude_near hb)))

-- The distance is a metric on words.
pub distance_self : (a : ℕ) → a ≤ 2 ^ 32 → distance a a ≡ 0
distance_self a h = let l : distance a a ≤ 0 = near_distance h (near_refl a) in omega arith

pub distance_none : (a b : ℕ) → a < 2 ^ 32 → b < 2 ^ 32 → distance a b ≡ 0 → a ≡ b
distance_none a b ha hb e =
    let near : Near (2 ^ 32) 0 a b = subst (λ m. Near (2 ^ 32) m a b) e (distance_near (omega arith)) in
    sym (mod-eq_of_lt ha) ∙ near_eq near ∙ mod-eq_of_lt hb

pub distance_sym : (a b : ℕ) → a ≤ 2 ^ 32 → b ≤ 2 ^ 32 → distance a b ≡ distance b a
distance_sym a b ha hb =
    le_antisymm (near_distance hb (near_sym (distance_near ha))) (near_distance ha (near_sym (distance_near hb)))

pub distance_triangle : (a b c : ℕ) → b ≤ 2 ^ 32 → c ≤ 2 ^ 32 → distance a c ≤ distance a b + distance b c
distance_triangle a b c hb hc = near_distance hc (near_trans (distance_near hb) (distance_near hc))
