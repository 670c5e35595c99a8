-- The precision E of the decomposition, and rounding to a multiple of the last step, ties up.
-- Assumes nothing.
use mathlib.Core.Path.{◌≡◌, sym, ap, ◌∙◌, subst}
use mathlib.Core.Logic.{◌⊎◌, inl, inr, ⊎_elim}
use Prim.Native.Nat.{ℕ, suc, ◌+◌, ◌-◌, ◌*◌, ◌/◌, ◌%◌, ◌^◌, ◌≤◌, ◌<◌}
use native.Mathlib.Nat.{le_refl, lt_of_not-le, two-pow-succ, div-add-mod', mod-lt, mul-mod_left, mul-le-mul_right}
use native.Mathlib.Decide.{dec_le}
use native.Mathlib.Omega.{arith}
use lib.Dec.{lit<}
use lib.Pow.{pow-add, pow_pos, pow_mono, mod-mod-pow}
use borrow.Author.Tests.{lt-ltb, le-ltb}
use Rattle.torus.specs.Word.{sub, distance}
use Rattle.torus.proofs.Near.{Near, near_sym, congruent_trans, near_mod}
use Rattle.torus.proofs.Magnitudes.{magnitude_min, near_distance, distance_sym, distance_triangle}
use Rattle.gadget.specs.Digits.{step, precision, rounded}

-- ---- the precision

precision_over : (g L : ℕ) → 32 ≤ g * L → precision g L ≡ 0
unfolding precision
precision_over g L h = rw (le-ltb (g * L) 32 h)

pub precision_none : (g L : ℕ) → g * L ≡ 32 → precision g L ≡ 0
precision_none g L h = precision_over g L (omega arith)

pub precision_some : (g L : ℕ) → g * L < 32 → precision g L ≡ 2 ^ (31 - g * L)
unfolding precision
precision_some g L h = rw (lt-ltb (g * L) 32 h)

-- The last step is twice E, or it is 1 and E is 0.
pub precision_twice : (g L : ℕ) → ((step g L ≡ precision g L + precision g L) ⊎ ((step g L ≡ 1) × (precision g L ≡ 0)))
precision_twice g L = go (dec_le 32 (g * L))
  where
    go : Dec (32 ≤ g * L) → ((step g L ≡ precision g L + precision g L) ⊎ ((step g L ≡ 1) × (precision g L ≡ 0)))
    go (yes h) = let e : 32 - g * L ≡ 0 = omega arith in inr (ap (λ k. 2 ^ k) e, precision_over g L h)
    go (no n) =
        let h : g * L < 32 = lt_of_not-le n in
        let e : 32 - g * L ≡ suc (31 - g * L) = omega arith in
        let two : step g L ≡ 2 ^ (31 - g * L) + 2 ^ (31 - g * L) = ap (λ k. 2 ^ k) e ∙ two-pow-succ (31 - g * L) in
        inl (omega (arith, precision_some g L h))

pub precision_half : (g L : ℕ) → precision g L ≡ step g L / 2
precision_half g L = ⊎_elim (λ e. omega arith) (λ e. omega arith) (precision_twice g L)

pub precision_le : (g L : ℕ) → precision g L ≤ 2 ^ 31
precision_le g L = omega (arith, precision_half g L, pow_mono {i = 32 - g * L} {j = 32} (omega arith))

-- ---- rounding

-- n rounded down to a multiple of S.
down : (n S : ℕ) → 0 < S → (n / S * S ≤ n) × (n < n / S * S + S)
down n S h = omega (arith, div-add-mod' n S, mod-lt n h)

-- It is within E of w if n is near enough to w + E.
nearest : {n S E w : ℕ} → 0 < S → n ≤ w + E → w + S ≤ n + E + 1 → Near (2 ^ 32) E w (n / S * S % 2 ^ 32)
nearest {n} {S} {E} {w} h a b =
    let x = n / S * S in
    let near : Near (2 ^ 32) E x w =
    record { u = w - x; v = x - w; s = 0; t = 0; same = omega arith; small = omega (arith, down n S h) } in
    near_sym (congruent_trans (near_mod x) near)

-- A word is within E of what it is rounded to.
pub rounded_close : (g L w : ℕ) → Near (2 ^ 32) (precision g L) w (rounded g L w)
unfolding rounded
rounded_close g L w = nearest (pow_pos (32 - g * L)) (omega arith) (⊎_elim (λ e. omega arith) (λ e. omega arith) (precision_twice g L))

pub rounded_word : (g L w : ℕ) → rounded g L w < 2 ^ 32
unfolding rounded
rounded_word g L w = mod-lt _ (lit< tt)

-- The same as a distance.
pub rounded_near : (g L w : ℕ) → distance w (rounded g L w) ≤ precision g L
rounded_near g L w = near_distance (omega (arith, rounded_word g L w)) (rounded_close g L w)

multiple : (g L q : ℕ) → g * L ≤ 32 → q * step g L % 2 ^ 32 % step g L ≡ 0
multiple g L q r =
    let e : 32 ≡ g * L + (32 - g * L) = omega arith in
    ap (λ k. q * step g L % 2 ^ k % step g L) e ∙ mod-mod-pow (q * step g L) (g * L) (32 - g * L) ∙ mul-mod_left q (step g L)

pub rounded_multiple : (g L w : ℕ) → g * L ≤ 32 → rounded g L w % step g L ≡ 0
unfolding rounded
rounded_multiple g L w r = multiple g L _ r

-- Two multiples of S are S apart.
steps_apart : (S a b : ℕ) → a % S ≡ 0 → b % S ≡ 0 → a < b → a + S ≤ b
steps_apart S a b ea eb l = go (dec_le (b / S) (a / S))
  where
    go : Dec (b / S ≤ a / S) → a + S ≤ b
    go (yes h) = absurd (omega (arith, mul-le-mul_right S h, div-add-mod' a S, div-add-mod' b S))
    go (no h) = omega (arith, mul-le-mul_right S (lt_of_not-le h), div-add-mod' a S, div-add-mod' b S)

-- So are they on the circle, if S divides it.
words_apart : (S a b : ℕ) → 2 ^ 32 % S ≡ 0 → a < 2 ^ 32 → b < 2 ^ 32 → a % S ≡ 0 → b % S ≡ 0 → (a ≡ b) ⊎ (S ≤ distance a b)
words_apart S a b whole ha hb ea eb = go (dec_le a b) (dec_le b a)
  where
    far : (x y : ℕ) → x < y → y < 2 ^ 32 → x % S ≡ 0 → y % S ≡ 0 → S ≤ distance x y
    far x y l below ex ey =
        rw (magnitude_min (sub x y)) (omega (arith, steps_apart S x y ex ey l, steps_apart S y (2 ^ 32) ey whole below))

    go : Dec (a ≤ b) → Dec (b ≤ a) → (a ≡ b) ⊎ (S ≤ distance a b)
    go (yes l) (yes m) = inl (omega arith)
    go (no l) m = inr (rw (distance_sym a b (omega arith) (omega arith)) (far b a (lt_of_not-le l) ha eb ea))
    go l (no m) = inr (far a b (lt_of_not-le m) hb ea eb)

-- "round it to the nearest multiple": no other is nearer.
pub rounded_nearest : (g L w q : ℕ) → g * L ≤ 32 → w < 2 ^ 32 → distance w (rounded g L w) ≤ distance w (q * step g L % 2 ^ 32)
rounded_nearest g L w q r h =
    let S : ℕ = step g L in
    let m : ℕ = q * S % 2 ^ 32 in
    let n : ℕ = rounded g L w in
    let e : g * L + (32 - g * L) ≡ 32 = omega arith in
    let whole : 2 ^ 32 % S ≡ 0 = ap (λ k. 2 ^ k % S) (sym e) ∙ ap (λ x. x % S) (pow-add 2 (g * L) (32 - g * L)) ∙ mul-mod_left (2 ^ (g * L)) S in
    let below : m < 2 ^ 32 = mod-lt (q * S) (lit< tt) in
    let word : n < 2 ^ 32 = rounded_word g L w in
    let turned : distance n w ≡ distance w n = distance_sym n w (omega arith) (omega arith) in
    let through : distance n m ≤ distance n w + distance w m = distance_triangle n w m (omega arith) (omega arith) in
    let twice : precision g L + precision g L ≤ S = ⊎_elim (λ c. omega arith) (λ c. omega arith) (precision_twice g L) in
    ⊎_elim (λ c. subst (λ x. distance w n ≤ distance w x) c (le_refl (distance w n))) (λ c. omega (arith, rounded_near g L w))
    (words_apart S n m whole word below (rounded_multiple g L w r) (multiple g L q r))

-- With one more to spare, it is less than E below w.
up : (n S E w : ℕ) → 0 < S → E ≤ 2 ^ 31 → n ≤ w + E → w + S ≤ n + E
    → ((sub w (n / S * S % 2 ^ 32) < E) ⊎ (2 ^ 32 ≤ sub w (n / S * S % 2 ^ 32) + E))
up n S E w h h_e a b = go (dec_le (n / S * S) w)
  where
    go : Dec (n / S * S ≤ w) → ((sub w (n / S * S % 2 ^ 32) < E) ⊎ (2 ^ 32 ≤ sub w (n / S * S % 2 ^ 32) + E))
    go (yes l) = inl (omega (arith, down n S h))
    go (no l) = inr (omega (arith, lt_of_not-le l, down n S h))

-- A tie goes up: the remainder is from -E to E - 1 where E is not 0.
pub rounded_up : (g L w : ℕ) → 0 < precision g L
    → ((sub w (rounded g L w) < precision g L) ⊎ (2 ^ 32 ≤ sub w (rounded g L w) + precision g L))
unfolding rounded
rounded_up g L w some =
    let two : step g L ≡ precision g L + precision g L = ⊎_elim (λ e. e) (λ e. omega arith) (precision_twice g L) in
    up _ _ _ w (pow_pos (32 - g * L)) (precision_le g L) (omega arith) (omega arith)
