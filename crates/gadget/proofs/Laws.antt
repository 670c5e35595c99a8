-- The laws of the signed gadget digits, for all g and L at once: what they add up to, their range, that they are the only
-- ones, and the word that the code cuts them out of.
-- Assumes nothing.
use mathlib.Core.Path.{◌≡◌, sym, ap, ◌∙◌, subst}
use mathlib.Core.Logic.{inl, inr, ⊎_elim}
use Prim.Native.Nat.{ℕ, suc, ◌+◌, ◌-◌, ◌*◌, ◌/◌, ◌%◌, ◌^◌, ◌≤◌, ◌<◌}
use native.Mathlib.Nat.{lt_of_not-le, mul-le-mul, mul-le-mul_right, mul_comm, add-mul, two-pow-succ, div-add-mod', mod-lt, mod-eq_of_lt, mod-add-mod, add-mul-mod_self_right, eq_of_mul-eq-mul_right}
use native.Mathlib.Decide.{dec_le}
use native.Mathlib.Omega.{arith}
use lib.Pow.{pow_pos, pow_mono}
use Rattle.torus.specs.Sum.{sum}
use Rattle.torus.specs.Word.{sub, magnitude, distance}
use Rattle.torus.proofs.Sums.{sum_cong}
use Rattle.torus.proofs.Near.{Near, near_refl, near_path, near_sym, near_cancel, congruent_trans, congruent_add, near_mod, near_eq, eq_near}
use Rattle.torus.proofs.Magnitudes.{near_magnitude}
use Rattle.gadget.specs.Digits.{Lawful, step, precision, half, rounded, weighted, balance, offset, signed, digit, InRange}
use Rattle.gadget.proofs.Bounds.{count_le}
use Rattle.gadget.proofs.Rounding.{rounded_word, rounded_close, rounded_near, rounded_multiple}
use Rattle.gadget.proofs.Places.{room_at, weighted_add, weighted_same, horner, by_horner, weighted_lt, horner_inj, place, places, place_word, place_low}

-- ---- half of the base

pub half_le : (g : ℕ) → g ≤ 16 → half g ≤ 2 ^ 15
half_le g h = pow_mono {i = g - 1} {j = 15} (omega arith)

-- The greatest magnitudes of all digits add up to at most 2^16: with a base above 2^10 there are at most two.
pub halves_le : (g L : ℕ) → Lawful g L → L * half g ≤ 2 ^ 16
halves_le g L ok = go (dec_le g 10)
  where
    go : Dec (g ≤ 10) → L * half g ≤ 2 ^ 16
    go (yes h) =
        let low : half g ≤ 2 ^ 9 = pow_mono {i = g - 1} {j = 9} (omega arith) in
        omega (arith, mul-le-mul (count_le g L ok) low)
    go (no n) =
        let high : 11 ≤ g = lt_of_not-le n in
        let two : L ≤ 2 = omega (arith, mul-le-mul_right L high, ok.room) in
        omega (arith, mul-le-mul two (half_le g ok.high))

pub half_twice : (g : ℕ) → 1 ≤ g → 2 ^ g ≡ half g + half g
half_twice g h = let e : g ≡ suc (g - 1) = omega arith in ap (λ k. 2 ^ k) e ∙ two-pow-succ (g - 1)

-- The balance is a multiple of the last step.
pub balance_whole : (g L : ℕ) → g * L ≤ 32 → balance g L ≡ horner g L (λ j. half g) * step g L
balance_whole g L r = by_horner g L (λ j. half g) r

-- ---- the sum

-- A digit and half of the base make up its place.
unsigned : (g t j : ℕ) → g ≤ 16 → Near (2 ^ 32) 0 (signed g t j + half g) (place g t j)
unsigned g t j h = eq_near (omega (arith, half_le g h))

-- What the digits add up to is congruent to the rounded word.
pub digits_same : (g L w : ℕ) → Lawful g L → Near (2 ^ 32) 0 (weighted g L (digit g L w)) (rounded g L w)
unfolding digit
digits_same g L w ok =
    let O : ℕ = balance g L in
    let t : ℕ = rounded g L w + O in
    let none : t % step g L ≡ 0 =
    ap (λ x. (rounded g L w + x) % step g L) (balance_whole g L ok.room)
    ∙ add-mul-mod_self_right (rounded g L w) (horner g L (λ j. half g)) (step g L)
    ∙ rounded_multiple g L w ok.room in
    let whole : weighted g L (place g t) ≡ t % 2 ^ 32 = omega (arith, places g t L ok.room) in
    near_cancel O
    (congruent_trans (near_path (sym (weighted_add g L (signed g t) (λ j. half g))))
    (congruent_trans (weighted_same g L (λ j. signed g t j + half g) (place g t) (λ j. unsigned g t j ok.high))
    (congruent_trans (near_path whole) (near_mod t))))

-- The digits add up to the rounded word.
pub digits_sum : (g L w : ℕ) → Lawful g L → weighted g L (digit g L w) % 2 ^ 32 ≡ rounded g L w
digits_sum g L w ok = near_eq (digits_same g L w ok) ∙ mod-eq_of_lt (rounded_word g L w)

-- A word is at most E from what its digits add up to.
pub digits_near : (g L w : ℕ) → Lawful g L → distance w (weighted g L (digit g L w) % 2 ^ 32) ≤ precision g L
digits_near g L w ok = rw (digits_sum g L w ok) (rounded_near g L w)

-- The same as nearness, with the factors as in a sum over the rows of a gadget.
pub digits_close : (g L w : ℕ) → Lawful g L → Near (2 ^ 32) (precision g L) (sum L (λ i. step g (suc i) * digit g L w (suc i))) w
digits_close g L w ok =
    let turned : sum L (λ i. step g (suc i) * digit g L w (suc i)) ≡ weighted g L (digit g L w) =
    sum_cong L _ _ (λ i l. mul_comm (step g (suc i)) (digit g L w (suc i))) in
    subst (λ x. Near (2 ^ 32) (precision g L) x w) (sym turned)
    (congruent_trans (digits_same g L w ok) (near_sym (rounded_close g L w)))

-- ---- the range

pub signed_range : (g p : ℕ) → 1 ≤ g → g ≤ 16 → p < 2 ^ g → InRange g (sub p (half g))
signed_range g p l h b = go (dec_le (half g) p)
  where
    go : Dec (half g ≤ p) → InRange g (sub p (half g))
    go (yes e) = inl (omega (arith, half_le g h, half_twice g l))
    go (no n) = inr (omega (arith, lt_of_not-le n, half_le g h, half_twice g l))

-- "every digit from -2^(g-1) to 2^(g-1) - 1"
pub digit_range : (g L w j : ℕ) → Lawful g L → InRange g (digit g L w j)
unfolding digit
digit_range g L w j ok =
    let t : ℕ = rounded g L w + balance g L in
    signed_range g (place g t j) ok.low ok.high (mod-lt (t / step g j) (pow_pos g))

range_word : (g d : ℕ) → g ≤ 16 → InRange g d → d < 2 ^ 32
range_word g d h r = ⊎_elim (λ x. omega (arith, half_le g h)) (λ x. x.1) r

pub digit_word : (g L w j : ℕ) → Lawful g L → digit g L w j < 2 ^ 32
digit_word g L w j ok = range_word g (digit g L w j) ok.high (digit_range g L w j ok)

-- A digit is within half of the base of 0.
pub digit_small : (g L w j : ℕ) → Lawful g L → Near (2 ^ 32) (half g) (digit g L w j) 0
digit_small g L w j ok = ⊎_elim above below (digit_range g L w j ok)
  where
    d : ℕ
    d = digit g L w j

    above : d < half g → Near (2 ^ 32) (half g) d 0
    above x = record { u = 0; v = d; s = 0; t = 0; same = omega arith; small = omega arith }

    below : (2 ^ 32 ≤ d + half g) × (d < 2 ^ 32) → Near (2 ^ 32) (half g) d 0
    below x = record { u = 2 ^ 32 - d; v = 0; s = 0; t = 1; same = omega arith; small = omega arith }

pub digit_magnitude : (g L w j : ℕ) → Lawful g L → magnitude (digit g L w j) ≤ half g
digit_magnitude g L w j ok = near_magnitude (digit_word g L w j ok) (digit_small g L w j ok)

-- ---- uniqueness

-- A digit in range and half of the base make up a place.
range_place : (g d : ℕ) → 1 ≤ g → g ≤ 16 → InRange g d → (d + half g) % 2 ^ 32 < 2 ^ g
range_place g d l h r =
    ⊎_elim (λ x. omega (arith, half_le g h, half_twice g l)) (λ x. omega (arith, half_le g h, half_twice g l)) r

-- Digits in range with congruent sums are equal.
digits_inj : (g L : ℕ) (a b : ℕ → ℕ) → Lawful g L
    → ((j : ℕ) → 1 ≤ j → j ≤ L → InRange g (a j)) → ((j : ℕ) → 1 ≤ j → j ≤ L → InRange g (b j))
    → weighted g L a % 2 ^ 32 ≡ weighted g L b % 2 ^ 32 → (j : ℕ) → 1 ≤ j → j ≤ L → a j ≡ b j
digits_inj g L a b ok ha hb e j l u =
    let pa : (j : ℕ) → 1 ≤ j → j ≤ L → up a j < 2 ^ g = λ j l u. range_place g (a j) ok.low ok.high (ha j l u) in
    let pb : (j : ℕ) → 1 ≤ j → j ≤ L → up b j < 2 ^ g = λ j l u. range_place g (b j) ok.low ok.high (hb j l u) in
    let same : weighted g L (up a) ≡ weighted g L (up b) =
    sym (mod-eq_of_lt (weighted_lt g L (up a) ok.room pa))
    ∙ near_eq (congruent_trans (lifted a) (congruent_trans (congruent_add (eq_near e) (near_refl (balance g L))) (near_sym (lifted b))))
    ∙ mod-eq_of_lt (weighted_lt g L (up b) ok.room pb) in
    let horners : horner g L (up a) ≡ horner g L (up b) =
    eq_of_mul-eq-mul_right (step g L) (pow_pos (32 - g * L)) (horner g L (up a)) (horner g L (up b))
    (sym (by_horner g L (up a) ok.room) ∙ same ∙ by_horner g L (up b) ok.room) in
    let places_same : up a j ≡ up b j = horner_inj g L (up a) (up b) pa pb horners j l u in
    omega (arith, half_le g ok.high, range_word g (a j) ok.high (ha j l u), range_word g (b j) ok.high (hb j l u))
  where
    up : (ℕ → ℕ) → ℕ → ℕ
    up d i = (d i + half g) % 2 ^ 32

    lifted : (d : ℕ → ℕ) → Near (2 ^ 32) 0 (weighted g L (up d)) (weighted g L d + balance g L)
    lifted d =
        congruent_trans (weighted_same g L (up d) (λ i. d i + half g) (λ i. near_mod (d i + half g)))
        (near_path (weighted_add g L d (λ i. half g)))

-- The digits are the only ones in range with the rounded word as their sum.
pub digits_unique : (g L w : ℕ) (d : ℕ → ℕ) → Lawful g L → ((j : ℕ) → 1 ≤ j → j ≤ L → InRange g (d j))
    → weighted g L d % 2 ^ 32 ≡ rounded g L w → (j : ℕ) → 1 ≤ j → j ≤ L → d j ≡ digit g L w j
digits_unique g L w d ok h e =
    digits_inj g L d (digit g L w) ok h (λ j l u. digit_range g L w j ok) (e ∙ sym (digits_sum g L w ok))

-- ---- the code's way to a digit

-- To add the offset is to round and to add the balance.
place_offset : (g L w j : ℕ) → Lawful g L → 1 ≤ j → j ≤ L → place g (w + offset g L) j ≡ place g (rounded g L w + balance g L) j
unfolding rounded offset
place_offset g L w j ok l u =
    let S : ℕ = step g L in
    let E : ℕ = precision g L in
    let O : ℕ = balance g L in
    let q : ℕ = (w + E) / S in
    let r : ℕ = (w + E) % S in
    let H : ℕ = horner g L (λ i. half g) in
    let room : g * j ≤ 32 = room_at g L j ok.room u in
    let whole : (q + H) * S ≡ q * S + O = omega (arith, add-mul q H S, balance_whole g L ok.room) in
    let split : w + offset g L ≡ (q + H) * S + r = omega (arith, div-add-mod' (w + E) S) in
    ap (λ x. place g x j) split
    ∙ place_low g L j (q + H) r ok.room u (mod-lt (w + E) (pow_pos (32 - g * L)))
    ∙ ap (λ x. place g x j) whole
    ∙ sym (place_word g (q * S + O) j l room)
    ∙ ap (λ x. place g x j) (sym (mod-add-mod (q * S) (2 ^ 32) O))
    ∙ place_word g (q * S % 2 ^ 32 + O) j l room

-- What is cut out of the word with the offset in it is the digit.
pub digit_cut : (g L w j : ℕ) → Lawful g L → 1 ≤ j → j ≤ L → signed g ((w + offset g L) % 2 ^ 32) j ≡ digit g L w j
unfolding digit
digit_cut g L w j ok l u =
    ap (λ x. sub x (half g)) (place_word g (w + offset g L) j l (room_at g L j ok.room u) ∙ place_offset g L w j ok l u)
