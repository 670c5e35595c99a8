-- Lesson 2, signed digits: the exercises, each with its solution. The function of exercise 2.7 is in src/lib.rt, its proof in
-- proofs/round_word.
-- Assumes nothing.
use Rattle.std.proofs.Common.{◌≡◌, ℕ, zero, suc, ◌+◌, ◌-◌, ◌*◌, ◌/◌, ◌%◌, ◌^◌, ◌<◌, ◌≤◌, ◌⊎◌, [], ◌∷◌, get_or, sym, refl, ap, ap₂, ◌∙◌, subst, inl, inr, ⊎_elim, le_of_lt, mod-lt, mod-eq_of_lt, div-add-mod', arith, lit<, lit≤, pow_pos}
use native.Mathlib.Nat.{mod-le, mod-add-div', suc-mul, zero-add, add-zero, mul-zero, mul-suc, lt_of_mul-lt-mul_right}
use lib.Arith.{digits_div}
use lib.Pow.{mod-mod-pow, pow-add, pow_mono, shr_lt}
use Rattle.torus.specs.Sum.{sum, tabulate}
use Rattle.torus.specs.Word.{add, sub, magnitude, distance}
use Rattle.torus.proofs.Magnitudes.{distance_sym, distance_triangle}
use Rattle.gadget.specs.Digits.{Lawful, InRange, step, half, precision, rounded, weighted, digit, digits}
use Rattle.gadget.specs.Decomposition as Decomposition
use Rattle.gadget.specs.Decomposition.{closest_multiple, remainder, step_count, carry, centred_remainder, left_over, left_after}
use Rattle.gadget.proofs.Decomposition.{carry_cases, closest_half, closest_rounded}
use Rattle.gadget.proofs.Laws.{digits_sum, digit_range}
use Rattle.gadget.proofs.Lists.{list_unique}
use Rattle.gadget.proofs.Rounding.{precision_twice, rounded_near, rounded_word}
use Rattle.course.specs.Definitions.{negative, plain_digit}

-- Exercise 2.1. Compute the digits of 4294967295 with g = 8 and L = 2: -1 rounds to 0, and no carry is kept. Compute those of
-- 2147483648 with g = 4 and L = 3.
pub digits_of_minus_one : digits 8 2 4294967295 ≡ 0 ∷ 0 ∷ []
unfolding digits digit rounded precision tabulate sum
digits_of_minus_one = refl

pub digits_of_half : digits 4 3 2147483648 ≡ negative 8 ∷ 0 ∷ 0 ∷ []
unfolding digits digit rounded precision tabulate sum
digits_of_half = refl

-- Exercise 2.2. "Digits from 0 to 2^g - 1: same sum, twice the noise." Take the word 4294901760 with g = 8 and L = 2: show that
-- the plain digits have the sum that they should have, and compute the magnitude of its last digit both ways.
pub plain_sum : weighted 8 2 (plain_digit 8 2 4294901760) % 2 ^ 32 ≡ rounded 8 2 4294901760
unfolding rounded precision sum
plain_sum = refl

pub plain_magnitude : magnitude (plain_digit 8 2 4294901760 2) ≡ 255
unfolding rounded precision magnitude
plain_magnitude = refl

pub signed_magnitude : magnitude (digit 8 2 4294901760 2) ≡ 1
unfolding digit rounded precision magnitude sum
signed_magnitude = refl

-- Exercise 2.3. In base 2 each digit is 0 or -1.
pub digit_base_two : (L w j : ℕ) → Lawful 1 L → (digit 1 L w j ≡ 0) ⊎ (digit 1 L w j ≡ negative 1)
digit_base_two L w j ok = ⊎_elim (λ low. inl (omega arith)) (λ high. inr (omega arith)) (digit_range 1 L w j ok)

-- Exercise 2.4. Find the digits of case d without computing them: 1·2^24 - 128·2^16 is 8388608, both are in range, and digits
-- are unique.
pub digits_by_hand : digits 8 2 8388608 ≡ 1 ∷ negative 128 ∷ []
unfolding sum rounded precision
digits_by_hand = sym (list_unique 8 2 8388608 (1 ∷ negative 128 ∷ []) lawful refl range total)
  where
    lawful : Lawful 8 2
    lawful = record { low = lit≤ tt; high = lit≤ tt; some = lit≤ tt; room = lit≤ tt }

    range : (i : ℕ) → i < 2 → InRange 8 (get_or (1 ∷ negative 128 ∷ []) i 0)
    range zero l = inl (lit< tt)
    range (suc zero) l = inr (lit≤ tt, lit< tt)
    range (suc (suc i)) l = absurd (omega arith)

    total : sum 2 (λ i. get_or (1 ∷ negative 128 ∷ []) i 0 * step 8 (suc i)) % 2 ^ 32 ≡ rounded 8 2 8388608
    total = refl

-- Exercise 2.5. A word that is a multiple of the last step is not changed by rounding: the half step that is added does not
-- reach the next multiple. So it is the sum of its digits.
pub rounded_whole : (g L w : ℕ) → w < 2 ^ 32 → w % step g L ≡ 0 → rounded g L w ≡ w
unfolding rounded
rounded_whole g L w word none =
    let below : precision g L < step g L =
    ⊎_elim (λ e. omega (arith, pow_pos (32 - g * L))) (λ e. omega arith) (precision_twice g L) in
    let same : w / step g L * step g L ≡ w = omega (arith, div-add-mod' w (step g L)) in
    let cut : (w + precision g L) / step g L ≡ w / step g L =
    ap (λ x. (x + precision g L) / step g L) (sym same) ∙ digits_div (w / step g L) below in
    rw (cut, same) (mod-eq_of_lt word)

pub digits_whole : (g L w : ℕ) → Lawful g L → w < 2 ^ 32 → w % step g L ≡ 0 → weighted g L (digit g L w) % 2 ^ 32 ≡ w
digits_whole g L w ok word none = digits_sum g L w ok ∙ rounded_whole g L w word none

-- Exercise 2.6. Rounding moves two words apart by at most 2·E.
pub rounded_apart : (g L a b : ℕ) → a < 2 ^ 32 → b < 2 ^ 32
    → distance (rounded g L a) (rounded g L b) ≤ precision g L + distance a b + precision g L
rounded_apart g L a b ha hb =
    let first : distance (rounded g L a) b ≤ distance (rounded g L a) a + distance a b =
    distance_triangle (rounded g L a) a b (le_of_lt ha) (le_of_lt hb) in
    let both : distance (rounded g L a) (rounded g L b) ≤ distance (rounded g L a) b + distance b (rounded g L b) =
    distance_triangle (rounded g L a) b (rounded g L b) (le_of_lt hb) (le_of_lt (rounded_word g L b)) in
    let turned : distance (rounded g L a) a ≡ distance a (rounded g L a) =
    distance_sym (rounded g L a) a (le_of_lt (rounded_word g L a)) (le_of_lt ha) in
    omega (arith, rounded_near g L a, rounded_near g L b)

-- Exercise 2.7. Write the function `round_word`, with the contract that its result is `rounded g l w`: to the word E is added,
-- modulo 2^32, and what is above a multiple of the last step is taken away. The definition divides and multiplies instead. Show
-- that this is the same, and prove the contract by it.
pub round_law : (g L w : ℕ) → g * L ≤ 32
    → (w + precision g L) % 2 ^ 32 - (w + precision g L) % 2 ^ 32 % step g L ≡ rounded g L w
unfolding rounded
round_law g L w room =
    let n = w + precision g L in
    let e : 32 ≡ g * L + (32 - g * L) = omega arith in
    let same : n % 2 ^ 32 % step g L ≡ n % step g L = ap (λ k. n % 2 ^ k % step g L) e ∙ mod-mod-pow n (g * L) (32 - g * L) in
    omega (arith, div-add-mod' n (step g L), mod-add-div' n (2 ^ 32), mod-le (n % 2 ^ 32) (step g L))

-- Exercise 2.8. Algorithm 1 with pencil and paper, for the word 2147450880 with g = 8 and L = 2: compute what its closest multiple is in last
-- steps, and its remainder; what is left before each digit and behind the last; and the digits.
pub steps_by_hand : step_count 8 2 2147450880 ≡ 32768
unfolding closest_multiple
steps_by_hand = refl

pub remainder_by_hand : remainder 8 2 2147450880 ≡ negative 32768
unfolding closest_multiple
remainder_by_hand = refl

pub left_by_hand : tabulate 3 (left_after 8 32768) ≡ 32768 ∷ 128 ∷ 1 ∷ []
unfolding tabulate left_after left_over carry
left_by_hand = refl

pub algorithm_by_hand : Decomposition.digits 8 2 2147450880 ≡ negative 128 ∷ 0 ∷ []
unfolding Decomposition.digits Decomposition.digit tabulate closest_multiple left_after left_over centred_remainder carry
algorithm_by_hand = refl

-- Exercise 2.9. The thesis' interval is closed: with g = 8 and L = 3 it has 128, too. Take digit 1 of 2139062272 first, then 2, then 3, each so
-- that what is left is nearest to 0, a tie up. Show that these digits have the right sum, and that Algorithm 1 in document 01's range gives
-- others.
pub first_digit_first : sum 3 (λ i. get_or (127 ∷ 128 ∷ negative 128 ∷ []) i 0 * step 8 (suc i)) % 2 ^ 32 ≡ closest_multiple 8 3 2139062272
unfolding sum closest_multiple
first_digit_first = refl

pub last_digit_first : Decomposition.digits 8 3 2139062272 ≡ negative 128 ∷ negative 128 ∷ negative 128 ∷ []
unfolding Decomposition.digits Decomposition.digit tabulate closest_multiple left_after left_over centred_remainder carry
last_digit_first = refl

-- Exercise 2.10. The thesis' remainder has mean 0. Here a tie goes up: take the word i behind a multiple of the last step and the one that is
-- i + 1 before the next, for i below half of the step. Show that their remainders add up to -1. So the mean is -1/2, where E is not 0.
less_behind : (x q r d : ℕ) → r < 2 ^ 32 → d < 2 ^ 32 → x ≡ r + q * 2 ^ 32 + d → sub x r ≡ d
less_behind x q r d word small e = omega arith

less_before : (x q r d : ℕ) → r < 2 ^ 32 → d < 2 ^ 32 → x + d ≡ r + q * 2 ^ 32 → sub x r ≡ negative d
less_before x q r d word small e = omega arith

-- Where x and half a step are n steps and less than one more, n steps are the closest multiple of x.
closest_step : (g L x n r : ℕ) → x + step g L / 2 ≡ n * step g L + r → r < step g L → closest_multiple g L x ≡ n * step g L % 2 ^ 32
closest_step g L x n r e l =
    closest_half g L x ∙ ap (λ y. y / step g L * step g L % 2 ^ 32) e ∙ ap (λ y. y * step g L % 2 ^ 32) (digits_div n l)

remainder_behind : (g L n i : ℕ) → i < step g L / 2 → remainder g L (n * step g L + i) ≡ i
remainder_behind g L n i l =
    let S : ℕ = step g L in
    let room : S ≤ 2 ^ 32 = pow_mono {i = 32 - g * L} {j = 32} (omega arith) in
    rw (closest_step g L (n * S + i) n (i + S / 2) (omega arith) (omega arith))
    (less_behind (n * S + i) (n * S / 2 ^ 32) (n * S % 2 ^ 32) i (mod-lt _ (lit< tt)) (omega arith) (omega (arith, mod-add-div' (n * S) (2 ^ 32))))

remainder_before : (g L n i : ℕ) → i < step g L / 2 → remainder g L (n * step g L + (step g L - suc i)) ≡ negative (suc i)
remainder_before g L n i l =
    let S : ℕ = step g L in
    let room : S ≤ 2 ^ 32 = pow_mono {i = 32 - g * L} {j = 32} (omega arith) in
    let x : ℕ = n * S + (S - suc i) in
    let next : suc n * S ≡ n * S + S = suc-mul n S in
    rw (closest_step g L x (suc n) (S / 2 - suc i) (omega (arith, next)) (omega arith))
    (less_before x (suc n * S / 2 ^ 32) (suc n * S % 2 ^ 32) (suc i) (mod-lt _ (lit< tt)) (omega arith) (omega (arith, next, mod-add-div' (suc n * S) (2 ^ 32))))

pub remainder_pair : (g L n i : ℕ) → i < step g L / 2
    → add (remainder g L (n * step g L + i)) (remainder g L (n * step g L + (step g L - suc i))) ≡ negative 1
remainder_pair g L n i l =
    let room : step g L ≤ 2 ^ 32 = pow_mono {i = 32 - g * L} {j = 32} (omega arith) in
    ap₂ add (remainder_behind g L n i l) (remainder_before g L n i l) ∙ omega arith

-- Exercise 2.11. What is left over of digit 1, and is dropped, is 0 or 1. Show first that n leaves at most B if it is at most B·2^g.
left_step : (g n B : ℕ) → n ≤ B * 2 ^ g → left_over g n ≤ B
unfolding left_over
left_step g n B h = ⊎_elim (λ c. omega (arith, up c.0, c.1)) (λ c. omega (arith, below, c.1)) (carry_cases g n)
  where
    below : n / 2 ^ g < B + 1
    below = lt_of_mul-lt-mul_right (2 ^ g) (omega (arith, div-add-mod' n (2 ^ g), pow_pos g))

    up : half g ≤ n % 2 ^ g → n / 2 ^ g < B
    up c = lt_of_mul-lt-mul_right (2 ^ g) (omega (arith, div-add-mod' n (2 ^ g), pow_pos (g - 1)))

left_bound : (g n i m : ℕ) → n ≤ 2 ^ (g * (i + m)) → left_after g n i ≤ 2 ^ (g * m)
unfolding left_after
left_bound g n zero m h = subst (λ k. n ≤ 2 ^ (g * k)) (zero-add m) h
left_bound g n (suc i) m h =
    let e : suc i + m ≡ i + suc m = omega arith in
    let power : 2 ^ (g * suc m) ≡ 2 ^ (g * m) * 2 ^ g = ap (λ k. 2 ^ k) (mul-suc g m) ∙ pow-add 2 (g * m) g in
    let before : left_after g n i ≤ 2 ^ (g * suc m) = left_bound g n i (suc m) (subst (λ k. n ≤ 2 ^ (g * k)) e h) in
    left_step g (left_after g n i) (2 ^ (g * m)) (omega (arith, before, power))

pub carry_out : (g L w : ℕ) → g * L ≤ 32 → left_after g (step_count g L w) L ≤ 1
carry_out g L w room =
    let e : 32 ≡ g * L + (32 - g * L) = omega arith in
    let word : closest_multiple g L w < 2 ^ 32 = rw (closest_rounded g L w) (rounded_word g L w) in
    let steps : step_count g L w < 2 ^ (g * L) = shr_lt (g * L) (32 - g * L) (subst (λ k. closest_multiple g L w < 2 ^ k) e word) in
    let all : left_after g (step_count g L w) L ≤ 2 ^ (g * 0) =
    left_bound g _ L 0 (subst (λ k. step_count g L w ≤ 2 ^ (g * k)) (sym (add-zero L)) (le_of_lt steps)) in
    subst (λ k. left_after g (step_count g L w) L ≤ 2 ^ k) (mul-zero g) all
