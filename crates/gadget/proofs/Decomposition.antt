-- The decomposition in the order of the thesis and document 01's digits are the same, for all g and L at once; and the bounds of Lemma 3.2.1.
-- Assumes nothing.
use mathlib.Core.Path.{◌≡◌, sym, ap, ◌∙◌, subst}
use mathlib.Core.Logic.{◌⊎◌, inl, inr, ⊎_elim}
use mathlib.Core.Bool.{cond}
use mathlib.Core.List.{List}
use Prim.Native.Nat.{ℕ, zero, suc, ◌+◌, ◌-◌, ◌*◌, ◌/◌, ◌%◌, ◌^◌, ◌≤◌, ◌<◌}
use native.Mathlib.Nat.{lt_of_not-le, div-div-eq-div-mul, div-add-mod', mod-lt, add-mul-div_right, add-mul-mod_self_right}
use native.Mathlib.Decide.{dec_le}
use native.Mathlib.Omega.{arith}
use lib.Arith.{digits_div, digits_mod}
use lib.ListN.{get_or}
use lib.Pow.{pow_pos, pow_mono}
use borrow.Author.Tests.{le-leb, lt-leb}
use Rattle.torus.specs.Word.{sub, magnitude, distance}
use Rattle.torus.proofs.Sums.{sum_cong}
use Rattle.torus.proofs.Lists.{tabulate_cong}
use Rattle.gadget.specs.Digits as D
use Rattle.gadget.specs.Decomposition.{closest_multiple, remainder, carry, centred_remainder, left_over, left_after, step_count, digit, digits, digit_polynomial}
use Rattle.gadget.proofs.Rounding.{precision_half, rounded_nearest}
use Rattle.gadget.proofs.Places.{room_at, horner, shift_place}
use Rattle.gadget.proofs.Laws.{half_le, half_twice, balance_whole, signed_range, digits_sum, digits_near, digit_magnitude}

-- ---- the closest multiple

-- To divide by twice the step is to halve first.
halved : (n m S : ℕ) → n / 2 ≡ m → n / (2 * S) ≡ m / S
halved n m S e = sym (div-div-eq-div-mul n 2 S) ∙ ap (λ x. x / S) e

-- It is the word and half a step, rounded down to a multiple of the step.
pub closest_half : (g L w : ℕ) → closest_multiple g L w ≡ (w + D.step g L / 2) / D.step g L * D.step g L % 2 ^ 32
unfolding closest_multiple
closest_half g L w = ap (λ q. q * D.step g L % 2 ^ 32) (halved _ (w + D.step g L / 2) (D.step g L) (omega arith))

-- The closest multiple is document 01's rounded word.
pub closest_rounded : (g L w : ℕ) → closest_multiple g L w ≡ D.rounded g L w
unfolding D.rounded
closest_rounded g L w =
    closest_half g L w ∙ ap (λ e. (w + e) / D.step g L * D.step g L % 2 ^ 32) (sym (precision_half g L))

-- No other multiple of the last step is nearer to the word.
pub closest_nearest : (g L w q : ℕ) → g * L ≤ 32 → w < 2 ^ 32 → distance w (closest_multiple g L w) ≤ distance w (q * D.step g L % 2 ^ 32)
closest_nearest g L w q r h = rw (closest_rounded g L w) (rounded_nearest g L w q r h)

-- ---- one digit

-- There is a carry from half of the base on.
pub carry_cases : (g n : ℕ) → (((D.half g ≤ n % 2 ^ g) × (carry g n ≡ 1)) ⊎ ((n % 2 ^ g < D.half g) × (carry g n ≡ 0)))
unfolding carry
carry_cases g n = go (dec_le (D.half g) (n % 2 ^ g))
  where
    go : Dec (D.half g ≤ n % 2 ^ g) → (((D.half g ≤ n % 2 ^ g) × (carry g n ≡ 1)) ⊎ ((n % 2 ^ g < D.half g) × (carry g n ≡ 0)))
    go (yes h) = inl (h, ap (λ b. cond b 1 0) (le-leb _ _ (omega arith)))
    go (no h) = let below = lt_of_not-le h in inr (below, ap (λ b. cond b 1 0) (lt-leb _ _ (omega arith)))

-- The place that a digit and half of the base make up.
abbrev raised : ℕ → ℕ → ℕ
raised g n = n % 2 ^ g + D.half g - carry g n * 2 ^ g

raised_lt : (g n : ℕ) → 1 ≤ g → raised g n < 2 ^ g
raised_lt g n l =
    ⊎_elim (λ c. rw c.1 (omega (arith, mod-lt n (pow_pos g), half_twice g l))) (λ c. rw c.1 (omega (arith, half_twice g l))) (carry_cases g n)

-- n and half of the base: what is left over, and that place behind it.
raised_whole : (g n : ℕ) → 1 ≤ g → left_over g n * 2 ^ g + raised g n ≡ n + D.half g
unfolding left_over
raised_whole g n l =
    ⊎_elim (λ c. rw c.1 (omega (arith, div-add-mod' n (2 ^ g), half_twice g l))) (λ c. rw c.1 (omega (arith, div-add-mod' n (2 ^ g))))
    (carry_cases g n)

raised_remainder : (g n : ℕ) → 1 ≤ g → g ≤ 16 → centred_remainder g n ≡ sub (raised g n) (D.half g)
unfolding centred_remainder
raised_remainder g n l u =
    ⊎_elim (λ c. rw c.1 (omega (arith, half_twice g l, half_le g u, mod-lt n (pow_pos g)))) (λ c. rw c.1 (omega (arith, half_le g u)))
    (carry_cases g n)

-- A digit is in range, and with the base times what is left over it makes up n.
pub centred_range : (g n : ℕ) → 1 ≤ g → g ≤ 16 → D.InRange g (centred_remainder g n)
centred_range g n l u = rw (raised_remainder g n l u) (signed_range g (raised g n) l u (raised_lt g n l))

pub centred_division : (g n : ℕ) → g ≤ 16 → (left_over g n * 2 ^ g + centred_remainder g n) % 2 ^ 32 ≡ n % 2 ^ 32
unfolding left_over centred_remainder
centred_division g n u =
    let base : 2 ^ g ≤ 2 ^ 16 = pow_mono {i = g} {j = 16} u in
    ⊎_elim (λ c. rw c.1 (omega (arith, div-add-mod' n (2 ^ g), mod-lt n (pow_pos g), base))) (λ c. rw c.1 (omega (arith, div-add-mod' n (2 ^ g))))
    (carry_cases g n)

-- What is left over, and the digit, are quotient and remainder of the sum with half of the base.
left_quotient : (g n : ℕ) → 1 ≤ g → (n + D.half g) / 2 ^ g ≡ left_over g n
left_quotient g n l = ap (λ x. x / 2 ^ g) (sym (raised_whole g n l)) ∙ digits_div (left_over g n) (raised_lt g n l)

centred_place : (g n : ℕ) → 1 ≤ g → g ≤ 16 → sub ((n + D.half g) % 2 ^ g) (D.half g) ≡ centred_remainder g n
centred_place g n l u =
    ap (λ x. sub (x % 2 ^ g) (D.half g)) (sym (raised_whole g n l))
    ∙ ap (λ x. sub x (D.half g)) (digits_mod (left_over g n) (raised_lt g n l))
    ∙ sym (raised_remainder g n l u)

-- ---- digit after digit

-- Half of the base at each of j places.
abbrev halves : ℕ → ℕ → ℕ
halves g j = horner g j (λ i. D.half g)

-- The word whose places, each less half of the base, are document 01's digits.
abbrev balanced : ℕ → ℕ → ℕ → ℕ
balanced g L w = D.rounded g L w + D.balance g L

turned : (n h x : ℕ) → n + (h + x) ≡ n + x + h
turned n h x = omega arith

module _ (g L w : ℕ) (ok : D.Lawful g L) where
  -- From place j up, that word is what the digits behind place j leave, and half of the base at each place up to j.
  left_places : (i j : ℕ) → i + j ≡ L → balanced g L w / D.step g j ≡ left_after g (step_count g L w) i + halves g j
  unfolding left_after horner
  left_places zero j e =
      let last : L ≡ j = omega arith in
      subst (λ x. balanced g L w / D.step g x ≡ step_count g L w + halves g x) last
      (ap (λ x. (D.rounded g L w + x) / D.step g L) (balance_whole g L ok.room)
      ∙ add-mul-div_right (D.rounded g L w) (halves g L) (pow_pos (32 - g * L))
      ∙ ap (λ x. x / D.step g L + halves g L) (sym (closest_rounded g L w)))
  left_places (suc i) j e =
      let n : ℕ = left_after g (step_count g L w) i in
      sym (shift_place g (balanced g L w) j (room_at g L (suc j) ok.room (omega arith)))
      ∙ ap (λ x. x / 2 ^ g) (left_places i (suc j) (omega arith) ∙ turned n (halves g j * 2 ^ g) (D.half g))
      ∙ add-mul-div_right (n + D.half g) (halves g j) (pow_pos g)
      ∙ ap (λ x. x + halves g j) (left_quotient g n ok.low)

  -- The digit there is the centred remainder of what is left.
  left_digit : (i j : ℕ) → i + suc j ≡ L → centred_remainder g (left_after g (step_count g L w) i) ≡ D.digit g L w (suc j)
  unfolding D.digit horner
  left_digit i j e =
      let n : ℕ = left_after g (step_count g L w) i in
      sym (centred_place g n ok.low ok.high)
      ∙ ap (λ x. sub x (D.half g))
      (sym (add-mul-mod_self_right (n + D.half g) (halves g j) (2 ^ g))
      ∙ ap (λ x. x % 2 ^ g) (sym (left_places i (suc j) e ∙ turned n (halves g j * 2 ^ g) (D.half g))))

-- ---- both definitions

pub same_digit : (g L w j : ℕ) → D.Lawful g L → 1 ≤ j → j ≤ L → digit g L w j ≡ D.digit g L w j
unfolding digit
same_digit g L w zero ok l u = absurd (omega arith)
same_digit g L w (suc j) ok l u = left_digit g L w ok _ j (omega arith)

pub same_digits : (g L w : ℕ) → D.Lawful g L → digits g L w ≡ D.digits g L w
unfolding digits D.digits
same_digits g L w ok = tabulate_cong L _ _ (λ i l. same_digit g L w (suc i) ok (omega arith) l)

-- Both definitions give every word the same digits and the same remainder.
pub same_decomposition : (g L w : ℕ) → D.Lawful g L → (digits g L w ≡ D.digits g L w) × (remainder g L w ≡ D.remainder g L w)
same_decomposition g L w ok = (same_digits g L w ok, ap (sub w) (closest_rounded g L w))

-- And every polynomial the same digit polynomials: what `write_digits` writes is the thesis' u_(i,p).
pub same_polynomial : (N g L j : ℕ) (x : List ℕ) → D.Lawful g L → 1 ≤ j → j ≤ L → digit_polynomial N g L j x ≡ D.digit_polynomial N g L j x
unfolding digit_polynomial D.digit_polynomial
same_polynomial N g L j x ok l u = tabulate_cong N _ _ (λ i h. same_digit g L (get_or x i 0) j ok l u)

-- ---- Lemma 3.2.1

same_weighted : (g L w : ℕ) → D.Lawful g L → D.weighted g L (digit g L w) ≡ D.weighted g L (D.digit g L w)
same_weighted g L w ok =
    sum_cong L _ _ (λ j l. ap (λ d. d * D.step g (suc j)) (same_digit g L w (suc j) ok (omega arith) l))

-- The digits add up to the closest multiple.
pub closest_sum : (g L w : ℕ) → D.Lawful g L → D.weighted g L (digit g L w) % 2 ^ 32 ≡ closest_multiple g L w
closest_sum g L w ok = ap (λ x. x % 2 ^ 32) (same_weighted g L w ok) ∙ digits_sum g L w ok ∙ sym (closest_rounded g L w)

-- Its two bounds, of each word: the quality B_g/2, since no digit is larger than half of the base; and the precision 1/(2·B_g^l), since what the
-- digits add up to is within E of the word. Where g·L is 32 that is half of a word's last bit, and E is 0. What Definition 3.2.6 wants besides,
-- an error with mean 0, is not had on words: a tie goes up.
pub decomposition_bounds : (g L w : ℕ) → D.Lawful g L
    → ((j : ℕ) → 1 ≤ j → j ≤ L → magnitude (digit g L w j) ≤ D.half g)
    × (distance w (D.weighted g L (digit g L w) % 2 ^ 32) ≤ D.precision g L)
decomposition_bounds g L w ok =
    (λ j l u. rw (same_digit g L w j ok l u) (digit_magnitude g L w j ok), rw (same_weighted g L w ok) (digits_near g L w ok))
