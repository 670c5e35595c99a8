-- What the code needs: its shifts and masks are the products, quotients and remainders of the definitions.
-- Assumes nothing.
use mathlib.Core.Path.{◌≡◌, sym, ap, ◌∙◌}
use mathlib.Core.Logic.{⊎_elim}
use Prim.Native.Nat.{ℕ, suc, ◌+◌, ◌-◌, ◌*◌, ◌/◌, ◌%◌, ◌^◌, ◌≤◌, ◌<◌}
use native.Mathlib.Nat.{mul-le-mul_left, one-mul, div-add-mod', mod-lt, div-eq_of_lt}
use native.Mathlib.Numerals.{add-one}
use native.Mathlib.Omega.{arith}
use lib.Arith.{digits_lt, digits_div}
use lib.Bits.{bit_and, and_mask}
use lib.Pow.{pow-add, pow_pos, pow_mono, pow-lt, shl_exact, mod-mod-pow}
use Rattle.torus.specs.Sum.{sum}
use Rattle.torus.specs.Word.{add}
use Rattle.gadget.specs.Digits.{Lawful, step, precision, half, weighted}
use Rattle.gadget.specs.Decomposition.{closest_multiple, carry, left_over, left_after}
use Rattle.gadget.proofs.Bounds.{base_le}
use Rattle.gadget.proofs.Rounding.{precision_half}
use Rattle.gadget.proofs.Places.{room_at, horner, by_horner, horner_lt}
use Rattle.gadget.proofs.Laws.{half_twice}
use Rattle.gadget.proofs.Decomposition.{closest_half, carry_cases}

-- ---- the offset

half_lt : (g : ℕ) → 1 ≤ g → half g < 2 ^ g
half_lt g h = pow-lt {i = g - 1} {j = g} (omega arith)

-- 1 << k
pub one_shl : (k : ℕ) → k < 32 → (1 * 2 ^ k) % 2 ^ 32 ≡ 2 ^ k
one_shl k h = shl_exact {a = 1} 1 k 32 (omega arith) (omega arith) ∙ one-mul (2 ^ k)

-- half << (32 - g * j)
half_shl : (g j : ℕ) → 1 ≤ g → 1 ≤ j → g * j ≤ 32 → (half g * step g j) % 2 ^ 32 ≡ half g * step g j
half_shl g j lg lj r = shl_exact {a = half g} g (32 - g * j) 32 (half_lt g lg) (omega (arith, base_le g j lj))

-- The offset as far as place n.
abbrev pub partial : ℕ → ℕ → ℕ → ℕ
partial g L n = precision g L + weighted g n (λ j. half g)

-- It fits a word.
partial_lt : (g L n : ℕ) → Lawful g L → n ≤ L → partial g L n < 2 ^ 32
partial_lt g L n ok h =
    let r : g * n ≤ 32 = room_at g L n ok.room h in
    let e : g * n + (32 - g * n) ≡ 32 = omega arith in
    let low : precision g L < step g n =
    omega (arith, precision_half g L, pow_pos (32 - g * L), pow_mono {i = 32 - g * L} {j = 32 - g * n} (omega (arith, mul-le-mul_left g h))) in
    let total : horner g n (λ j. half g) * step g n + precision g L < 2 ^ (g * n) * step g n =
    digits_lt (horner_lt g n (λ j. half g) (λ j l u. half_lt g ok.low)) low in
    let whole : 2 ^ (g * n) * step g n ≡ 2 ^ 32 = sym (pow-add 2 (g * n) (32 - g * n)) ∙ ap (λ k. 2 ^ k) e in
    omega (arith, by_horner g n (λ j. half g) r)

module _ (g L n h o : ℕ) (ok : Lawful g L) (l : n < L) (eh : h ≡ half g) (eo : o ≡ partial g L n) where
  -- One place further.
  pub partial_more : o + (h * 2 ^ (32 - g * (n + 1))) % 2 ^ 32 ≡ partial g L (n + 1)
  unfolding sum
  partial_more =
      let s : (half g * step g (suc n)) % 2 ^ 32 ≡ half g * step g (suc n) =
      half_shl g (suc n) ok.low (omega arith) (room_at g L (suc n) ok.room l) in
      rw (add-one n, eh) (omega arith)

  pub partial_fits : o + (h * 2 ^ (32 - g * (n + 1))) % 2 ^ 32 < 2 ^ 32
  partial_fits = rw partial_more (partial_lt g L (n + 1) ok (omega arith))

-- ---- a digit

-- The g low bits of q, by a mask.
pub mask_rem : (q g m : ℕ) → m ≡ 2 ^ g - 1 → bit_and q m ≡ q % 2 ^ g
mask_rem q g m e = ap (λ x. bit_and q x) e ∙ and_mask q g

-- The carry is the highest bit of the place.
pub carry_shift : (g n : ℕ) → 1 ≤ g → n % 2 ^ g / half g ≡ carry g n
carry_shift g n l =
    ⊎_elim
    (λ c.
    let split : n % 2 ^ g ≡ 1 * half g + (n % 2 ^ g - half g) = omega arith in
    ap (λ x. x / half g) split ∙ digits_div 1 (omega (arith, mod-lt n (pow_pos g), half_twice g l)) ∙ sym c.1)
    (λ c. div-eq_of_lt c.0 ∙ sym c.1) (carry_cases g n)

carry_le : (g n : ℕ) → carry g n ≤ 1
carry_le g n = ⊎_elim (λ c. omega arith) (λ c. omega arith) (carry_cases g n)

-- carry << g
pub carry_shl : (g n : ℕ) → g ≤ 16 → carry g n * 2 ^ g % 2 ^ 32 ≡ carry g n * 2 ^ g
carry_shl g n u = shl_exact {a = carry g n} 1 g 32 (omega (arith, carry_le g n)) (omega arith)

-- What is left over of a word is a word.
pub left_over_fits : (g n : ℕ) → 1 ≤ g → n < 2 ^ 32 → left_over g n < 2 ^ 32
unfolding left_over
left_over_fits g n l u =
    let two : 2 ≤ 2 ^ g = pow_mono {i = 1} {j = g} l in
    omega (arith, mul-le-mul_left (n / 2 ^ g) two, div-add-mod' n (2 ^ g), carry_le g n)

-- ---- the closest multiple

-- Down and up by the bits below the last step. What wraps when half of the step is added does not matter.
pub closest_shifts : (g L w : ℕ) → g * L ≤ 32 → add w (step g L / 2) / step g L * step g L % 2 ^ 32 ≡ closest_multiple g L w
closest_shifts g L w r =
    let S : ℕ = step g L in
    let n : ℕ = w + S / 2 in
    let e : 32 ≡ g * L + (32 - g * L) = omega arith in
    let same : n % 2 ^ 32 % S ≡ n % S = ap (λ k. n % 2 ^ k % S) e ∙ mod-mod-pow n (g * L) (32 - g * L) in
    let cut : n % 2 ^ 32 / S * S % 2 ^ 32 ≡ n / S * S % 2 ^ 32 =
    omega (arith, same, div-add-mod' n S, div-add-mod' (n % 2 ^ 32) S, div-add-mod' n (2 ^ 32)) in
    cut ∙ sym (closest_half g L w)

-- ---- digit after digit

-- Before any digit is taken, all is left; then one is taken more, at place j.
pub left_none : (g n L : ℕ) → n ≡ left_after g n (L - L)
unfolding left_after
left_none g n L = let e : 0 ≡ L - L = omega arith in ap (left_after g n) e

pub left_more : (g n L j : ℕ) → 1 ≤ j → j ≤ L → left_over g (left_after g n (L - j)) ≡ left_after g n (L - (j - 1))
unfolding left_after
left_more g n L j l u = let e : suc (L - j) ≡ L - (j - 1) = omega arith in ap (left_after g n) e
