-- Places in base 2^g: sums over places, modulo 2^32 and by Horner's rule, and the places of a number.
-- Assumes nothing.
use mathlib.Core.Path.{◌≡◌, sym, ap, ◌∙◌, subst}
use mathlib.Core.Logic.{⊎_elim}
use Prim.Native.Nat.{ℕ, zero, suc, ◌+◌, ◌-◌, ◌*◌, ◌/◌, ◌%◌, ◌^◌, ◌≤◌, ◌<◌}
use native.Mathlib.Nat.{mul-suc, mul-zero, zero-mul, zero-add, add_assoc, add-mul, mul_assoc, mul_comm, le_refl, le_trans, le-suc_iff, mul-le-mul_left}
use native.Mathlib.Omega.{arith}
use lib.Arith.{mod-mul, digits_div, digits_mod, digits_lt}
use lib.Pow.{pow-add, pow_pos, shl_lt, shr-shr, shl-shr, field, mod-mod-pow}
use Rattle.torus.specs.Sum.{sum}
use Rattle.torus.proofs.Sums.{sum_cong, sum_add}
use Rattle.torus.proofs.Near.{Near, congruent_scale, congruent_sum}
use Rattle.gadget.specs.Digits.{step, weighted}

-- ---- steps

-- A step is 2^g of the next.
pub step_suc : (g n : ℕ) → g * suc n ≤ 32 → step g n ≡ 2 ^ g * step g (suc n)
step_suc g n h =
    let e : 32 - g * n ≡ g + (32 - g * suc n) = omega (arith, mul-suc g n) in
    ap (λ k. 2 ^ k) e ∙ pow-add 2 g (32 - g * suc n)

-- A place that is there has room.
pub room_at : (g L j : ℕ) → g * L ≤ 32 → j ≤ L → g * j ≤ 32
room_at g L j r h = le_trans (mul-le-mul_left g h) r

room_before : (g n : ℕ) → g * suc n ≤ 32 → g * n ≤ 32
room_before g n h = omega (arith, mul-suc g n)

-- ---- sums over places

pub weighted_add : (g n : ℕ) (a b : ℕ → ℕ) → weighted g n (λ j. a j + b j) ≡ weighted g n a + weighted g n b
weighted_add g n a b = sum_cong n _ _ (λ i l. add-mul (a (suc i)) (b (suc i)) (step g (suc i))) ∙ sum_add n _ _

-- Digits that are congruent have congruent sums.
pub weighted_same : (g n : ℕ) (a b : ℕ → ℕ) → ((j : ℕ) → Near (2 ^ 32) 0 (a j) (b j)) → Near (2 ^ 32) 0 (weighted g n a) (weighted g n b)
weighted_same g n a b h =
    congruent_sum n _ _
    (λ i l.
    let s = step g (suc i) in
    rw (mul_comm (a (suc i)) s, mul_comm (b (suc i)) s) (congruent_scale s (h (suc i))))

-- ---- Horner's rule

unfoldable pub horner : ℕ → ℕ → (ℕ → ℕ) → ℕ
horner g zero d = 0
horner g (suc n) d = horner g n d * 2 ^ g + d (suc n)

pub by_horner : (g n : ℕ) (d : ℕ → ℕ) → g * n ≤ 32 → weighted g n d ≡ horner g n d * step g n
unfolding sum horner
by_horner g zero d h = sym (zero-mul (step g 0))
by_horner g (suc n) d h =
    ap (λ x. x + d (suc n) * step g (suc n))
    (by_horner g n d (room_before g n h) ∙ ap (λ x. horner g n d * x) (step_suc g n h) ∙ sym (mul_assoc (horner g n d) (2 ^ g) (step g (suc n))))
    ∙ sym (add-mul (horner g n d * 2 ^ g) (d (suc n)) (step g (suc n)))

-- n digits below 2^g make up a number below 2^(g·n).
pub horner_lt : (g n : ℕ) (d : ℕ → ℕ) → ((j : ℕ) → 1 ≤ j → j ≤ n → d j < 2 ^ g) → horner g n d < 2 ^ (g * n)
unfolding horner
horner_lt g zero d h = subst (λ k. 0 < 2 ^ k) (sym (mul-zero g)) (pow_pos 0)
horner_lt g (suc n) d h =
    subst (λ x. horner g n d * 2 ^ g + d (suc n) < x) (sym (ap (λ k. 2 ^ k) (mul-suc g n) ∙ pow-add 2 (g * n) g))
    (digits_lt (horner_lt g n d (λ j l u. h j l (omega arith))) (h (suc n) (omega arith) (le_refl (suc n))))

-- At their places they make up a word.
pub weighted_lt : (g n : ℕ) (d : ℕ → ℕ) → g * n ≤ 32 → ((j : ℕ) → 1 ≤ j → j ≤ n → d j < 2 ^ g) → weighted g n d < 2 ^ 32
weighted_lt g n d r h =
    let e : g * n + (32 - g * n) ≡ 32 = omega arith in
    subst (λ x. x < 2 ^ 32) (sym (by_horner g n d r))
    (subst (λ k. horner g n d * step g n < 2 ^ k) e (shl_lt (g * n) (32 - g * n) (horner_lt g n d h)))

-- They are told by the number that they make up.
pub horner_inj : (g n : ℕ) (a b : ℕ → ℕ) → ((j : ℕ) → 1 ≤ j → j ≤ n → a j < 2 ^ g) → ((j : ℕ) → 1 ≤ j → j ≤ n → b j < 2 ^ g)
    → horner g n a ≡ horner g n b → (j : ℕ) → 1 ≤ j → j ≤ n → a j ≡ b j
unfolding horner
horner_inj g zero a b ha hb e j l u = absurd (omega arith)
horner_inj g (suc n) a b ha hb e j l u =
    let a₁ : a (suc n) < 2 ^ g = ha (suc n) (omega arith) (le_refl (suc n)) in
    let b₁ : b (suc n) < 2 ^ g = hb (suc n) (omega arith) (le_refl (suc n)) in
    let last : a (suc n) ≡ b (suc n) =
    sym (digits_mod (horner g n a) a₁) ∙ ap (λ x. x % 2 ^ g) e ∙ digits_mod (horner g n b) b₁ in
    let rest : horner g n a ≡ horner g n b =
    sym (digits_div (horner g n a) a₁) ∙ ap (λ x. x / 2 ^ g) e ∙ digits_div (horner g n b) b₁ in
    ⊎_elim (λ k. horner_inj g n a b (λ i x y. ha i x (omega arith)) (λ i x y. hb i x (omega arith)) rest j l k)
    (λ k. ap a k ∙ last ∙ ap b (sym k)) (le-suc_iff.0 u)

-- ---- the places of a number

-- Place j of t, from 0 to 2^g - 1.
abbrev pub place : ℕ → ℕ → ℕ → ℕ
place g t j = t / step g j % 2 ^ g

-- The places of t, and what is below the last one, make up t.
pub places : (g t n : ℕ) → g * n ≤ 32 → weighted g n (place g t) + t % step g n ≡ t % 2 ^ 32
unfolding sum
places g t zero h = zero-add (t % step g 0) ∙ ap (λ k. t % 2 ^ (32 - k)) (mul-zero g)
places g t (suc n) h =
    add_assoc (weighted g n (place g t)) (place g t (suc n) * step g (suc n)) (t % step g (suc n))
    ∙ ap (λ x. weighted g n (place g t) + x)
    (sym (mod-mul t (pow_pos g) (pow_pos (32 - g * suc n))) ∙ ap (λ x. t % x) (sym (step_suc g n h)))
    ∙ places g t n (room_before g n h)

-- A shift by g goes to the place before.
pub shift_place : (g t j : ℕ) → g * suc j ≤ 32 → t / step g (suc j) / 2 ^ g ≡ t / step g j
shift_place g t j r =
    let e : 32 - g * suc j + g ≡ 32 - g * j = omega (arith, mul-suc g j) in
    shr-shr t (32 - g * suc j) g ∙ ap (λ k. t / 2 ^ k) e

-- A carry out of place 1 is dropped.
pub place_word : (g t j : ℕ) → 1 ≤ j → g * j ≤ 32 → place g (t % 2 ^ 32) j ≡ place g t j
place_word g t j l r =
    let e : 32 ≡ g * j + (32 - g * j) = omega arith in
    let i : g * j ≡ g * (j - 1) + g = ap (λ x. g * x) (omega arith) ∙ mul-suc g (j - 1) in
    ap (λ k. t % 2 ^ k / step g j % 2 ^ g) e
    ∙ ap (λ x. x % 2 ^ g) (field t (g * j) (32 - g * j))
    ∙ ap (λ k. t / step g j % 2 ^ k % 2 ^ g) i
    ∙ mod-mod-pow (t / step g j) (g * (j - 1)) g

-- What is below the last step does not matter.
pub place_low : (g L j x r : ℕ) → g * L ≤ 32 → j ≤ L → r < step g L → place g (x * step g L + r) j ≡ place g (x * step g L) j
place_low g L j x r room h low =
    let e : 32 - g * j ≡ (32 - g * L) + (g * L - g * j) = omega (arith, mul-le-mul_left g h) in
    let k : ℕ = g * L - g * j in
    let lhs : (x * step g L + r) / step g j ≡ x / 2 ^ k =
    ap (λ y. (x * step g L + r) / 2 ^ y) e ∙ sym (shr-shr (x * step g L + r) (32 - g * L) k) ∙ ap (λ y. y / 2 ^ k) (digits_div x low) in
    let rhs : x * step g L / step g j ≡ x / 2 ^ k =
    ap (λ y. x * step g L / 2 ^ y) e ∙ sym (shr-shr (x * step g L) (32 - g * L) k) ∙ ap (λ y. y / 2 ^ k) (shl-shr x (32 - g * L)) in
    ap (λ y. y % 2 ^ g) (lhs ∙ sym rhs)
