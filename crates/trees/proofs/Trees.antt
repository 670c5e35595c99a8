-- The number of the entry that a lookup picks, and the tree: its clauses as equations, and that of its result the phase is, within
-- the sum of the charges, that of the entry. Samples are of any kind.
-- Assumes nothing.
use mathlib.Core.Path.{◌≡◌, refl, ap, ap₂, ◌∙◌}
use mathlib.Core.Logic.{◌⊎◌, inl, inr}
use Prim.Native.Nat.{ℕ, zero, suc, ◌+◌, ◌-◌, ◌*◌, ◌/◌, ◌%◌, ◌^◌, ◌≤◌, ◌<◌}
use native.Mathlib.Nat.{le_refl, le_of_eq, add_comm, mod-eq_of_lt, add-mul-div_right, add-mul-mod_self_right, two-pow-succ, mul-le-mul, eq-or-lt_of_le, le_of_suc-le-suc}
use native.Mathlib.Numerals.{add-one}
use native.Mathlib.Omega.{arith}
use lib.Arith.{digits_div, digits_mod}
use lib.Pow.{pow_pos, pow-add}
use Rattle.torus.specs.Sum.{sum}
use Rattle.torus.proofs.Sums.{sum_cong, sum_append, sum_mul}
use Rattle.torus.proofs.Near.{near_path, near_trans, near_weaken}
use Rattle.ring.proofs.Close.{Close}
use Rattle.trgsw.specs.External.{picked}
use Rattle.trees.specs.Tree.{tree, entry_number}

-- ---- the entry's number

-- There are 2^d entries.
pub entry_number_lt : (bits : ℕ → ℕ) (d : ℕ) → ((i : ℕ) → i < d → bits i ≤ 1) → entry_number bits d < 2 ^ d
unfolding entry_number sum
entry_number_lt bits zero h = omega arith
entry_number_lt bits (suc d) h =
    omega (arith, entry_number_lt bits d (λ i l. h i (omega arith)), two-pow-succ d, mul-le-mul (h d (omega arith)) (le_refl (2 ^ d)))

-- A multiple of a higher power of two changes no digit below it.
digit_low : (e b d i : ℕ) → i < d → (e + b * 2 ^ d) / 2 ^ i % 2 ≡ e / 2 ^ i % 2
digit_low e b d i l =
    let j : ℕ = d - suc i in
    let whole : d ≡ suc i + j = omega arith in
    let split : 2 ^ d ≡ 2 ^ suc i * 2 ^ j = ap (λ n. 2 ^ n) whole ∙ pow-add 2 (suc i) j in
    let same : e + b * 2 ^ d ≡ e + b * 2 ^ j * 2 * 2 ^ i = omega (arith, ap (λ n. b * n) split, ap (λ n. b * (n * 2 ^ j)) (two-pow-succ i)) in
    ap (λ n. n / 2 ^ i % 2) same
    ∙ ap (λ n. n % 2) (add-mul-div_right e (b * 2 ^ j * 2) (pow_pos i))
    ∙ add-mul-mod_self_right (e / 2 ^ i) (b * 2 ^ j) 2

-- The digit of the power itself.
digit_high : (e b d : ℕ) → e < 2 ^ d → b ≤ 1 → (e + b * 2 ^ d) / 2 ^ d % 2 ≡ b
digit_high e b d low l =
    ap (λ n. n / 2 ^ d % 2) (add_comm e (b * 2 ^ d)) ∙ ap (λ n. n % 2) (digits_div b low) ∙ mod-eq_of_lt (omega arith)

-- One selector more.
digit_more : (bits : ℕ → ℕ) (d i : ℕ) → entry_number bits d < 2 ^ d → bits d ≤ 1 → (i < d → entry_number bits d / 2 ^ i % 2 ≡ bits i)
    → (i ≡ d) ⊎ (i < d) → (entry_number bits d + bits d * 2 ^ d) / 2 ^ i % 2 ≡ bits i
digit_more bits d i low bit rest (inl e) = rw e (digit_high (entry_number bits d) (bits d) d low bit)
digit_more bits d i low bit rest (inr l) = digit_low (entry_number bits d) (bits d) d i l ∙ rest l

-- "Entry number h has binary digit i equal to the bit of selector i, selector 0 lowest."
pub entry_number_digit : (bits : ℕ → ℕ) (d : ℕ) → ((i : ℕ) → i < d → bits i ≤ 1) → (i : ℕ) → i < d → entry_number bits d / 2 ^ i % 2 ≡ bits i
unfolding entry_number sum
entry_number_digit bits zero h i l = absurd (omega arith)
entry_number_digit bits (suc d) h i l =
    let low : (j : ℕ) → j < d → bits j ≤ 1 = λ j m. h j (omega arith) in
    digit_more bits d i (entry_number_lt bits d low) (h d (omega arith)) (λ m. entry_number_digit bits d low i m) (eq-or-lt_of_le (le_of_suc-le-suc l))

-- The first r selectors name an entry among the 2^r of a sample, and the others the sample: h = tau·2^r + rho.
entry_number_split : (bits : ℕ → ℕ) (r e : ℕ) → entry_number bits (r + e) ≡ entry_number (λ i. bits (r + i)) e * 2 ^ r + entry_number bits r
unfolding entry_number
entry_number_split bits r e =
    sum_append r e (λ i. bits i * 2 ^ i)
    ∙ ap (λ s. sum r (λ i. bits i * 2 ^ i) + s)
    (sum_cong e _ (λ i. bits (r + i) * 2 ^ i * 2 ^ r) (λ i l. omega (arith, ap (λ n. bits (r + i) * n) (pow-add 2 r i)))
    ∙ sum_mul e (λ i. bits (r + i) * 2 ^ i) (2 ^ r))
    ∙ add_comm _ _

module _ (bits : ℕ → ℕ) (r d : ℕ) (l : r ≤ d) (bit : (i : ℕ) → i < d → bits i ≤ 1) where
  split_at : entry_number bits d ≡ entry_number (λ i. bits (r + i)) (d - r) * 2 ^ r + entry_number bits r
  split_at = let whole : d ≡ r + (d - r) = omega arith in ap (entry_number bits) whole ∙ entry_number_split bits r (d - r)

  low : entry_number bits r < 2 ^ r
  low = entry_number_lt bits r (λ i m. bit i (omega arith))

  -- rho of h,
  pub entry_number_low : entry_number bits d % 2 ^ r ≡ entry_number bits r
  entry_number_low = ap (λ h. h % 2 ^ r) split_at ∙ digits_mod (entry_number (λ i. bits (r + i)) (d - r)) low

  -- and tau.
  pub entry_number_high : entry_number bits d / 2 ^ r ≡ entry_number (λ i. bits (r + i)) (d - r)
  entry_number_high = ap (λ h. h / 2 ^ r) split_at ∙ digits_div (entry_number (λ i. bits (r + i)) (d - r)) low

-- ---- the tree

-- "With d = 0 the result is the entry itself".
pub tree_none : {S : Type 0} (join : (i : ℕ) (x₀ x₁ : S) → S) (entry : (h : ℕ) → S) (d t : ℕ) → d ≡ 0 → tree join entry d t ≡ entry t
unfolding tree
tree_none join entry d t e = rw e refl

-- The last selector joins what the others make of the two halves.
pub tree_more : {S : Type 0} (join : (i : ℕ) (x₀ x₁ : S) → S) (entry : (h : ℕ) → S) (d e t : ℕ) → d ≡ e + 1
    → tree join entry d t ≡ join e (tree join entry e (2 * t)) (tree join entry e (2 * t + 1))
unfolding tree
tree_more join entry d e t h = ap (λ n. tree join entry n t) (h ∙ add-one e)

-- Level by level: "Selector 0 joins entries 2t and 2t + 1, selector 1 joins those results, and so on." The results of selector 0 are the
-- entries of a tree of the other selectors.
pub tree_levels : {S : Type 0} (join : (i : ℕ) (x₀ x₁ : S) → S) (entry : (h : ℕ) → S) (d t : ℕ)
    → tree join entry (suc d) t ≡ tree (λ i. join (suc i)) (λ u. join 0 (entry (2 * u)) (entry (2 * u + 1))) d t
unfolding tree
tree_levels join entry zero t = refl
tree_levels join entry (suc d) t = ap₂ (join (suc d)) (tree_levels join entry d (2 * t)) (tree_levels join entry d (2 * t + 1))

-- What holds of every entry, and of two samples joined if it holds of both, holds of the tree's sample.
pub tree_good : {S : Type 0} (Good : S → Type 0) (join : (i : ℕ) (x₀ x₁ : S) → S) (entry : (h : ℕ) → S) (d t : ℕ)
    → ((h : ℕ) → Good (entry h)) → ((i : ℕ) → i < d → (x₀ x₁ : S) → Good x₀ → Good x₁ → Good (join i x₀ x₁))
    → Good (tree join entry d t)
unfolding tree
tree_good Good join entry zero t had kept = had t
tree_good Good join entry (suc d) t had kept =
    kept d (omega arith) _ _ (tree_good Good join entry d (2 * t) had (λ i l. kept i (omega arith)))
    (tree_good Good join entry d (2 * t + 1) had (λ i l. kept i (omega arith)))

-- Run t of level d depends on its 2^d entries alone, those from t·2^d on.
pub tree_cong : {S : Type 0} (join : (i : ℕ) (x₀ x₁ : S) → S) (f g : (h : ℕ) → S) (d t : ℕ)
    → ((h : ℕ) → t * 2 ^ d ≤ h → h < suc t * 2 ^ d → f h ≡ g h) → tree join f d t ≡ tree join g d t
unfolding tree
tree_cong join f g zero t same = same t (omega arith) (omega arith)
tree_cong join f g (suc d) t same =
    let whole : t * 2 ^ suc d ≡ 2 * t * 2 ^ d = omega (arith, ap (λ n. t * n) (two-pow-succ d)) in
    ap₂ (join d)
    (tree_cong join f g d (2 * t) (λ h a b. same h (omega arith) (omega (arith, two-pow-succ d))))
    (tree_cong join f g d (2 * t + 1) (λ h a b. same h (omega arith) (omega (arith, two-pow-succ d))))

-- A bit picks the first or the second of two that follow each other.
picked_at : {S : Type 0} (f : ℕ → S) (a m : ℕ) → m ≤ 1 → picked m (f a) (f (a + 1)) ≡ f (a + m)
picked_at f a zero l = ap f (omega arith)
picked_at f a (suc zero) l = refl
picked_at f a (suc (suc m)) l = absurd (omega arith)

module _ {S : Type 0} (N : ℕ) (phase : S → ℕ → ℕ) (Good : S → Type 0) (join : (i : ℕ) (x₀ x₁ : S) → S) (entry : (h : ℕ) → S)
    (bits charge : ℕ → ℕ) where
  -- The phases of run t of level d and of the entry that the bits name in it.
  abbrev Found : (d t : ℕ) → Type 0
  Found d t = Close (2 ^ 32) N (sum d charge) (phase (tree join entry d t)) (phase (entry (t * 2 ^ d + entry_number bits d)))

  found_none : (t : ℕ) → Found 0 t
  unfolding tree entry_number sum
  found_none t i l = near_path (ap (λ h. phase (entry h) i) {x = t} {y = t * 1 + 0} (omega arith))

  -- One selector more: what was found in the half that its bit names is found in the whole.
  found_more : (d t : ℕ) → bits d ≤ 1
      → Close (2 ^ 32) N (charge d) (phase (tree join entry (suc d) t)) (phase (picked (bits d) (tree join entry d (2 * t)) (tree join entry d (2 * t + 1))))
      → Found d (2 * t + bits d) → Found (suc d) t
  unfolding entry_number sum
  found_more d t bit joins found i l =
      let same : (2 * t + bits d) * 2 ^ d + entry_number bits d ≡ t * 2 ^ suc d + (entry_number bits d + bits d * 2 ^ d) =
      omega (arith, ap (λ n. t * n) (two-pow-succ d)) in
      rw (← same) (near_weaken (le_of_eq (add_comm (charge d) (sum d charge))) (near_trans (joins i l)
      (rw (picked_at (tree join entry d) (2 * t) (bits d) bit) (found i l))))

  -- If each selector's join is within its charge of the sample that its bit names, the lookup is within the sum of the charges of
  -- the entry that the bits name. Joins may ask that the first sample is a good one.
  pub tree_near : (d t : ℕ)
      → ((h : ℕ) → Good (entry h))
      → ((i : ℕ) → i < d → (x₀ x₁ : S) → Good x₀ → Good x₁ → Good (join i x₀ x₁))
      → ((i : ℕ) → i < d → bits i ≤ 1)
      → ((i : ℕ) → i < d → (x₀ x₁ : S) → Good x₀ → Close (2 ^ 32) N (charge i) (phase (join i x₀ x₁)) (phase (picked (bits i) x₀ x₁)))
      → Close (2 ^ 32) N (sum d charge) (phase (tree join entry d t)) (phase (entry (t * 2 ^ d + entry_number bits d)))
  unfolding tree
  tree_near zero t had kept bit joins = found_none t
  tree_near (suc d) t had kept bit joins =
      found_more d t (bit d (omega arith))
      (joins d (omega arith) _ _ (tree_good Good join entry d (2 * t) had (λ i l. kept i (omega arith))))
      (tree_near d (2 * t + bits d) had (λ i l. kept i (omega arith)) (λ i l. bit i (omega arith)) (λ i l. joins i (omega arith)))
