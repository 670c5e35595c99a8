-- The digits of a word as a list, and digit polynomials.
-- Assumes nothing.
use mathlib.Core.Path.{◌≡◌, sym, ap, ◌∙◌}
use mathlib.Core.Logic.{⊎_elim}
use mathlib.Core.List.{List, ◌++◌}
use Prim.Native.Nat.{ℕ, zero, suc, ◌+◌, ◌-◌, ◌*◌, ◌%◌, ◌^◌, ◌≤◌, ◌<◌, zero-le}
use native.Mathlib.Nat.{le_trans, eq-or-lt_of_le}
use native.Mathlib.Omega.{arith}
use lib.ListN.{length, get_or, set, replicate, length-append, length-replicate, get_or-replicate, get_or-append}
use lib.Seq.{ext_get_or, get_or-append-add, get_or-set_same, get_or-set_other}
use Rattle.torus.specs.Sum.{sum, tabulate}
use Rattle.torus.specs.Word.{magnitude}
use Rattle.torus.proofs.Lists.{length_tabulate, tabulate_at}
use Rattle.gadget.specs.Digits.{Lawful, InRange, step, rounded, digit, digits, digit_polynomial}
use Rattle.gadget.proofs.Laws.{digits_unique, digit_magnitude, half_le}

pub length_digits : (g L w : ℕ) → length (digits g L w) ≡ L
unfolding digits
length_digits g L w = length_tabulate L (λ i. digit g L w (suc i))

pub digits_at : (g L w i : ℕ) → i < L → get_or (digits g L w) i 0 ≡ digit g L w (suc i)
unfolding digits
digits_at g L w i h = tabulate_at L (λ i. digit g L w (suc i)) i h

-- The list of digits is the only one of L digits in range with the rounded word as their sum.
pub list_unique : (g L w : ℕ) (ds : List ℕ) → Lawful g L → length ds ≡ L → ((i : ℕ) → i < L → InRange g (get_or ds i 0))
    → sum L (λ i. get_or ds i 0 * step g (suc i)) % 2 ^ 32 ≡ rounded g L w → ds ≡ digits g L w
list_unique g L w ds ok len h e =
    ext_get_or 0 ds (digits g L w) (len ∙ sym (length_digits g L w))
    (λ i l. let b : i < L = omega arith in digits_unique g L w at ok range e (suc i) (omega arith) b ∙ sym (digits_at g L w i b))
  where
    at : ℕ → ℕ
    at zero = 0
    at (suc i) = get_or ds i 0

    range : (j : ℕ) → 1 ≤ j → j ≤ L → InRange g (at j)
    range zero l u = absurd (omega arith)
    range (suc i) l u = h i u

-- ---- digit polynomials

pub digit_polynomial_at : (N g L j : ℕ) (x : List ℕ) (i : ℕ) → i < N → get_or (digit_polynomial N g L j x) i 0 ≡ digit g L (get_or x i 0) j
unfolding digit_polynomial
digit_polynomial_at N g L j x i h = tabulate_at N _ i h

-- Its coefficients are small enough for the product kernel.
pub digit_polynomial_small : (N g L j : ℕ) (x : List ℕ) → Lawful g L → (i : ℕ) → i < N
    → magnitude (get_or (digit_polynomial N g L j x) i 0) ≤ 2 ^ 15
digit_polynomial_small N g L j x ok i h =
    rw (digit_polynomial_at N g L j x i h) (le_trans (digit_magnitude g L (get_or x i 0) j ok) (half_le g ok.high))

-- ---- L digits, whichever they are, and zeros up to 32

abbrev listed : ℕ → (ℕ → ℕ) → List ℕ
listed L d = tabulate L (λ i. d (suc i))

abbrev pub padded : ℕ → (ℕ → ℕ) → List ℕ
padded L d = listed L d ++ replicate (32 - L) 0

listed_length : (L : ℕ) (d : ℕ → ℕ) → length (listed L d) ≡ L
listed_length L d = length_tabulate L (λ i. d (suc i))

padded_length : (L : ℕ) (d : ℕ → ℕ) → L ≤ 32 → length (padded L d) ≡ 32
padded_length L d h =
    omega (arith, length-append (listed L d) (replicate (32 - L) 0), listed_length L d, length-replicate {A = ℕ} (32 - L) 0)

padded_low : (L : ℕ) (d : ℕ → ℕ) (i : ℕ) → i < L → get_or (padded L d) i 0 ≡ d (suc i)
padded_low L d i h =
    get_or-append (listed L d) (replicate (32 - L) 0) 0 i (omega (arith, listed_length L d)) ∙ tabulate_at L (λ i. d (suc i)) i h

padded_high : (L : ℕ) (d : ℕ → ℕ) (i : ℕ) → L ≤ i → i < 32 → get_or (padded L d) i 0 ≡ 0
padded_high L d i l u =
    let e : i ≡ length (listed L d) + (i - L) = omega (arith, listed_length L d) in
    ap (λ k. get_or (padded L d) k 0) e
    ∙ get_or-append-add (listed L d) (replicate (32 - L) 0) (i - L) 0
    ∙ get_or-replicate (32 - L) (i - L) 0 0 (omega arith)

-- out has every digit after the first j, and the zeros.
abbrev pub Laid : ℕ → (ℕ → ℕ) → ℕ → List ℕ → Type 0
Laid L d j out = (i : ℕ) → j ≤ i → i < 32 → get_or out i 0 ≡ get_or (padded L d) i 0

pub laid_none : (L : ℕ) (d : ℕ → ℕ) → Laid L d L (replicate 32 0)
laid_none L d i l u = get_or-replicate 32 i 0 0 u ∙ sym (padded_high L d i l u)

-- One digit more, before those that are there.
pub laid_more : (L : ℕ) (d : ℕ → ℕ) (j x : ℕ) (out : List ℕ) → length out ≡ 32 → L ≤ 32 → 1 ≤ j → j ≤ L → x ≡ d j → Laid L d j out → Laid L d (j - 1) (set out (j - 1) x)
laid_more L d j x out len h l u e f i a b =
    ⊎_elim
    (λ here.
    let last : suc (j - 1) ≡ j = omega arith in
    ap (λ k. get_or (set out (j - 1) x) k 0) (sym here)
    ∙ get_or-set_same out (j - 1) x 0 (omega arith)
    ∙ e
    ∙ ap d (sym last)
    ∙ sym (padded_low L d (j - 1) (omega arith))
    ∙ ap (λ k. get_or (padded L d) k 0) here)
    (λ past. get_or-set_other out (j - 1) i x 0 (omega arith) ∙ f i (omega arith) b)
    (eq-or-lt_of_le a)

pub laid_all : (L : ℕ) (d : ℕ → ℕ) (out : List ℕ) → length out ≡ 32 → L ≤ 32 → Laid L d 0 out → out ≡ padded L d
laid_all L d out len h f = ext_get_or 0 out (padded L d) (len ∙ sym (padded_length L d h)) (λ i l. f i zero-le (omega arith))
