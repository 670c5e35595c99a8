-- What the product's code needs: its table, its loops' steps, and that the sum of all rows is the product.
-- Assumes nothing.
use mathlib.Core.Path.{◌≡◌, refl, ap, ap₂, sym, ◌∙◌}
use mathlib.Core.Logic.{◌⊎◌, inl, inr}
use mathlib.Core.List.{List}
use Prim.Native.Nat.{ℕ, zero, suc, ◌+◌, ◌-◌, ◌*◌, ◌%◌, ◌^◌, ◌≤◌, ◌<◌}
use native.Mathlib.Nat.{zero-add, zero-mul, add_assoc, add_comm, mul_comm, eq-or-lt_of_le}
use native.Mathlib.Omega.{arith}
use lib.ListN.{length, get_or, set, take, drop, length-set}
use lib.Seq.{get_or-set_same, get_or-set_other, get_or-take, get_or-drop}
use Rattle.torus.specs.Sum.{sum, tabulate}
use Rattle.torus.specs.Word.{add, sub, mul}
use Rattle.torus.proofs.Sums.{sum_cong, sum_mul, summed_more}
use Rattle.torus.proofs.Lists.{tabulate_cong}
use Rattle.torus.proofs.Near.{Near, near_path, near_refl, congruent_trans, congruent_add, congruent_scale, congruent_sum, near_eq, sub_near}
use Rattle.ring.specs.Polynomial.{coefficients, Agree, inside, passed, product, add_product}
use Rattle.schoolbook.specs.Rows.{BothSigns, row_sum}
use Rattle.ring.proofs.Terms.{sum_split, minus_word}

-- ---- the table

signs_case : (n m i : ℕ) (p t : List ℕ) (v w : ℕ) → n + n ≤ length t → m < n → BothSigns n p m t → w ≡ coefficients p m → v ≡ sub 0 w
    → (i ≡ m) ⊎ (i < m)
    → (coefficients (set (set t m v) (n + m) w) i ≡ sub 0 (coefficients p i)) × (coefficients (set (set t m v) (n + m) w) (n + i) ≡ coefficients p i)
signs_case n m i p t v w len l h ew ev (inl e) = rw e (
  get_or-set_other (set t m v) (n + m) m w 0 (omega arith) ∙ get_or-set_same t m v 0 (omega arith) ∙ ev ∙ ap (sub 0) ew,
  get_or-set_same (set t m v) (n + m) w 0 (omega (arith, length-set t m v)) ∙ ew,
)
signs_case n m i p t v w len l h ew ev (inr li) = (
  get_or-set_other (set t m v) (n + m) i w 0 (omega arith) ∙ get_or-set_other t m i v 0 (omega arith) ∙ (h i li).0,
  get_or-set_other (set t m v) (n + m) (n + i) w 0 (omega arith) ∙ get_or-set_other t m (n + i) v 0 (omega arith) ∙ (h i li).1,
)

-- One coefficient more.
pub signs_more : (n m : ℕ) (p t : List ℕ) (v w : ℕ) → n + n ≤ length t → m < n → BothSigns n p m t → w ≡ coefficients p m → v ≡ sub 0 w
    → BothSigns n p (m + 1) (set (set t m v) (n + m) w)
signs_more n m p t v w len l h ew ev i li =
    let le : i ≤ m = omega arith in
    signs_case n m i p t v w len l h ew ev (eq-or-lt_of_le le)

-- ---- rows

-- To add 0 times anything changes nothing.
pub add_none : (n : ℕ) (l : List ℕ) (g : ℕ → ℕ) → ((i : ℕ) → get_or l i 0 < 2 ^ 32) → Agree n (coefficients l) (λ k. add (coefficients l k) (mul 0 (g k)))
add_none n l g h k b = let word : get_or l k 0 < 2 ^ 32 = h k in omega (arith, zero-mul (g k))

pub row_none : (n : ℕ) (y t acc : List ℕ) → Agree n (coefficients acc) (λ k. 0) → Agree n (coefficients acc) (λ k. row_sum n y t 0 k % 2 ^ 32)
unfolding row_sum sum
row_none n y t acc h = h

-- One row more: d times the words of the table from place m + 1 on.
pub row_more : (n m d : ℕ) (y t acc acc' : List ℕ) → d ≡ coefficients y (n - (m + 1)) → Agree n (coefficients acc) (λ k. row_sum n y t m k % 2 ^ 32)
    → Agree n (coefficients acc') (λ k. add (coefficients acc k) (mul d (coefficients t (m + 1 + k))))
    → Agree n (coefficients acc') (λ k. row_sum n y t (m + 1) k % 2 ^ 32)
unfolding row_sum
row_more n m d y t acc acc' ed before step k b =
    step k b ∙ summed_more m _ _ _ (before k b) (ap (λ c. mul c (coefficients t (m + 1 + k))) ed)

-- The same as the code goes, down from the i-th row: the words of the table are a part of it that is lent.
pub row_down : (n i q d : ℕ) (y t acc acc' : List ℕ) → 1 ≤ i → i ≤ n → n ≤ q → d ≡ coefficients y (i - 1)
    → Agree n (coefficients acc) (λ k. row_sum n y t (n - i) k % 2 ^ 32)
    → Agree n (coefficients acc') (λ k. add (coefficients acc k) (mul d (coefficients (take q (drop (n - (i - 1)) t)) k)))
    → Agree n (coefficients acc') (λ k. row_sum n y t (n - (i - 1)) k % 2 ^ 32)
row_down n i q d y t acc acc' some within whole ed before step =
    let e : n - (i - 1) ≡ n - i + 1 = omega arith in
    let place : i - 1 ≡ n - (n - i + 1) = omega arith in
    rw e (row_more n (n - i) d y t acc acc' (ed ∙ ap (coefficients y) place) before
    (λ k b.
    step k b
    ∙ ap (λ x. add (coefficients acc k) (mul d x))
    (get_or-take q (drop (n - (i - 1)) t) k 0 (omega arith) ∙ get_or-drop (n - (i - 1)) t k 0 ∙ ap (λ j. coefficients t (j + k)) e)))

-- A sum, with its first term apart.
sum_first : (n : ℕ) (f : ℕ → ℕ) → sum (suc n) f ≡ f 0 + sum n (λ i. f (suc i))
unfolding sum
sum_first zero f = omega arith
sum_first (suc n) f = ap (λ x. x + f (suc n)) (sum_first n f) ∙ add_assoc (f 0) _ _

-- The same sum, with its last term first.
sum_reverse : (n : ℕ) (f : ℕ → ℕ) → sum n (λ j. f (n - (j + 1))) ≡ sum n f
unfolding sum
sum_reverse zero f = refl
sum_reverse (suc n) f =
    let first : suc n - (n + 1) ≡ 0 = omega arith in
    ap₂ ◌+◌ (sum_cong n _ _ (λ j l. ap f (omega arith)) ∙ sum_reverse n (λ i. f (suc i))) (ap f first) ∙ add_comm _ (f 0) ∙ sym (sum_first n f)

module _ (n : ℕ) (y p t : List ℕ) (words : (i : ℕ) → i < n + n → coefficients t i < 2 ^ 32) (signs : BothSigns n p n t) (k : ℕ) (l : k < n) where
  low : (i : ℕ) → i < suc k → coefficients t (n - i + k) ≡ coefficients p (k - i)
  low i li = let e : n - i + k ≡ n + (k - i) = omega arith in ap (coefficients t) e ∙ (signs (k - i) (omega arith)).1

  high : (i : ℕ) → i < n - suc k
      → Near (2 ^ 32) 0 (coefficients y (suc k + i) * coefficients t (n - (suc k + i) + k)) (coefficients y (suc k + i) * coefficients p (n + k - (suc k + i)) * 4294967295)
  high i li =
      let j : ℕ = n + k - (suc k + i) in
      let e : n - (suc k + i) + k ≡ j = omega arith in
      let lj : j < n = omega arith in
      let word : coefficients p j < 2 ^ 32 = rw ((signs j lj).1) at (words (n + j) (omega arith)) in
      let negated : Near (2 ^ 32) 0 (coefficients t (n - (suc k + i) + k)) (4294967295 * coefficients p j) =
      congruent_trans (near_path (ap (coefficients t) e ∙ (signs j lj).0)) (congruent_trans (sub_near 0 (coefficients p j) (omega arith)) (near_path (zero-add _))) in
      congruent_trans (congruent_scale (coefficients y (suc k + i)) negated) (near_path (omega arith))

  turned : (j : ℕ) → j < n
      → coefficients y (n - (j + 1)) * coefficients t (j + 1 + k) ≡ coefficients y (n - (j + 1)) * coefficients t (n - (n - (j + 1)) + k)
  turned j lj = let e : j + 1 ≡ n - (n - (j + 1)) = omega arith in ap (λ i. coefficients y (n - (j + 1)) * coefficients t (i + k)) e

  -- The sum of all rows is the product.
  pub rows_product : row_sum n y t n k % 2 ^ 32 ≡ product n (coefficients y) (coefficients p) k
  unfolding row_sum product
  rows_product =
      ap (λ x. x % 2 ^ 32)
      (sum_cong n _ _ turned ∙ sum_reverse n (λ i. coefficients y i * coefficients t (n - i + k)) ∙ sum_split n k _ l
      ∙ ap (λ x. x + sum (n - suc k) (λ i. coefficients y (suc k + i) * coefficients t (n - (suc k + i) + k)))
      (sum_cong (suc k) _ _ (λ i li. ap (λ x. coefficients y i * x) (low i li))))
      ∙ near_eq {Q = 2 ^ 32} (congruent_add (near_refl (inside (coefficients y) (coefficients p) k))
      (congruent_trans (congruent_sum (n - suc k) _ _ high) (near_path (sum_mul (n - suc k) _ 4294967295 ∙ mul_comm _ 4294967295))))
      ∙ sym (minus_word (inside (coefficients y) (coefficients p) k) (passed n (coefficients y) (coefficients p) k))

-- The sums added to out make up the polynomial with the product added.
pub sums_added : (n : ℕ) (out y p t sums : List ℕ) → ((i : ℕ) → i < n + n → coefficients t i < 2 ^ 32) → BothSigns n p n t
    → Agree n (coefficients sums) (λ k. row_sum n y t n k % 2 ^ 32)
    → tabulate n (λ k. add (coefficients out k) (coefficients sums k)) ≡ add_product n out y p
unfolding add_product
sums_added n out y p t sums words signs h =
    tabulate_cong n _ _ (λ k l. ap (add (coefficients out k)) (h k l ∙ rows_product n y p t words signs k l))
