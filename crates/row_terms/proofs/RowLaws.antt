-- The rows of a block, and the digit polynomials that go with them.
-- Assumes nothing.
use mathlib.Core.Path.{◌≡◌, ap, ap₂, sym, ◌∙◌}
use mathlib.Core.List.{List}
use mathlib.Core.Logic.{◌⊎◌, inl, inr}
use Prim.Native.Nat.{ℕ, zero, suc, ◌+◌, ◌*◌, ◌/◌, ◌%◌, ◌≤◌, ◌<◌}
use native.Mathlib.Nat.{le_of_suc-le-suc, eq-or-lt_of_le, mul-le-mul, mul-zero, zero-lt-suc, mul-le-mul_left, mul-le-mul_right, div-lt_iff_lt-mul}
use native.Mathlib.Numerals.{add-one}
use native.Mathlib.Omega.{arith}
use lib.ListN.{get_or, length, take, drop}
use Rattle.torus.specs.Sum.{tabulate}
use Rattle.torus.specs.Bytes.{words}
use Rattle.torus.proofs.Lists.{tabulate_at, tabulate_cong}
use Rattle.torus.proofs.Parts.{words_lent}
use Rattle.torus.proofs.Joined.{chunk_at}
use Rattle.gadget.specs.Digits.{digit, digit_polynomial}
use Rattle.ring.specs.Polynomial.{Degree, Agree, coefficients, log}
use Rattle.ring.proofs.Degrees.{degree_power}
use Rattle.twiddles.specs.declared.Prime.{Prime}
use Rattle.residues.specs.Residues.{Within}
use Rattle.held_sums.specs.Sums.{Held, OneMore, Told, ReadBack}
use Rattle.held_sums.proofs.HeldLaws.{none_more}
use Rattle.row_terms.specs.declared.Terms.{Terms}
use Rattle.row_terms.specs.Rows.{Operands, block_size, row, row_digits, digits_from, rows_from}

-- One row more is held.
pub held_more : (prime : Prime) (N k g L : ℕ) (block x : List ℕ) (r j : ℕ) (sums sums' : List ℕ)
    → Held prime (log N) N k j (digits_from N g L x r) (rows_from N k block r) sums
    → OneMore prime (log N) N k (tabulate N (row_digits N g L x (r + j))) (row N k (r + j) block) sums sums'
    → Held prime (log N) N k (j + 1) (digits_from N g L x r) (rows_from N k block r) sums'
unfolding OneMore
held_more prime N k g L block x r j sums sums' h more = rw (add-one j)
    (more j (digits_from N g L x r) (rows_from N k block r) (λ i l. sym (tabulate_at N (row_digits N g L x (r + j)) i l))
    (λ c lc i l. sym (chunk_at N c (row N k (r + j) block) i l)) h)

-- A row whose digits are all 0 leaves the sums as they are. z is how many digits 0 there are at least.
pub none_held : (prime : Prime) (N k z : ℕ) (digits row sums : List ℕ) → Degree N → z ≡ N → Agree z (coefficients digits) (λ i. 0)
    → OneMore prime (log N) N k digits row sums sums
none_held prime N k z digits row sums d e h = none_more prime _ N k digits row sums (degree_power N d) (rw e at h)

pub terms_told : (prime : Prime) (N k g L : ℕ) (block x : List ℕ) (r m : ℕ) (sums a : List ℕ)
    → Held prime (log N) N k m (digits_from N g L x r) (rows_from N k block r) sums → ReadBack prime (log N) N k sums a
    → Told prime N k m (digits_from N g L x r) (rows_from N k block r) a
unfolding ReadBack
terms_told prime N k g L block x r m sums a held read = read m (digits_from N g L x r) (rows_from N k block r) held

-- Two polynomials of up to 1,024 coefficients.
pub size_le : (k n : ℕ) → k ≤ 1 → n ≤ 1024 → suc k * n ≤ 2048
size_le k n lk ln = let l : suc k ≤ 2 = omega arith in mul-le-mul l ln

-- ---- room

-- The polynomial that a row is for is a mask or the body.
pub component_lt : (k L r : ℕ) → r < suc k * L → r / L < suc k
component_lt k zero r l = absurd (omega (arith, mul-zero (suc k)))
component_lt k (suc L) r l = (div-lt_iff_lt-mul (zero-lt-suc L)).1 l

-- That polynomial lies inside a sample, and the row inside a block.
pub component_inside : (N k L r : ℕ) → r < suc k * L → suc (r / L) * N ≤ suc k * N
component_inside N k L r l = mul-le-mul_right N (component_lt k L r l)

pub row_inside : (N k L r : ℕ) → r < suc k * L → suc r * (suc k * N) ≤ block_size N k L
row_inside N k L r l = mul-le-mul_right (suc k * N) l

-- The digit polynomial that goes with row r, from the polynomial of x that is lent as bytes from p on.
pub row_digits_at : (N g L j r p q : ℕ) (x : List ℕ) → p ≡ 4 * (r / L * N) → q ≡ 4 * N → j ≡ suc (r % L)
    → digit_polynomial N g L j (words (take q (drop p x))) ≡ tabulate N (row_digits N g L (words x) r)
unfolding digit_polynomial
row_digits_at N g L j r p q x ep eq ej =
    tabulate_cong N _ _ (λ i l. ap₂ (digit g L) (ap (λ ws. get_or ws i 0) (words_lent (r / L * N) N p q x ep eq) ∙ chunk_at N (r / L) (words x) i l) ej)

-- ---- few rows, digits that are 0, the words of a block

-- A batch of few rows is within what one of fifteen is within.
pub within_few : (R : ℕ) (l : List ℕ) → R ≤ 15 → Within R l → Within 15 l
within_few R l few h i li = omega (arith, h i li, mul-le-mul_right 1152921504606846976 few)

-- A polynomial that is 0 as far as place i, and there too.
pub agree_more : (i : ℕ) (f : ℕ → ℕ) → Agree i f (λ j. 0) → f i ≡ 0 → Agree (i + 1) f (λ j. 0)
agree_more i f h e j l = go (eq-or-lt_of_le (le_of_suc-le-suc (rw (add-one i) at l)))
  where
    go : (j ≡ i) ⊎ (j < i) → f j ≡ 0
    go (inl g) = ap f g ∙ e
    go (inr g) = h j g

-- The terms of an external product, with room for a digit polynomial, are what Operands asks for.
pub operands : (t : Terms) (room : List ℕ) → length room ≡ 4 * t.n → Operands t.n t.k t.gadget.g t.gadget.l room t.block.now t.x.now
operands t room e = record { lawful = t.gadget.lawful; room_length = e; block_length = t.block_length; x_length = t.x_length }

-- A block has no fewer words than rows.
pub rows_fit : (k l n : ℕ) → 0 < n → suc k * l ≤ suc k * l * (suc k * n)
rows_fit k l n h =
    let some : 1 ≤ suc k * n = omega (arith, mul-le-mul (zero-lt-suc k) h) in
    omega (arith, mul-le-mul_left (suc k * l) some)
