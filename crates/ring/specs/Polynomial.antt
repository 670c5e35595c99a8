-- Polynomials modulo X^N + 1. "A polynomial has N coefficients, constant first." It is given by its coefficients, a function
-- of the place; of a list of words these are its elements.
-- Assumes nothing.
use Rattle.std.specs.Prelude.{◌≡◌, Bool, cond, ◌&&◌, List, ℕ, suc, ◌+◌, ◌-◌, ◌*◌, ◌%◌, ◌^◌, ◌≤◌, ◌<◌, eqb, leb, ltb, length, get_or}
use Rattle.std.specs.Int.Count.{ones, count_trailing_zeros}
use Rattle.torus.specs.Sum.{sum, tabulate}
use Rattle.torus.specs.Word.{add, sub, magnitude}
use Rattle.torus.specs.Bytes.{words}

-- A degree N: "a power of two from 1 to 1,024", which "has exactly one bit set".
pub record Degree (N : ℕ) : Type 0 where
  pub power : ones N ≡ 1
  pub most : N ≤ 1024

-- The same as a test.
abbrev pub is_degree : ℕ → Bool
is_degree N = eqb (ones N) 1 && leb N 1024

-- The exponent of a degree, which is a power of two.
abbrev pub log : ℕ → ℕ
log N = count_trailing_zeros 64 N

-- The coefficients of a list of words.
abbrev pub coefficients : List ℕ → ℕ → ℕ
coefficients l i = get_or l i 0

-- Equal in the first N coefficients.
abbrev pub Agree : ℕ → (ℕ → ℕ) → (ℕ → ℕ) → Type 0
Agree N p q = (k : ℕ) → k < N → p k ≡ q k

-- Of the terms of y·p that belong to coefficient k, those that stay below X^N: y_i·p_(k-i) for i up to k.
abbrev pub inside : (ℕ → ℕ) → (ℕ → ℕ) → ℕ → ℕ
inside y p k = sum (suc k) (λ i. y i * p (k - i))

-- And those that pass the end: y_i·p_(N+k-i) for i above k.
abbrev pub passed : ℕ → (ℕ → ℕ) → (ℕ → ℕ) → ℕ → ℕ
passed N y p k = sum (N - suc k) (λ i. y (suc k + i) * p (N + k - (suc k + i)))

-- Coefficient k of the product y·p, as a word. "Products are modulo X^N + 1: a term that passes the end returns with its sign
-- changed."
unfoldable pub product : ℕ → (ℕ → ℕ) → (ℕ → ℕ) → ℕ → ℕ
product N y p k = sub (inside y p k % 2 ^ 32) (passed N y p k % 2 ^ 32)

-- The words of a polynomial to which the product of two others is added.
unfoldable pub add_product : ℕ → List ℕ → List ℕ → List ℕ → List ℕ
add_product N out y p = tabulate N (λ k. add (coefficients out k) (product N (coefficients y) (coefficients p) k))

-- Coefficient t of X^(-r)·p, for r up to N: every term comes down by r places, and "a term that passes the end returns with its
-- sign changed".
unfoldable pub rotated : (N r : ℕ) (p : ℕ → ℕ) (t : ℕ) → ℕ
rotated N r p t = cond (ltb (t + r) N) (p (t + r)) (sub 0 (p (t + r - N)))

-- What the product's code asks of its bytes: three polynomials of one degree, one of them small. Digits are small, and so are
-- the 0s and 1s of a key.
pub record Factors (N : ℕ) (out small row : List ℕ) : Type 0 where
  pub degree : Degree N
  pub out_length : length out ≡ 4 * N
  pub small_length : length small ≡ 4 * N
  pub row_length : length row ≡ 4 * N
  pub small_words : (i : ℕ) → i < N → magnitude (coefficients (words small) i) ≤ 2 ^ 15
