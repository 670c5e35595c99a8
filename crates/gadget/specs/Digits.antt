-- The gadget and the signed digits of a word. A digit is held as the word whose centred reading it is.
-- In the thesis (source document 001, Lemma 3.2.1) 2^g is the base, half of it the quality and E the precision of the
-- decomposition.
-- Assumes nothing.
use Rattle.std.specs.Prelude.{◌⊎◌, Bool, ◌&&◌, cond, List, ℕ, suc, ◌+◌, ◌-◌, ◌*◌, ◌/◌, ◌%◌, ◌^◌, ◌≤◌, ◌<◌, leb, ltb, get_or}
use Rattle.torus.specs.Sum.{sum, tabulate}
use Rattle.torus.specs.Word.{sub}

-- "The gadget has base 2^g and L digits, with g·L at most 32." The other limits are those of refusal 2.
pub record Lawful (g L : ℕ) : Type 0 where
  pub low : 1 ≤ g
  pub high : g ≤ 16
  pub some : 1 ≤ L
  pub room : g * L ≤ 32

-- The same as a test. Refused: "g not 1 to 16, L is 0, or g·L above 32".
abbrev pub is_lawful : ℕ → ℕ → Bool
is_lawful g L = leb 1 g && (leb g 16 && (leb 1 L && leb (g * L) 32))

-- "Step h_j = 2^(32 - g·j) for j from 1 to L."
abbrev pub step : ℕ → ℕ → ℕ
step g j = 2 ^ (32 - g * j)

-- "E = 2^(31 - g·L), or 0 if g·L = 32": half of the last step.
unfoldable pub precision : ℕ → ℕ → ℕ
precision g L = cond (ltb (g * L) 32) (2 ^ (31 - g * L)) 0

-- "round it to the nearest multiple of 2^(32 - g·L), ties up, modulo 2^32"
unfoldable pub rounded : ℕ → ℕ → ℕ → ℕ
rounded g L w = (w + precision g L) / step g L * step g L % 2 ^ 32

-- "The rounding remainder": the word less what it is rounded to.
abbrev pub remainder : ℕ → ℕ → ℕ → ℕ
remainder g L w = sub w (rounded g L w)

-- "the sum of digit_j times h_j", before it is reduced modulo 2^32
abbrev pub weighted : ℕ → ℕ → (ℕ → ℕ) → ℕ
weighted g L d = sum L (λ i. d (suc i) * step g (suc i))

-- Half of the base: the greatest magnitude of a digit.
abbrev pub half : ℕ → ℕ
half g = 2 ^ (g - 1)

-- "every digit from -2^(g-1) to 2^(g-1) - 1"
abbrev pub InRange : ℕ → ℕ → Type 0
InRange g d = (d < half g) ⊎ ((2 ^ 32 ≤ d + half g) × (d < 2 ^ 32))

-- Place j of t in base 2^g, from 0 to 2^g - 1, less half of the base.
abbrev pub signed : ℕ → ℕ → ℕ → ℕ
signed g t j = sub (t / step g j % 2 ^ g) (half g)

-- Half of the base at each of the L places.
abbrev pub balance : ℕ → ℕ → ℕ
balance g L = weighted g L (λ j. half g)

-- Digit j of w: to the rounded word half of the base is added at every place, and taken from each place again. What passes a
-- place carries into the one before it. "A carry out of digit 1 is dropped." That these are the only digits in range with
-- the rounded word as their sum is the law `digits_unique`.
unfoldable pub digit : ℕ → ℕ → ℕ → ℕ → ℕ
digit g L w j = signed g (rounded g L w + balance g L) j

-- All L digits of w, digit 1 first.
unfoldable pub digits : ℕ → ℕ → ℕ → List ℕ
digits g L w = tabulate L (λ i. digit g L w (suc i))

-- The digit polynomial: digit j of each of the first N words of x. In the thesis (Algorithm 1, step 5) it is u_(i,p), with j for p.
unfoldable pub digit_polynomial : (N g L j : ℕ) → List ℕ → List ℕ
digit_polynomial N g L j x = tabulate N (λ i. digit g L (get_or x i 0) j)

-- What `write_digits` adds to a word in place of rounding it and adding the balance.
unfoldable pub offset : ℕ → ℕ → ℕ
offset g L = precision g L + balance g L
