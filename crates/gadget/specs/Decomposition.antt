-- The gadget decomposition of a word in the order of the thesis (source document 001, Lemma 3.2.1 and Algorithm 1): the closest multiple of
-- the last step first, then digit after digit. The thesis' base B_g is 2^g here, its l is L, its p is j, and its 1/B_g^p is the word
-- `step g j`. Document 01's digits stand in `Digits`. That both give every word the same digits and the same remainder is the law
-- `same_decomposition`.
-- Assumes nothing.
use Rattle.std.specs.Prelude.{cond, List, ℕ, zero, suc, ◌+◌, ◌-◌, ◌*◌, ◌/◌, ◌%◌, ◌^◌, leb, get_or}
use Rattle.torus.specs.Sum.{tabulate}
use Rattle.torus.specs.Word.{sub}
use Rattle.gadget.specs.Digits.{step, half}

-- Step 1, "the closest multiple" of the last step h_L: w/h_L + 1/2 rounded down, times h_L, modulo 2^32. Of a word half way between two
-- multiples the thesis doesn't say which is closest. Document 01 does: "ties up".
unfoldable pub closest_multiple : ℕ → ℕ → ℕ → ℕ
closest_multiple g L w = (2 * w + step g L) / (2 * step g L) * step g L % 2 ^ 32

-- The remainder of the decomposition: the word less its closest multiple. The thesis' error eps^dec is that with the other sign. Its mean is 0
-- there, and not 0 on words, where a tie goes up.
abbrev pub remainder : ℕ → ℕ → ℕ → ℕ
remainder g L w = sub w (closest_multiple g L w)

-- What the closest multiple is in last steps: the number that is taken apart.
abbrev pub step_count : ℕ → ℕ → ℕ → ℕ
step_count g L w = closest_multiple g L w / step g L

-- 1 where the last place of n in base 2^g is half of the base or more, else 0. The digit is below 0 then, and the place before gets 1 more.
unfoldable pub carry : ℕ → ℕ → ℕ
carry g n = cond (leb (half g) (n % 2 ^ g)) 1 0

-- The centred remainder of n by the base, from -2^(g-1) to 2^(g-1) - 1. Step 2 of the thesis takes the closed interval from -B_g/2 to B_g/2.
-- There B_g/2 is the same as -B_g/2 with a carry, so that digits are not unique, though step 2 calls them so. Document 01 leaves B_g/2 out.
unfoldable pub centred_remainder : ℕ → ℕ → ℕ
centred_remainder g n = sub (n % 2 ^ g) (carry g n * 2 ^ g)

-- What is left over for the place before: n less its centred remainder, divided by the base.
unfoldable pub left_over : ℕ → ℕ → ℕ
left_over g n = n / 2 ^ g + carry g n

-- What is left over of n when its last i digits have been taken.
unfoldable pub left_after : ℕ → ℕ → ℕ → ℕ
left_after g n zero = n
left_after g n (suc i) = left_over g (left_after g n i)

-- Step 2: digit j of w, the centred remainder of what the digits behind it leave. The thesis doesn't say which digit comes first. Here it is
-- the last one, since a carry goes to the place before. What is left over of digit 1 is a whole number, which is 0 on the torus of the
-- thesis. Document 01 says of it: "A carry out of digit 1 is dropped."
unfoldable pub digit : ℕ → ℕ → ℕ → ℕ → ℕ
digit g L w j = centred_remainder g (left_after g (step_count g L w) (L - j))

-- All L digits of w, digit 1 first.
unfoldable pub digits : ℕ → ℕ → ℕ → List ℕ
digits g L w = tabulate L (λ i. digit g L w (suc i))

-- Step 5: the polynomial u_(i,p). The words of x are the coefficients of the thesis' a_i; digit j of each of the first N. Steps 3, 4 and 6 go
-- over all i and p, as `row_digits` does for the rows of a block.
unfoldable pub digit_polynomial : (N g L j : ℕ) → List ℕ → List ℕ
digit_polynomial N g L j x = tabulate N (λ i. digit g L (get_or x i 0) j)
