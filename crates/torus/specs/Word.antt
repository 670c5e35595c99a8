-- Words of the discrete torus. "A word is an integer from 0 to 2^32 - 1."
-- The quotations in the comments of specs are of document 01, the rules of the build.
-- Assumes nothing.
use Rattle.std.specs.Prelude.{ℕ, ◌+◌, ◌-◌, ◌*◌, ◌%◌, ◌^◌, cond, nat_lt}

-- "Sums and products are taken modulo 2^32."
abbrev pub add : ℕ → ℕ → ℕ
add a b = (a + b) % 2 ^ 32

abbrev pub mul : ℕ → ℕ → ℕ
mul a b = a * b % 2 ^ 32

-- The difference of two words: what added to b gives a.
abbrev pub sub : ℕ → ℕ → ℕ
sub a b = (a + (2 ^ 32 - b)) % 2 ^ 32

-- "The centred reading of w is w below 2^31, else w - 2^32. Its magnitude is the absolute value, so it goes up to 2^31."
unfoldable pub magnitude : ℕ → ℕ
magnitude w = cond (nat_lt w (2 ^ 31)) w (2 ^ 32 - w)

-- "The distance of two words is the magnitude of their difference."
abbrev pub distance : ℕ → ℕ → ℕ
distance a b = magnitude (sub a b)
