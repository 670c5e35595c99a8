-- Text as bytes, and numbers in decimal.
-- Assumes nothing.
use Rattle.std.specs.Prelude.{cond, List, [], ◌∷◌, ◌++◌, ℕ, zero, suc, ◌+◌, ◌/◌, ◌%◌, ltb}
use Prim.Native.Char.{code}
use Prim.Native.String.{String, [] as none, ◌∷◌ as ◌then◌}

-- The bytes of a text, whose characters are ASCII: a byte each.
unfoldable pub ascii : String → List ℕ
ascii none = []
ascii (c then text) = code c ∷ ascii text

-- A number that has at most k + 1 digits, in decimal. The character of digit c is 48 + c.
unfoldable pub decimal_up_to : (k n : ℕ) → List ℕ
decimal_up_to zero n = (48 + n) ∷ []
decimal_up_to (suc k) n = cond (ltb n 10) ((48 + n) ∷ []) (decimal_up_to k (n / 10) ++ ((48 + n % 10) ∷ []))

-- "in decimal". A number of 64 bits has at most twenty digits.
unfoldable pub decimal : (n : ℕ) → List ℕ
decimal n = decimal_up_to 19 n
