-- Classes, their encoding as words, and the messages that carry them. A class is what the field calls a plaintext, M the
-- plaintext modulus.
-- Assumes nothing.
use Rattle.std.specs.Prelude.{Bool, cond, List, ℕ, ◌+◌, ◌*◌, ◌/◌, ◌%◌, ◌^◌, ltb, get_or}

-- "Class c is encoded as c·(2^32/M)."
unfoldable pub encode : (M c : ℕ) → ℕ
encode M c = c * (2 ^ 32 / M)

-- "A phase word f decodes to floor(((f + 2^31/M) mod 2^32) / (2^32/M)), so ties go up."
unfoldable pub decode : (M f : ℕ) → ℕ
decode M f = (f + 2 ^ 31 / M) % 2 ^ 32 / (2 ^ 32 / M)

-- Whether coefficient i of a message is used. "A packed sample carries s classes in coefficients 0 to s - 1."
abbrev pub used : (s i : ℕ) → Bool
used s i = ltb i s

-- Coefficient i of the message of s classes. "The other coefficients of its message are 0."
unfoldable pub message : (M s : ℕ) (classes : List ℕ) (i : ℕ) → ℕ
message M s classes i = cond (used s i) (encode M (get_or classes i 0)) 0
