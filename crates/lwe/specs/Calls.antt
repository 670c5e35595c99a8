-- The public calls on scalar samples: the whole answer of each, and what it leaves in the slice that it writes. Slices are lists
-- of bytes, as they are lent. Each answer has a line for each row of document 01's table of returned numbers that applies.
-- Assumes nothing.
use Rattle.std.specs.Prelude.{List, [], ◌∷◌, ℕ, ◌+◌, ◌*◌, length}
use Rattle.torus.specs.Bytes.{words, bytes}
use Rattle.answers.specs.Checks as Check
use Rattle.answers.specs.Checks.{◌or_else◌}
use Rattle.answers.specs.Answers.{Answer, accepted, after}
use Rattle.trlwe.specs.Classes.{decode}
use Rattle.lwe.specs.Scalar.{scalar_phase, extracted}

-- "Decrypt .. the class of a scalar sample."
unfoldable pub decrypt_scalar : (N M : ℕ) (key scalar class : List ℕ) → Answer
decrypt_scalar N M key scalar class =
    Check.degree N
    or_else Check.class_number M
    or_else Check.exact (length key) N or_else Check.exact (length scalar) (N + 1) or_else Check.exact (length class) 1
    or_else Check.key (words key)
    or_else accepted

-- What it leaves in the slice of one class.
unfoldable pub decrypt_scalar_class : (N M : ℕ) (key scalar class : List ℕ) → List ℕ
decrypt_scalar_class N M key scalar class =
    after (decrypt_scalar N M key scalar class) (bytes (decode M (scalar_phase N (words key) (words scalar)) ∷ [])) class

-- "Extract coefficient p as a scalar sample of N + 1 words"
unfoldable pub extract : (N p : ℕ) (sample scalar : List ℕ) → Answer
extract N p sample scalar =
    Check.degree N
    or_else Check.position N p
    or_else Check.exact (length sample) (2 * N) or_else Check.exact (length scalar) (N + 1)
    or_else accepted

-- What it leaves in the scalar sample's slice.
unfoldable pub extract_scalar : (N p : ℕ) (sample scalar : List ℕ) → List ℕ
extract_scalar N p sample scalar = after (extract N p sample scalar) (bytes (extracted N 1 p (words sample))) scalar
