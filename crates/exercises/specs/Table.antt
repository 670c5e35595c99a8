-- The exercise table: "Cases a to l are shown true of the written definitions by one table with a single theorem over its
-- rows." The theorem is `exercises`, in the proofs.
-- Assumes nothing.
use Rattle.std.specs.Prelude.{List, [], ◌∷◌, ◌++◌, ℕ}
use Rattle.torus.specs.Sum.{tabulate}
use Rattle.torus.specs.Word.{sub}
use Rattle.gadget.specs.Digits as Digits
use Rattle.gadget.specs.Decomposition as Decomposition
use Rattle.ring.specs.Polynomial.{product, coefficients}
use Rattle.trlwe.specs.Classes.{decode}
use Rattle.lwe.specs.Scalar.{extracted}

-- A row: the words that a definition gives, and those that the document wants.
pub record Case : Type 0 where
  pub got : List ℕ
  pub want : List ℕ

infix 2 ◌gives◌
abbrev pub ◌gives◌ : List ℕ → List ℕ → Case
xs gives ys = record { got = xs; want = ys }

-- The word whose centred reading is -n.
abbrev pub minus : ℕ → ℕ
minus n = sub 0 n

-- The sample of case l: mask (5, 7), body (9, 11).
abbrev pub sample : List ℕ
sample = 5 ∷ 7 ∷ 9 ∷ 11 ∷ []

-- Cases a to g, of a definition of the digits: "With g = 8, L = 2, digits are".
abbrev pub decompositions : ((g L w : ℕ) → List ℕ) → List Case
decompositions digits =
    -- a
    (digits 8 2 0 gives 0 ∷ 0 ∷ [])
    -- b
    ∷ (digits 8 2 32767 gives 0 ∷ 0 ∷ [])
    -- c
    ∷ (digits 8 2 32768 gives 0 ∷ 1 ∷ [])
    -- d
    ∷ (digits 8 2 8388608 gives 1 ∷ minus 128 ∷ [])
    -- e
    ∷ (digits 8 2 2139095040 gives minus 128 ∷ minus 128 ∷ [])
    -- f
    ∷ (digits 8 2 4294934528 gives 0 ∷ 0 ∷ [])
    -- g
    ∷ (digits 8 2 2147483648 gives minus 128 ∷ 0 ∷ [])
    ∷ []

-- The rows, in the document's order: a to g of its own digits and of those in the order of the thesis, then h to l.
unfoldable pub cases : List Case
cases =
    decompositions Digits.digits
    ++ decompositions Decomposition.digits
    -- h: "N = 2: (1 + 2X)·X has words 4294967294, 1."
    ++ (tabulate 2 (product 2 (coefficients (1 ∷ 2 ∷ [])) (coefficients (0 ∷ 1 ∷ []))) gives 4294967294 ∷ 1 ∷ [])
    -- i: "M = 16: phase 134217727 decodes to 0."
    ∷ (decode 16 134217727 ∷ [] gives 0 ∷ [])
    -- j: "M = 16: phase 134217728 decodes to 1."
    ∷ (decode 16 134217728 ∷ [] gives 1 ∷ [])
    -- k: "M = 16: phase 4160749568 decodes to 0; 4160749567 to 15."
    ∷ (decode 16 4160749568 ∷ decode 16 4160749567 ∷ [] gives 0 ∷ 15 ∷ [])
    -- l: "position 0 extracts to 5, 4294967289, 9; position 1 to 7, 5, 11."
    ∷ (extracted 2 1 0 sample ++ extracted 2 1 1 sample gives 5 ∷ 4294967289 ∷ 9 ∷ 7 ∷ 5 ∷ 11 ∷ [])
    ∷ []
