-- What the program prints of a job: "The output is whole".
-- Assumes nothing.
use Rattle.std.specs.Prelude.{◌≡◌, cond, List, [], ◌∷◌, ◌++◌, ℕ, ◌+◌, eqb, length, get_or, take}
use Rattle.torus.specs.Sum.{joined}
use Rattle.answers.specs.Answers.{Answer, number, bound, gates}
use Rattle.report.specs.Text.{ascii, decimal}

-- Numbers on a line, a blank before each.
unfoldable pub numbers : List ℕ → List ℕ
numbers [] = []
numbers (n ∷ ns) = ascii " " ++ (decimal n ++ numbers ns)

-- A line: a name, then numbers.
unfoldable pub line : (name ns : List ℕ) → List ℕ
line name ns = name ++ (numbers ns ++ ascii "\n")

-- "Mask and body lines give the coefficient number, then the word".
abbrev pub word_line : (name ws : List ℕ) (i : ℕ) → List ℕ
word_line name ws i = line name (i ∷ get_or ws i 0 ∷ [])

-- A line for each word of a list, from number 0 up.
unfoldable pub word_lines : (name ws : List ℕ) → List ℕ
word_lines name ws = joined (length ws) (word_line name ws)

-- What is printed of every answer: its number and its bound.
abbrev pub answer_lines : Answer → List ℕ
answer_lines a = line (ascii "answer") (number a ∷ []) ++ line (ascii "bound") (bound a ∷ [])

-- What is printed of a sample, "all masks first".
abbrev pub sample_lines : (mask body : List ℕ) → List ℕ
sample_lines mask body = word_lines (ascii "mask") mask ++ word_lines (ascii "body") body

-- The whole output for an answer, and for the sample where it is accepted. "A refusal prints only the answer and bound lines."
unfoldable pub report : (a : Answer) (mask body : List ℕ) → List ℕ
report a mask body = answer_lines a ++ cond (eqb (number a) 0) (line (ascii "gates") (gates a ∷ []) ++ sample_lines mask body) []

-- What a slice holds after a text was put into it at a place: what stood before that place is kept, and the text stands there. `end`
-- is the place behind the text.
pub record Put (before : List ℕ) (at : ℕ) (text after : List ℕ) (end : ℕ) : Type 0 where
  pub ends : end ≡ at + length text
  pub holds : take end after ≡ take at before ++ text
