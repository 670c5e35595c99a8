-- Laws of lines: a line written piece after piece, how long lines are, and the lines of a refusal and of an acceptance.
-- Assumes nothing.
use mathlib.Core.Path.{◌≡◌}
use mathlib.Core.List.{List, [], ◌∷◌, ◌++◌, append_assoc, append-nil}
use Prim.Native.Nat.{ℕ, zero, suc, ◌+◌, ◌*◌, ◌≤◌}
use native.Mathlib.Nat.{suc-mul}
use native.Mathlib.Omega.{arith}
use borrow.Author.Tests.{eq-eqb, ne_eqb}
use lib.ListN.{length, get_or, length-append}
use Rattle.torus.specs.Sum.{joined}
use Rattle.answers.specs.Answers.{Answer, number, bound, gates}
use Rattle.report.specs.Text.{ascii, decimal}
use Rattle.report.specs.Report.{numbers, line, word_line, word_lines, answer_lines, sample_lines, report}
use Rattle.report.specs.Inner.{Writes}
use Rattle.report.specs.declared.Writer.{Writer}
use Rattle.report.proofs.Decimal.{length_decimal}
use Rattle.report.proofs.Pieces.{writes_both}

-- A name, a number, and behind them the rest of the line.
pub write_line : {u v w x : Writer} {name : List ℕ} (n : ℕ) (ns : List ℕ)
    → Writes u name v → Writes v (ascii " " ++ decimal n) w → Writes w (line [] ns) x → Writes u (line name (n ∷ ns)) x
unfolding line numbers ascii
write_line n ns p q r = rw (append_assoc (decimal n) (numbers ns) _) (writes_both p (writes_both q r))

length_numbers : (ns : List ℕ) → length (numbers ns) ≤ 21 * length ns
unfolding numbers ascii
length_numbers [] = omega arith
length_numbers (n ∷ ns) =
    let rest : length (numbers ns) ≤ 21 * length ns = length_numbers ns in
    omega (arith, length_decimal n, length-append (decimal n) (numbers ns))

pub length_line : (name ns : List ℕ) → length (line name ns) ≤ length name + 21 * length ns + 1
unfolding line ascii
length_line name ns =
    omega (arith, length_numbers ns, length-append name (numbers ns ++ (10 ∷ [])), length-append (numbers ns) (10 ∷ []))

-- ---- a line for each word

-- The lines of the first i words.
pub length_word_lines : (name ws : List ℕ) (i : ℕ) → length (joined i (word_line name ws)) ≤ i * (length name + 43)
unfolding joined
length_word_lines name ws zero = omega arith
length_word_lines name ws (suc i) =
    let before : length (joined i (word_line name ws)) ≤ i * (length name + 43) = length_word_lines name ws i in
    omega (
      arith,
      length-append (joined i (word_line name ws)) (word_line name ws i),
      length_line name (i ∷ get_or ws i 0 ∷ []),
      suc-mul i (length name + 43),
    )

-- All of them.
pub length_lines : (name ws : List ℕ) → length (word_lines name ws) ≤ length ws * (length name + 43)
unfolding word_lines
length_lines name ws = length_word_lines name ws (length ws)

-- ---- the whole output

pub length_answer : (a : Answer) → length (answer_lines a) ≤ 55
unfolding ascii
length_answer a =
    omega (
      arith,
      length-append (line (ascii "answer") (number a ∷ [])) (line (ascii "bound") (bound a ∷ [])),
      length_line (ascii "answer") (number a ∷ []),
      length_line (ascii "bound") (bound a ∷ []),
    )

-- A refusal.
pub report_refused : (a : Answer) (mask body : List ℕ) → (number a ≡ 0 → ⊥) → report a mask body ≡ answer_lines a
unfolding report
report_refused a mask body h = rw (ne_eqb (number a) 0 h) (append-nil (answer_lines a))

-- An acceptance.
pub report_accepted : (a : Answer) (mask body : List ℕ) → number a ≡ 0
    → report a mask body ≡ answer_lines a ++ (line (ascii "gates") (gates a ∷ []) ++ sample_lines mask body)
unfolding report
report_accepted a mask body h = rw (eq-eqb (number a) 0 h)
