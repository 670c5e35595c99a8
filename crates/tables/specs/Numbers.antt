-- The numbers of a lookup, which the refusals up to 4 judge, its packing, and whether its table is public. The numbers are passed to the call, or
-- stand in the first words of a job file. What is quoted of the vertical packing is from document 02, Paper 1, and of hidden tables from
-- Paper 2.
-- Assumes nothing.
use Rattle.std.specs.Prelude.{ℕ, ◌+◌, ◌-◌, ◌*◌, ◌^◌, ◌≤◌, min}
use Rattle.ring.specs.Polynomial.{log}
use Rattle.answers.specs.Checks.{Checked, ◌or_else◌, ClassNumber}
use Rattle.answers.specs.Checks as Check
use Rattle.trgsw.specs.Parameters.{LawfulScheme, scheme_refusal, parameters, sample_size}
use Rattle.tables.specs.declared.Packing.{Packing}
use Rattle.tables.specs.declared.Packing.TheVariants.{Horizontal, Vertical}
use Rattle.tables.specs.declared.Visibility.{Visibility}
use Rattle.tables.specs.declared.Visibility.TheVariants.{Public, Hidden}
use Rattle.tables.specs.declared.Numbers.{Numbers}

-- The classes of a table: "its classes s·2^d", s for each of 2^d entries.
abbrev pub table_size : Numbers → ℕ
table_size x = x.s * 2 ^ x.d

-- ---- the packing

-- The number of selectors that rotate, of d. In the horizontal packing, document 01's, there is none. In the vertical one, "with
-- N = 2^v, .. selectors 0 to v - 1 rotate", and "if d is below v .. only d steps run".
abbrev pub rotating : (packing : Packing) (N d : ℕ) → ℕ
rotating Horizontal N d = 0
rotating Vertical N d = min (log N) d

-- r of a lookup. Shut, so that what is proved of it holds for each packing.
unfoldable pub rotations : Numbers → ℕ
rotations x = rotating x.packing x.scheme.N x.d

-- The levels of its tree, which picks one of 2^(d - r) samples: "selectors v and up, v lowest, pick a sample by the gate tree".
abbrev pub levels : Numbers → ℕ
levels x = x.d - rotations x

-- The classes in a sample of the table, where "consecutive entries fill the coefficients": 2^r entries, of s classes each.
abbrev pub sample_classes : Numbers → ℕ
sample_classes x = x.s * 2 ^ rotations x

-- "Gates are 2^(d - v) - 1 + v, or d when d is below v"; and where none rotates "the gates are 2^d - 1".
abbrev pub gate_count : Numbers → ℕ
gate_count x = 2 ^ levels x - 1 + rotations x

-- ---- the table

-- The samples of a table: "2^d of them, or in the vertical packing 2^(d - v) and at least one".
abbrev pub table_samples : Numbers → ℕ
table_samples x = 2 ^ levels x

-- The words of the lent table: of a public one its classes, of a hidden one its samples, "lent one after another".
abbrev pub table_words : (visibility : Visibility) (x : Numbers) → ℕ
table_words Public x = table_size x
table_words Hidden x = table_samples x * sample_size (parameters x.scheme)

-- The amplitudes that are declared of its samples: of a hidden one "one amplitude word each in a slice of their own".
abbrev pub declared_words : (visibility : Visibility) (x : Numbers) → ℕ
declared_words Public x = 0
declared_words Hidden x = table_samples x

-- ---- refusals 1, 2, 12, 3 and 4

-- The most selectors in each packing: "d above 10", and in the vertical one "a d above 16".
abbrev pub horizontal_selectors : ℕ
horizontal_selectors = 10

abbrev pub vertical_selectors : ℕ
vertical_selectors = 16

abbrev pub most_selectors : (packing : Packing) → ℕ
most_selectors Horizontal = horizontal_selectors
most_selectors Vertical = vertical_selectors

-- The most in any packing. The code's rooms, and its sums in 64 bits, are made for so many.
abbrev pub deepest : ℕ
deepest = vertical_selectors

-- "It refuses with 4 an s other than 1" in the vertical packing.
abbrev pub most_classes : (packing : Packing) (N : ℕ) → ℕ
most_classes Horizontal N = N
most_classes Vertical N = 1

-- Numbers that pass them.
pub record LawfulNumbers (x : Numbers) : Type 0 where
  pub scheme : LawfulScheme x.scheme
  pub class_number : ClassNumber x.M
  pub some : 1 ≤ x.s
  pub most : x.s ≤ most_classes x.packing x.scheme.N
  pub depth : x.d ≤ most_selectors x.packing

-- The same as a check: the first of these refusals that applies.
abbrev pub numbers : Numbers → Checked
numbers x =
    scheme_refusal x.scheme or_else Check.class_number x.M
    or_else Check.count (most_classes x.packing x.scheme.N) x.s or_else Check.depth (most_selectors x.packing) x.d
