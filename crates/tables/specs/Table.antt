-- The table of a lookup: its entries, and what they encode. What is quoted is from document 02, Paper 1 of packings and Paper 2 of entries.
-- Assumes nothing.
use Rattle.std.specs.Prelude.{List, ℕ, ◌/◌, ◌%◌, ◌^◌, get_or}
use Rattle.torus.specs.Sum.{chunk}
use Rattle.ring.specs.Polynomial.{rotated}
use Rattle.answers.specs.Checks.{Checked, passed}
use Rattle.answers.specs.Checks as Check
use Rattle.trlwe.specs.Classes.{message}
use Rattle.trlwe.specs.Sample.{trivial}
use Rattle.trgsw.specs.Parameters.{masks, parameters, sample_size}
use Rattle.trees.specs.LookedUp.{Entry}
use Rattle.tables.specs.declared.Visibility.{Visibility}
use Rattle.tables.specs.declared.Visibility.TheVariants.{Public, Hidden}
use Rattle.tables.specs.declared.Numbers.{Numbers}
use Rattle.tables.specs.Numbers.{rotations, sample_classes}

-- The s classes of entry h, "all s of entry 0 first".
abbrev pub entry_classes : (x : Numbers) (h : ℕ) (classes : List ℕ) → List ℕ
entry_classes x h classes = chunk x.s h classes

-- The exact encoding of entry h: "its message, all N coefficients".
abbrev pub entry_message : (x : Numbers) (h : ℕ) (classes : List ℕ) (i : ℕ) → ℕ
entry_message x h classes i = message x.M x.s (entry_classes x h classes) i

-- The exact encoding of sample t of the table: "consecutive entries fill the coefficients", and "unused coefficients are 0".
abbrev pub table_message : (x : Numbers) (t : ℕ) (classes : List ℕ) (i : ℕ) → ℕ
table_message x t classes i = message x.M (sample_classes x) (chunk (sample_classes x) t classes) i

-- The words that are lent of each sample: its classes, or the sample itself.
abbrev pub entry_words : (visibility : Visibility) (x : Numbers) → ℕ
entry_words Public x = sample_classes x
entry_words Hidden x = sample_size (parameters x.scheme)

-- A sample, of what is lent of it: "Public entries are trivial packed samples."
abbrev pub entry_sample : (visibility : Visibility) (x : Numbers) (lent : List ℕ) → List ℕ
entry_sample Public x lent = trivial x.scheme.N (masks x.scheme) (message x.M (sample_classes x) lent)
entry_sample Hidden x lent = lent

-- Sample t of the table: classes and "hidden samples are lent one after another".
abbrev pub table_sample : (x : Numbers) (table : List ℕ) (t : ℕ) → List ℕ
table_sample x table t = entry_sample x.visibility x (chunk (entry_words x.visibility x) t table)

-- Its declared amplitude, "0 if public".
abbrev pub amplitude_of : (visibility : Visibility) (amplitudes : List ℕ) (t : ℕ) → ℕ
amplitude_of Public amplitudes t = 0
amplitude_of Hidden amplitudes t = get_or amplitudes t 0

-- Entry t of the table.
abbrev pub table_entry : (x : Numbers) (table amplitudes : List ℕ) (t : ℕ) → Entry
table_entry x table amplitudes t = record { sample = table_sample x table t; amplitude = amplitude_of x.visibility amplitudes t }

-- What a lookup holds where the bits name entry h: X^(-rho) times the message of sample tau, with h = tau·2^r + rho. With r = 0 it is the
-- encoding of entry h.
abbrev pub named_message : (x : Numbers) (h : ℕ) (classes : List ℕ) (i : ℕ) → ℕ
named_message x h classes i = rotated x.scheme.N (h % 2 ^ rotations x) (table_message x (h / 2 ^ rotations x) classes) i

-- 7, of a table's classes: "refusal 7 isn't checked for" hidden entries.
abbrev pub classes_of : (visibility : Visibility) (M : ℕ) (table : List ℕ) → Checked
classes_of Public M table = Check.classes M table
classes_of Hidden M table = passed
