-- The checks that calls share, row by row of document 01's table of returned numbers and of what later papers add to it: each passes, or says
-- why it refuses (`refusal_number` has the numbers). Numbers are whole, however large; lengths count bytes.
-- Assumes nothing.
use Rattle.std.specs.Prelude.{◌≡◌, Bool, true, ◌&&◌, cond, Result, Ok, Err, List, [], ◌∷◌, ℕ, ◌+◌, ◌*◌, ◌^◌, ◌≤◌, eqb, leb, ltb}
use Rattle.std.specs.Int.Count.{ones}
use Rattle.std.specs.Result.{result_and}
use Rattle.gadget.specs.Digits.{is_lawful}
use Rattle.ring.specs.Polynomial.{is_degree}
use Rattle.answers.specs.declared.Refusal.{Refusal}
use Rattle.answers.specs.declared.Refusal.TheVariants as Refused

-- What a check gives.
abbrev pub Checked : Type 0
Checked = Result (Unit {0}) Refusal

-- It passes.
abbrev pub passed : Checked
passed = Ok tt

-- A check of one test.
abbrev pub unless : Bool → Refusal → Checked
unless test refusal = cond test passed (Err refusal)

-- A check that refuses, or else the rest. Document 01 has "Each call checks what applies to it, in rising number"; a later paper puts its
-- number where it says, as 12 "directly after 2". So the order of a call's checks is 1, 2, 12, 3, 4, 5, 6, 7, 8, 9, as far as they apply.
infixr 3 ◌or_else◌
abbrev pub ◌or_else◌ : {T : Type 0} → Checked → Result T Refusal → Result T Refusal
check or_else rest = result_and check rest

-- A number of classes M: "a power of two from 2 to 65,536", which "has exactly one bit set".
pub record ClassNumber (M : ℕ) : Type 0 where
  pub power : ones M ≡ 1
  pub least : 2 ≤ M
  pub most : M ≤ 65536

-- The same as a test.
abbrev pub is_class_number : ℕ → Bool
is_class_number M = eqb (ones M) 1 && (leb 2 M && leb M 65536)

-- Each word of a list is below the limit.
unfoldable pub all_below : ℕ → List ℕ → Bool
all_below limit [] = true
all_below limit (w ∷ ws) = ltb w limit && all_below limit ws

-- 1: "N is not a power of two from 1 to 1,024"
abbrev pub degree : ℕ → Checked
degree N = unless (is_degree N) Refused.Degree

-- 2: "g not 1 to 16, L is 0, or g·L above 32"
abbrev pub gadget : ℕ → ℕ → Checked
gadget g L = unless (is_lawful g L) Refused.Gadget

-- 12, "directly after 2": "a W above N", of Paper 6 of document 02. N is the most ones that a key can have.
abbrev pub weight : (most W : ℕ) → Checked
weight most W = unless (leb W most) Refused.Weight

-- 3: "M not a power of two from 2 to 65,536"
abbrev pub class_number : ℕ → Checked
class_number M = unless (is_class_number M) Refused.ClassNumber

-- 4: "s is 0 or above N; d above 10; position p not below N". N and 10 are what `most` is in the calls of document 01; lookups have their
-- own by packing (`most_classes`, `most_selectors`).
abbrev pub count : (most s : ℕ) → Checked
count most s = unless (leb 1 s && leb s most) Refused.Count

abbrev pub depth : (most d : ℕ) → Checked
depth most d = unless (leb d most) Refused.Depth

abbrev pub position : ℕ → ℕ → Checked
position N p = unless (ltb p N) Refused.Position

-- 5: "a slice's length differs from the exact one", which is given in words
abbrev pub exact : ℕ → ℕ → Checked
exact length words = unless (eqb length (4 * words)) Refused.Length

-- 6: "a declared amplitude above 2^31"
abbrev pub amplitude : ℕ → Checked
amplitude A = unless (leb A (2 ^ 31)) Refused.Amplitude

abbrev pub amplitudes : List ℕ → Checked
amplitudes As = unless (all_below (2 ^ 31 + 1) As) Refused.Amplitude

-- 7: "a class not below M, or a selector bit above 1"
abbrev pub classes : ℕ → List ℕ → Checked
classes M cs = unless (all_below M cs) Refused.Class

abbrev pub bit : ℕ → Checked
bit m = unless (leb m 1) Refused.Bit

-- 8: "a key word above 1"
abbrev pub key : List ℕ → Checked
key K = unless (all_below 2 K) Refused.Key

-- 1, 3 and 4 of a sample that hides s classes.
abbrev pub sample_numbers : (N M s : ℕ) → Checked
sample_numbers N M s = degree N or_else class_number M or_else count N s
