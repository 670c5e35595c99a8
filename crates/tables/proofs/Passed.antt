-- What the checks of a lookup's numbers and of its table's classes tell when they pass, and back.
-- Assumes nothing.
use mathlib.Core.Path.{◌≡◌, refl}
use mathlib.Core.List.{List}
use mathlib.Core.Bool.{◌&&◌}
use Prim.Native.Nat.{ℕ, ◌≤◌, ◌<◌}
use native.Mathlib.Omega.{arith}
use lib.Dec.{leb}
use lib.ListN.{length, get_or}
use Rattle.torus.proofs.Lists.{all_below}
use Rattle.torus.proofs.Joined.{chunk_below}
use Rattle.torus.specs.Sum.{chunk}
use Rattle.answers.specs.Checks.{Checked, passed, ◌or_else◌}
use Rattle.answers.specs.Checks as Check
use Rattle.answers.specs.Answers.{number}
use Rattle.answers.specs.declared.Refusal.TheVariants as Refused
use Rattle.answers.proofs.Laws.{both_passed, both_pass, check_most, first_most, first_other, class_number_held, class_number_met, count_held, count_met, depth_held, depth_met, classes_held, classes_met}
use Rattle.trgsw.specs.Parameters.{scheme_refusal}
use Rattle.trgsw.proofs.Checked.{scheme_held, scheme_met, scheme_other}
use Rattle.tables.specs.declared.Visibility.{Visibility}
use Rattle.tables.specs.declared.Visibility.TheVariants.{Public, Hidden}
use Rattle.tables.specs.declared.Numbers.{Numbers}
use Rattle.tables.specs.Numbers.{LawfulNumbers, most_classes, most_selectors, numbers}
use Rattle.tables.specs.Table.{classes_of}

-- ---- the numbers

module _ (x : Numbers) where
  -- The most classes of an entry and the most selectors, in its packing.
  abbrev classes : ℕ
  classes = most_classes x.packing x.scheme.N

  abbrev selectors : ℕ
  selectors = most_selectors x.packing

  pub numbers_held : numbers x ≡ passed → LawfulNumbers x
  numbers_held e =
      let scheme = both_passed (scheme_refusal x.scheme) _ e in
      let class_number = both_passed (Check.class_number x.M) _ scheme.1 in
      let sizes = both_passed (Check.count classes x.s) (Check.depth selectors x.d) class_number.1 in
      record {
        scheme = scheme_held x.scheme scheme.0;
        class_number = class_number_held x.M class_number.0;
        some = (count_held classes x.s sizes.0).0;
        most = (count_held classes x.s sizes.0).1;
        depth = depth_held selectors x.d sizes.1;
      }

  pub numbers_met : LawfulNumbers x → numbers x ≡ passed
  numbers_met ok =
      both_pass _ _ (scheme_met x.scheme ok.scheme)
      (both_pass _ _ (class_number_met x.M ok.class_number)
      (both_pass _ _ (count_met classes x.s ok.some ok.most) (depth_met selectors x.d ok.depth)))

  -- Those behind the scheme's give 3 and 4,
  abbrev pub sizes : Checked
  sizes = Check.class_number x.M or_else Check.count classes x.s or_else Check.depth selectors x.d

  pub sizes_most : number sizes ≤ 4
  sizes_most =
      first_most _ _ 4 (check_most (Check.is_class_number x.M) Refused.ClassNumber 4 (omega arith))
      (first_most _ _ 4 (check_most (leb 1 x.s && leb x.s classes) Refused.Count 4 (omega arith))
      (check_most (leb x.d selectors) Refused.Depth 4 (omega arith)))

  -- and none of all these gives 9.
  pub numbers_other : number (numbers x) ≡ 9 → ⊥
  numbers_other = first_other (scheme_refusal x.scheme) sizes 9 (scheme_other x.scheme) (λ e. omega (arith, sizes_most, e))

-- ---- the classes of a table

-- 7, by the kind of the table.
pub classes_of_held : (v : Visibility) (M : ℕ) (table : List ℕ) → classes_of v M table ≡ passed → v ≡ Public → (i : ℕ) → i < length table → get_or table i 0 < M
classes_of_held Public M table e is = classes_held M table e
classes_of_held Hidden M table e is = absurd (cc)

pub classes_of_met : (v : Visibility) (M : ℕ) (table : List ℕ) → (v ≡ Public → (i : ℕ) → i < length table → get_or table i 0 < M) → classes_of v M table ≡ passed
classes_of_met Public M table h = classes_met M table (h refl)
classes_of_met Hidden M table h = refl

pub classes_of_most : (v : Visibility) (M : ℕ) (table : List ℕ) → number (classes_of v M table) ≤ 7
classes_of_most Public M table = check_most (Check.all_below M table) Refused.Class 7 (omega arith)
classes_of_most Hidden M table = omega arith

-- The classes of a part of a table are below M if all are.
pub class_below : (x : Numbers) (classes : List ℕ) → LawfulNumbers x → ((i : ℕ) → i < length classes → get_or classes i 0 < x.M)
    → (n t i : ℕ) → get_or (chunk n t classes) i 0 < x.M
class_below x classes ok below n t =
    let some : 0 < x.M = omega (arith, ok.class_number.least) in
    chunk_below x.M n t classes some (all_below x.M classes some below)
