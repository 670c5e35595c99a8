-- What the checks of a file tell when they pass, and back.
-- Assumes nothing.
use mathlib.Core.Path.{◌≡◌, refl, sym, ◌∙◌}
use mathlib.Core.Bool.{Bool, true, false, cond}
use Rattle.std.specs.Prelude.{Err}
use mathlib.Core.List.{List}
use Prim.Native.Nat.{ℕ, ◌+◌, ◌*◌, ◌%◌, ◌≤◌}
use lib.Dec.{eqb, leb}
use native.Mathlib.Omega.{arith}
use lib.ListN.{length, get_or}
use borrow.Author.Tests.{leb-true, eqb-true, le-leb, eq-eqb}
use Rattle.torus.specs.Bytes.{words}
use Rattle.torus.proofs.Tests.{both}
use Rattle.answers.specs.declared.Refusal.TheVariants as Refused
use Rattle.answers.specs.Checks.{passed, unless, ◌or_else◌}
use Rattle.answers.specs.Checks as Check
use Rattle.answers.proofs.Laws.{went_on, both_passed, both_pass, exact_held, exact_met}
use Rattle.tables.specs.declared.Numbers.{Numbers}
use Rattle.trgsw.specs.Parameters.{parameters, block_size}
use Rattle.tables.specs.Numbers.{LawfulNumbers, table_size, numbers}
use Rattle.tables.proofs.Passed.{numbers_held, numbers_met}
use Rattle.jobfile.specs.Layout.{largest_file, is_first_count, first_count, depth_at, header_words}
use Rattle.jobfile.specs.Reader.{behind, table_part, read_job, Begins, beginning, file_size, table_count, sections, file_refusal}

-- ---- the header

-- With the one count that section one may have, d stands behind five numbers, and so it does for any other.
pub depth_six : (c : ℕ) → depth_at c ≡ 6
depth_six c = go (is_first_count c) refl
  where
    go : (b : Bool) → b ≡ is_first_count c → 1 + cond b c 5 ≡ 6
    go true e = let five = eqb-true c 5 (sym e) in omega (arith, five)
    go false e = refl

-- ---- the beginning

-- A test whose check passes.
tested : (t : Bool) → unless t Refused.Length ≡ passed → t ≡ true
tested true e = refl
tested false e = cc

pub beginning_held : (file : List ℕ) → beginning file ≡ passed → Begins file
beginning_held file e =
    let least = 4 * header_words (first_count (words file)) in
    let a = both (leb least (length file)) _ (tested _ e) in
    let b = both (leb (length file) largest_file) _ a.1 in
    let c = both (eqb (length file % 4) 0) _ b.1 in
    record {
      least = leb-true least _ a.0;
      most = leb-true _ largest_file b.0;
      whole = eqb-true _ 0 c.0;
      counted = c.1;
    }

pub beginning_met : (file : List ℕ) → Begins file → beginning file ≡ passed
beginning_met file ok =
    rw (le-leb _ _ ok.least, le-leb _ largest_file ok.most, eq-eqb _ 0 ok.whole, ok.counted) refl

-- So it has a whole header.
pub begins_words : (file : List ℕ) → Begins file → 28 ≤ length file
begins_words file ok = omega (arith, ok.least, depth_six (first_count (words file)))

-- ---- the sections

-- Two checks with one refusal.
one_refusal : (s t : Bool) → ((unless s Refused.Length or_else unless t Refused.Length) ≡ passed → ⊥)
    → (unless s Refused.Length or_else unless t Refused.Length) ≡ Err Refused.Length
one_refusal true true some = absurd (some refl)
one_refusal true false some = refl
one_refusal false t some = refl

pub record Fits (x : Numbers) (file : List ℕ) : Type 0 where
  pub size : length file ≡ 4 * file_size (first_count (words file)) x
  pub count : get_or (table_part (block_size (parameters x.scheme)) x.d (behind file)) 0 0 ≡ table_size x

pub sections_held : (x : Numbers) (file : List ℕ) → sections x file ≡ passed → Fits x file
sections_held x file e =
    let p = both_passed (Check.exact (length file) (file_size (first_count (words file)) x)) _ e in
    record { size = exact_held _ _ p.0; count = eqb-true _ _ (tested _ p.1) }

pub sections_met : (x : Numbers) (file : List ℕ) → Fits x file → sections x file ≡ passed
sections_met x file ok =
    let count : table_count x file ≡ passed = simp (eq-eqb _ _ ok.count) in
    both_pass _ _ (exact_met _ _ ok.size) count

-- ---- all of them

pub record Passes (file : List ℕ) : Type 0 where
  pub begins : Begins file
  pub lawful : LawfulNumbers (read_job file).numbers
  pub fits : Fits (read_job file).numbers file

pub refusal_held : (file : List ℕ) → file_refusal file ≡ passed → Passes file
unfolding file_refusal
refusal_held file e =
    let begins = both_passed (beginning file) _ e in
    let rest = both_passed (numbers (read_job file).numbers) _ begins.1 in
    record {
      begins = beginning_held file begins.0;
      lawful = numbers_held _ rest.0;
      fits = sections_held _ file rest.1;
    }

pub refusal_met : (file : List ℕ) → Passes file → file_refusal file ≡ passed
unfolding file_refusal
refusal_met file ok =
    both_pass _ _ (beginning_met file ok.begins)
    (both_pass _ _ (numbers_met _ ok.lawful) (sections_met _ file ok.fits))

-- Where the beginning and the numbers pass, and the sections do not, the number is 5.
sections_five : (x : Numbers) (file : List ℕ) → (sections x file ≡ passed → ⊥) → sections x file ≡ Err Refused.Length
sections_five x file some =
    one_refusal (eqb (length file) (4 * file_size (first_count (words file)) x)) (eqb (get_or (table_part (block_size (parameters x.scheme)) x.d (behind file)) 0 0) (table_size x)) some

pub refused_sections : (file : List ℕ) → Begins file → LawfulNumbers (read_job file).numbers
    → (file_refusal file ≡ passed → ⊥) → file_refusal file ≡ Err Refused.Length
unfolding file_refusal
refused_sections file begins lawful some =
    let b = beginning_met file begins in
    let n = numbers_met (read_job file).numbers lawful in
    went_on _ _ b ∙ went_on _ _ n
    ∙ sections_five (read_job file).numbers file (λ e. some (both_pass _ _ b (both_pass _ _ n e)))
