-- What an accepted call has, and every byte that it leaves.
-- Assumes nothing.
use mathlib.Core.Path.{◌≡◌, refl, ap, sym, ◌∙◌}
use mathlib.Core.Bool.{false}
use mathlib.Core.List.{List}
use Prim.Native.Nat.{ℕ, ◌*◌, ◌≤◌, ◌<◌}
use native.Mathlib.Omega.{arith}
use lib.Dec.{eqb}
use lib.ListN.{length, get_or}
use borrow.Author.Tests.{ne_eqb}
use Rattle.std.specs.Prelude.{Err}
use Rattle.torus.specs.Bytes.{words, bytes}
use Rattle.torus.proofs.Parts.{bytes_words}
use Rattle.gadget.specs.Digits.{Lawful, digit_polynomial}
use Rattle.ring.specs.Polynomial.{Degree, add_product}
use Rattle.answers.specs.declared.Refusal.{Refusal}
use Rattle.answers.specs.Answers as Answers
use Rattle.answers.specs.Answers.{refusal_number}
use Rattle.answers.specs.Checks as Check
use Rattle.answers.specs.Checks.{passed}
use Rattle.answers.proofs.Laws.{before, number_passed, number_some, degree_held, gadget_held, count_held, exact_held}
use Rattle.digit_row.specs.Call.{checks, number, digit_bytes, sum_bytes, Answered}

pub record Fit (N g L j x row digits out : ℕ) : Type 0 where
  pub degree : Degree N
  pub lawful : Lawful g L
  pub some : 1 ≤ j
  pub within : j ≤ L
  pub x_length : x ≡ 4 * N
  pub row_length : row ≡ 4 * N
  pub digits_length : digits ≡ 4 * N
  pub out_length : out ≡ 4 * N

pub accepted : (N g L j x row digits out : ℕ) → number N g L j x row digits out ≡ 0 → Fit N g L j x row digits out
unfolding number checks
accepted N g L j x row digits out e =
    let degree = before (Check.degree N) _ e in
    let gadget = before (Check.gadget g L) _ degree.1 in
    let count = before (Check.count L j) _ gadget.1 in
    let x_length = before (Check.exact x N) _ count.1 in
    let row_length = before (Check.exact row N) _ x_length.1 in
    let digits_length = before (Check.exact digits N) (Check.exact out N) row_length.1 in
    record {
      degree = degree_held N degree.0;
      lawful = gadget_held g L gadget.0;
      some = (count_held L j count.0).0;
      within = (count_held L j count.0).1;
      x_length = exact_held x N x_length.0;
      row_length = exact_held row N row_length.0;
      digits_length = exact_held digits N digits_length.0;
      out_length = exact_held out N (number_passed (Check.exact out N) digits_length.1);
    }

-- Checks that pass, and one that refuses.
pub passed_number : (N g L j x row digits out : ℕ) → passed ≡ checks N g L j x row digits out → number N g L j x row digits out ≡ 0
unfolding number
passed_number N g L j x row digits out e = ap Answers.number (sym e)

pub fitting : (N g L j x row digits out : ℕ) → passed ≡ checks N g L j x row digits out → Fit N g L j x row digits out
fitting N g L j x row digits out e = accepted N g L j x row digits out (passed_number N g L j x row digits out e)

pub refused : (N g L j : ℕ) (x row digits out : List ℕ) (r : Refusal) → Err r ≡ checks N g L j (length x) (length row) (length digits) (length out)
    → Answered N g L j x row digits out (refusal_number r) digits out
unfolding number
refused N g L j x row digits out r e =
    let some : 1 ≤ refusal_number r = number_some r in
    let test : eqb (refusal_number r) 0 ≡ false = ne_eqb (refusal_number r) 0 (omega arith) in
    record { number_is = ap Answers.number e; digits_are = rw test refl; out_is = rw test refl }

-- Every byte of the digits, and of the accumulator.
module _ (N g L j : ℕ) (x : List ℕ) (digits : List ℕ) (e : words digits ≡ digit_polynomial N g L j (words x)) where
  pub digits_bytes : length digits ≡ 4 * N → ((i : ℕ) → get_or digits i 0 < 256) → digits ≡ digit_bytes N g L j x
  unfolding digit_bytes
  digits_bytes len h = sym (bytes_words N digits len h) ∙ ap bytes e

  pub sum_in_bytes : (row out₀ out : List ℕ) → words out ≡ add_product N (words out₀) (words digits) (words row)
      → length out ≡ 4 * N → ((i : ℕ) → get_or out i 0 < 256) → out ≡ sum_bytes N g L j x row out₀
  unfolding sum_bytes
  sum_in_bytes row out₀ out f len h =
      sym (bytes_words N out len h) ∙ ap bytes (f ∙ ap (λ ds. add_product N (words out₀) ds (words row)) e)
