-- What a lookup's checks tell of its arguments when they pass, and back.
-- Assumes nothing.
use mathlib.Core.Path.{◌≡◌}
use mathlib.Core.List.{List}
use Prim.Native.Nat.{ℕ, ◌+◌, ◌*◌, ◌^◌, ◌≤◌, ◌<◌}
use native.Mathlib.Omega.{arith}
use lib.Dec.{eqb}
use lib.ListN.{length, get_or}
use Rattle.torus.specs.Bytes.{words}
use Rattle.torus.proofs.Parts.{length_words}
use Rattle.answers.specs.Checks.{passed, ◌or_else◌}
use Rattle.answers.specs.Checks as Check
use Rattle.answers.specs.Answers.{number, noise}
use Rattle.answers.specs.declared.Refusal.TheVariants as Refused
use Rattle.answers.proofs.Laws.{both_passed, both_pass, or_else_assoc, check_most, first_most, exact_held, exact_met, amplitudes_held, amplitudes_met}
use Rattle.trgsw.specs.Parameters.{parameters, sample_size, block_size}
use Rattle.tables.specs.Numbers.{table_words, declared_words, gate_count, numbers}
use Rattle.lookup.specs.Job.{Job}
use Rattle.tables.specs.Table.{classes_of}
use Rattle.tables.specs.Inner.{Below}
use Rattle.tables.proofs.Passed.{classes_of_held, classes_of_met, classes_of_most}
use Rattle.lookup.specs.Calls.{noise_bound, lookup}
use Rattle.lookup.specs.Inner.{lengths, contents, checks}

-- ---- the lengths of the slices

pub record Lengths (j : Job) : Type 0 where
  pub blocks_length : length j.blocks ≡ 4 * (j.numbers.d * block_size (parameters j.numbers.scheme))
  pub amplitudes_length : length j.amplitudes ≡ 4 * j.numbers.d
  pub table_length : length j.table ≡ 4 * table_words j.numbers.visibility j.numbers
  pub entry_amplitudes_length : length j.entry_amplitudes ≡ 4 * declared_words j.numbers.visibility j.numbers
  pub sample_length : length j.sample ≡ 4 * sample_size (parameters j.numbers.scheme)
  pub work_length : length j.work ≡ 4 * (sample_size (parameters j.numbers.scheme) * (j.numbers.d + 1))

-- The words in them: amplitudes up to 2^31, and of a public table classes below M.
pub record Contents (j : Job) : Type 0 where
  pub small : (i : ℕ) → i < j.numbers.d → get_or (words j.amplitudes) i 0 ≤ 2 ^ 31
  pub entries_small : (t : ℕ) → t < length (words j.entry_amplitudes) → get_or (words j.entry_amplitudes) t 0 ≤ 2 ^ 31
  pub below : Below j.numbers j.table

module _ (j : Job) where
  pub lengths_held : lengths j ≡ passed → Lengths j
  lengths_held e =
      let x = j.numbers in
      let p = parameters x.scheme in
      let blocks = both_passed (Check.exact (length j.blocks) (x.d * block_size p)) _ e in
      let amplitudes = both_passed (Check.exact (length j.amplitudes) x.d) _ blocks.1 in
      let table = both_passed (Check.exact (length j.table) (table_words x.visibility x)) _ amplitudes.1 in
      let declared = both_passed (Check.exact (length j.entry_amplitudes) (declared_words x.visibility x)) _ table.1 in
      let written = both_passed (Check.exact (length j.sample) (sample_size p)) (Check.exact (length j.work) (sample_size p * (x.d + 1))) declared.1 in
      record {
        blocks_length = exact_held _ _ blocks.0;
        amplitudes_length = exact_held _ _ amplitudes.0;
        table_length = exact_held _ _ table.0;
        entry_amplitudes_length = exact_held _ _ declared.0;
        sample_length = exact_held _ _ written.0;
        work_length = exact_held _ _ written.1;
      }

  pub lengths_met : Lengths j → lengths j ≡ passed
  lengths_met ok =
      both_pass _ _ (exact_met _ _ ok.blocks_length) (both_pass _ _ (exact_met _ _ ok.amplitudes_length)
      (both_pass _ _ (exact_met _ _ ok.table_length) (both_pass _ _ (exact_met _ _ ok.entry_amplitudes_length)
      (both_pass _ _ (exact_met _ _ ok.sample_length) (exact_met _ _ ok.work_length)))))

  pub lengths_most : number (lengths j) ≤ 5
  lengths_most =
      let five : (length words : ℕ) → number (Check.exact length words) ≤ 5 = λ length words. check_most (eqb length (4 * words)) Refused.Length 5 (omega arith) in
      first_most _ _ 5 (five (length j.blocks) _) (first_most _ _ 5 (five (length j.amplitudes) _)
      (first_most _ _ 5 (five (length j.table) _) (first_most _ _ 5 (five (length j.entry_amplitudes) _)
      (first_most _ _ 5 (five (length j.sample) _) (five (length j.work) _)))))

  -- ---- the words in them

  pub contents_held : Lengths j → contents j ≡ passed → Contents j
  contents_held fit e =
      let selectors = both_passed (Check.amplitudes (words j.amplitudes)) _ e in
      let table = both_passed (Check.amplitudes (words j.entry_amplitudes)) (classes_of j.numbers.visibility j.numbers.M (words j.table)) selectors.1 in
      record {
        small = λ i l. amplitudes_held (words j.amplitudes) selectors.0 i (omega (arith, length_words j.amplitudes, fit.amplitudes_length));
        entries_small = amplitudes_held (words j.entry_amplitudes) table.0;
        below = classes_of_held j.numbers.visibility j.numbers.M (words j.table) table.1;
      }

  pub contents_met : Lengths j → Contents j → contents j ≡ passed
  contents_met fit ok =
      both_pass _ _
      (amplitudes_met (words j.amplitudes) (λ i l. ok.small i (omega (arith, length_words j.amplitudes, fit.amplitudes_length))))
      (both_pass _ _ (amplitudes_met (words j.entry_amplitudes) ok.entries_small)
      (classes_of_met j.numbers.visibility j.numbers.M (words j.table) ok.below))

  pub contents_most : number (contents j) ≤ 7
  contents_most =
      let six : (ws : List ℕ) → number (Check.amplitudes ws) ≤ 7 = λ ws. check_most (Check.all_below (2 ^ 31 + 1) ws) Refused.Amplitude 7 (omega arith) in
      first_most _ _ 7 (six (words j.amplitudes))
      (first_most _ _ 7 (six (words j.entry_amplitudes)) (classes_of_most j.numbers.visibility j.numbers.M (words j.table)))

-- ---- the whole answer

-- The rows of the call's answer, taken together in three groups,
pub lookup_checks : (j : Job) → let x = j.numbers in
    (numbers x or_else lengths j or_else contents j or_else noise x.M (noise_bound j) (gate_count x)) ≡ lookup j
unfolding lookup
lookup_checks j = simp or_else_assoc

-- and in one, as the code takes them.
pub lookup_judged : (j : Job) → (checks j or_else noise j.numbers.M (noise_bound j) (gate_count j.numbers)) ≡ lookup j
unfolding lookup
lookup_judged j = simp or_else_assoc
