-- What is lent of the entries: the classes of a part of a table, the length of an entry's sample, and so of the result.
-- Assumes nothing.
use Rattle.std.proofs.Common.{◌≡◌, ℕ, ◌*◌, ◌≤◌, length, refl, ap, ◌∙◌, subst, le_refl, mul-le-mul, pow_pos, arith}
use Rattle.torus.specs.Sum.{chunk}
use Rattle.torus.specs.Bytes.{words, bytes}
use Rattle.torus.proofs.Joined.{length_chunk}
use Rattle.torus.proofs.Parts.{length_words, length_bytes}
use Rattle.answers.proofs.Laws.{after_written}
use Rattle.trlwe.proofs.Phases.{length_trivial}
use Rattle.trgsw.specs.Parameters.{masks, parameters, sample_size}
use Rattle.trees.proofs.LookedUp.{length_looked_up}
use Rattle.tables.specs.declared.Visibility.{Visibility}
use Rattle.tables.specs.declared.Visibility.TheVariants.{Public, Hidden}
use Rattle.tables.specs.Numbers.{levels, rotations, table_samples, table_words}
use Rattle.tables.specs.Table.{entry_words, entry_sample}
use Rattle.lookup.specs.Job.{Job}
use Rattle.lookup.specs.Calls.{entry, result_sample, lookup_sample, IsAccepted}
use Rattle.lookup.proofs.Accepted.{Wellformed, lookup_accepted}

-- The first entry's sample has the length of a sample.
length_first : (v : Visibility) (j : Job) → j.numbers.visibility ≡ v → Wellformed j → length (entry_sample v j.numbers (chunk (entry_words v j.numbers) 0 (words j.table))) ≡ sample_size (parameters j.numbers.scheme)
length_first Public j e ok = length_trivial j.numbers.scheme.N (masks j.numbers.scheme) _
length_first Hidden j e ok =
    let x = j.numbers in
    let own : ℕ = sample_size (parameters x.scheme) in
    let size : length j.table ≡ 4 * (table_samples x * own) = subst (λ v. length j.table ≡ 4 * table_words v x) e ok.lengths.table_length in
    let one : own ≤ table_samples x * own = omega (arith, mul-le-mul (pow_pos (levels x)) (le_refl own)) in
    length_chunk own 0 (words j.table) (omega (arith, length_words j.table))

pub length_entry : (j : Job) → Wellformed j → length (entry j 0).sample ≡ sample_size (parameters j.numbers.scheme)
length_entry j ok = length_first j.numbers.visibility j refl ok

-- ---- the result

module _ (j : Job) (accepted : IsAccepted j) where
  pub lookup_bytes : lookup_sample j ≡ bytes (result_sample j)
  unfolding lookup_sample
  lookup_bytes = after_written _ _ _ accepted

  pub lookup_length : length (lookup_sample j) ≡ 4 * sample_size (parameters j.numbers.scheme)
  lookup_length =
      let x = j.numbers in
      ap length lookup_bytes ∙ length_bytes _
      ∙ ap (λ n. 4 * n)
      (length_looked_up (parameters x.scheme) (words j.blocks) (rotations x) (entry j) x.d (length_entry j (lookup_accepted j accepted).job))
