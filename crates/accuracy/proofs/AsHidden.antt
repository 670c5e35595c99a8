-- A public table whose entries are lent as a hidden one's, trivial samples with amplitude 0, gives the same answer and the same sample
-- (`public_as_hidden`), in both packings. `as_hidden` is in specs/Job.antt.
-- Assumes nothing.
use Rattle.std.proofs.Common.{◌≡◌, ℕ, zero, suc, ◌+◌, ◌-◌, ◌*◌, ◌^◌, ◌<◌, List, length, get_or, replicate, refl, ap, ap₂, sym, ◌∙◌, arith}
use lib.Dec.{lit<}
use lib.ListN.{length-replicate}
use Rattle.torus.specs.Sum.{joined, chunk}
use Rattle.torus.specs.Bytes.{words, bytes}
use Rattle.torus.proofs.Joined.{Each, length_joined, joined_below, chunk_joined}
use Rattle.torus.proofs.Parts.{length_bytes, words_bytes}
use Rattle.answers.specs.Answers.{noise, after}
use Rattle.trlwe.specs.Sample.{trivial}
use Rattle.trlwe.proofs.Phases.{length_trivial, trivial_below}
use Rattle.trgsw.specs.Parameters.{sample_size, masks, parameters}
use Rattle.tables.specs.declared.Visibility.TheVariants.{Public}
use Rattle.tables.specs.declared.Numbers.{Numbers}
use Rattle.tables.specs.Numbers.{LawfulNumbers, rotations, gate_count, table_samples}
use Rattle.trees.specs.LookedUp.{looked_up, charges, largest}
use Rattle.tables.specs.Table.{table_message, table_sample, entry_sample, entry_words, amplitude_of}
use Rattle.lookup.specs.Job.{Job, hiding, as_hidden}
use Rattle.lookup.specs.Calls.{entry, noise_bound, result_sample, lookup, lookup_sample, lookup_work}
use Rattle.lookup.proofs.Accepted.{Wellformed, lookup_noise}
use Rattle.trees.proofs.Largest.{largest_cong}
use Rattle.trees.proofs.LookedUp.{looked_up_cong}
use Rattle.accuracy.proofs.Tables.{message_words}

-- ---- the numbers, of which all but the visibility are the same

module _ (x : Numbers) where
  hiding_rotations : rotations (hiding x) ≡ rotations x
  unfolding rotations
  hiding_rotations = refl

  hiding_samples : table_samples (hiding x) ≡ table_samples x
  hiding_samples = ap (λ (r : ℕ). 2 ^ (x.d - r)) hiding_rotations

  hiding_gates : gate_count (hiding x) ≡ gate_count x
  hiding_gates = ap (λ (r : ℕ). 2 ^ (x.d - r) - 1 + r) hiding_rotations

  hiding_lawful : LawfulNumbers x → LawfulNumbers (hiding x)
  hiding_lawful ok = record {
    scheme = ok.scheme;
    class_number = ok.class_number;
    some = ok.some;
    most = ok.most;
    depth = ok.depth;
  }

-- What is read of words that are 0, or behind them.
zeros_at : (n t : ℕ) → ◌≡◌ {A = ℕ} (get_or (replicate n 0) t 0) 0
zeros_at zero t = refl
zeros_at (suc n) zero = refl
zeros_at (suc n) (suc t) = zeros_at n t

-- A job of a public table that passes the refusals up to 7.
module _ (j : Job) (ok : Wellformed j) (e : j.numbers.visibility ≡ Public) where
  abbrev x : Numbers
  x = j.numbers

  -- ---- what is lent to the hidden call

  -- The samples of the table, of `own` words each.
  abbrev samples : ℕ → List ℕ
  samples = table_sample x (words j.table)

  abbrev own : ℕ
  own = sample_size (parameters x.scheme)

  sample_trivial : (t : ℕ) → samples t ≡ trivial x.scheme.N (masks x.scheme) (table_message x t (words j.table))
  sample_trivial t = ap (λ v. entry_sample v x (chunk (entry_words v x) t (words j.table))) e

  samples_length : Each (table_samples x) own samples
  samples_length t l = ap length (sample_trivial t) ∙ length_trivial x.scheme.N (masks x.scheme) _

  samples_word : (t u : ℕ) → get_or (samples t) u 0 < 2 ^ 32
  samples_word t = rw (sample_trivial t) (trivial_below x.scheme.N (masks x.scheme) _ (message_words x (words j.table) ok.numbers (ok.contents.below e) t))

  lent_table : words (as_hidden j).table ≡ joined (table_samples x) samples
  lent_table = words_bytes _ (joined_below (2 ^ 32) (table_samples x) samples (lit< tt) samples_word)

  lent_amplitude : (t : ℕ) → get_or (words (as_hidden j).entry_amplitudes) t 0 ≡ 0
  lent_amplitude t =
      let zeros = words_bytes (replicate (table_samples x) 0) (λ i. omega (arith, zeros_at (table_samples x) i)) in
      ap (λ ws. get_or ws t 0) zeros ∙ zeros_at (table_samples x) t

  -- It has the lengths that a hidden table asks for, and amplitudes up to 2^31.
  pub as_hidden_wellformed : Wellformed (as_hidden j)
  as_hidden_wellformed = record {
    numbers = hiding_lawful x ok.numbers;
    lengths = record {
      blocks_length = ok.lengths.blocks_length;
      amplitudes_length = ok.lengths.amplitudes_length;
      table_length = length_bytes _ ∙ ap (λ n. 4 * n)
          (length_joined (table_samples x) own samples samples_length
          ∙ ap (λ n. n * own) (sym (hiding_samples x)));
      entry_amplitudes_length = length_bytes _ ∙ ap (λ n. 4 * n)
          (length-replicate {A = ℕ} (table_samples x) 0 ∙ sym (hiding_samples x));
      sample_length = ok.lengths.sample_length;
      work_length = ok.lengths.work_length;
    };
    contents = record {
      small = ok.contents.small;
      entries_small = λ t l. omega (arith, lent_amplitude t);
      below = λ h. absurd (cc);
    };
  }

  -- ---- the hidden table's entries are the public one's

  same_sample : (t : ℕ) → t < table_samples x → (entry (as_hidden j) t).sample ≡ (entry j t).sample
  same_sample t l =
      ap (chunk own t) lent_table ∙ chunk_joined (table_samples x) own samples samples_length t l

  same_amplitude : (t : ℕ) → (entry (as_hidden j) t).amplitude ≡ (entry j t).amplitude
  same_amplitude t = lent_amplitude t ∙ sym (ap (λ v. amplitude_of v (words j.entry_amplitudes) t) e)

  -- ---- so the lookups are the same

  same_bound : noise_bound (as_hidden j) ≡ noise_bound j
  same_bound =
      ap (λ n. n + charges (parameters x.scheme) (words j.amplitudes) x.d)
      (ap (λ n. largest n (λ t. (entry (as_hidden j) t).amplitude)) (hiding_samples x)
      ∙ largest_cong (table_samples x) _ (λ t. (entry j t).amplitude) (λ t l. same_amplitude t))

  same_result : result_sample (as_hidden j) ≡ result_sample j
  same_result =
      ap (λ r. looked_up (parameters x.scheme) (words j.blocks) r (entry (as_hidden j)) x.d) (hiding_rotations x)
      ∙ looked_up_cong (parameters x.scheme) (words j.blocks) (rotations x) (entry (as_hidden j)) (entry j) x.d same_sample

  same_answer : lookup (as_hidden j) ≡ lookup j
  same_answer = lookup_noise (as_hidden j) as_hidden_wellformed ∙ ap₂ (noise x.M) same_bound (hiding_gates x) ∙ sym (lookup_noise j ok)

  -- It is accepted or refused with 9 alike, with the same bound and gates, and leaves the same sample and the same work slice.
  pub public_as_hidden : (lookup (as_hidden j) ≡ lookup j) × (lookup_sample (as_hidden j) ≡ lookup_sample j) × (lookup_work (as_hidden j) ≡ lookup_work j)
  unfolding lookup_sample lookup_work
  public_as_hidden = (
    same_answer,
    ap₂ (λ a ws. after a (bytes ws) j.sample) same_answer same_result,
    ap (λ a. after a (replicate (length j.work) 0) j.work) same_answer,
  )
