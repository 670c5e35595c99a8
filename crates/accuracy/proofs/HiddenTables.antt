-- A hidden table from encryption to lookup, of the calls' own definitions: the samples that encryption left, one after another, are within
-- their declared amplitudes of their messages, if no amplitude is declared below the bound that the encryption reported. So the premise of
-- the accuracy rule on hidden tables is met, and a job whose blocks come from encryption too is answered accurately.
-- Assumes nothing.
use mathlib.Core.Path.{◌≡◌, ap, sym, subst, ◌∙◌}
use mathlib.Core.List.{List}
use Prim.Native.Nat.{ℕ, ◌*◌, ◌/◌, ◌%◌, ◌≤◌, ◌<◌}
use native.Mathlib.Nat.{le_trans, mod-lt, div-add-mod', div-lt_iff_lt-mul}
use native.Mathlib.Omega.{arith}
use lib.ListN.{length, get_or}
use lib.Pow.{pow_pos}
use Rattle.torus.specs.Sum.{chunk}
use Rattle.torus.specs.Word.{distance}
use Rattle.torus.specs.Bytes.{words}
use Rattle.torus.proofs.Joined.{chunk_at, words_chunk}
use Rattle.torus.proofs.Parts.{length_words}
use Rattle.trlwe.specs.Sample.{phase}
use Rattle.trlwe.proofs.Accepted.{Encryptable, encrypt_accepted}
use Rattle.trlwe.proofs.RoundTrip.{encrypt_within}
use Rattle.trgsw.specs.Parameters.{masks, parameters, sample_size}
use Rattle.tables.specs.Numbers.{LawfulNumbers, levels, sample_classes, table_samples}
use Rattle.lookup.specs.Job.{Job}
use Rattle.tables.specs.Table.{table_message, entry_words, entry_sample, amplitude_of}
use Rattle.lookup.specs.Calls.{entry, lookup, lookup_sample, IsAccepted}
use Rattle.accuracy.specs.Rule.{Hides, Tells, Accurate, Encrypted, EncryptedTable}
use Rattle.lookup.proofs.Accepted.{lookup_accepted}
use Rattle.tables.proofs.Packings.{table_samples_fill}
use Rattle.accuracy.proofs.EndToEnd.{encrypted_lookup}

module _ (j : Job) (mask errors room : ℕ → List ℕ) (key classes : List ℕ) (given : EncryptedTable j mask errors room key classes) where
  -- The arguments of the encryption that made sample t. It took the table's classes from t·n on, n of them.
  encryptable : (t : ℕ) → t < table_samples j.numbers → let x = j.numbers in
      Encryptable x.scheme.N x.M (sample_classes x) key (mask t) (errors t) (chunk (4 * sample_classes x) t classes) (room t)
  encryptable t l = let x = j.numbers in encrypt_accepted x.scheme.N x.M (sample_classes x) key _ _ _ _ (given.made t l).accepted

  classes_taken : (t : ℕ) → words (chunk (4 * sample_classes j.numbers) t classes) ≡ chunk (sample_classes j.numbers) t (words classes)
  classes_taken t = words_chunk (sample_classes j.numbers) t classes

  -- Each class is one of those that some encryption took, so it is below M.
  classes_below : LawfulNumbers j.numbers → (i : ℕ) → i < length (words classes) → get_or (words classes) i 0 < j.numbers.M
  classes_below ok i l =
      let x = j.numbers in
      let n : ℕ = sample_classes x in
      let first : 0 < table_samples x = pow_pos (levels x) in
      let some : 0 < n = (encryptable 0 first).some in
      let inside : i < table_samples x * n = omega (arith, length_words classes, given.size, table_samples_fill x ok) in
      let t : i / n < table_samples x = (div-lt_iff_lt-mul some).1 inside in
      let place : get_or (words (chunk (4 * n) (i / n) classes)) (i % n) 0 ≡ get_or (words classes) i 0 =
      ap (λ cs. get_or cs (i % n) 0) (classes_taken (i / n))
      ∙ chunk_at n (i / n) (words classes) (i % n) (mod-lt i some)
      ∙ ap (λ u. get_or (words classes) u 0) (div-add-mod' i n) in
      subst (λ c. c < x.M) place ((encryptable (i / n) t).below (i % n) (mod-lt i some))

  -- A lent sample as words, which is the entry of a hidden table.
  sample_lent : (t : ℕ) → let x = j.numbers in words (chunk (4 * sample_size (parameters x.scheme)) t j.table) ≡ (entry j t).sample
  sample_lent t =
      let x = j.numbers in
      words_chunk (sample_size (parameters x.scheme)) t j.table
      ∙ sym (ap (λ v. entry_sample v x (chunk (entry_words v x) t (words j.table))) given.hidden)

  amplitude_lent : (t : ℕ) → get_or (words j.entry_amplitudes) t 0 ≡ (entry j t).amplitude
  amplitude_lent t = sym (ap (λ v. amplitude_of v (words j.entry_amplitudes) t) given.hidden)

  -- Its phase is within its declared amplitude of its encoding.
  sample_within : (t i : ℕ) → t < table_samples j.numbers → i < j.numbers.scheme.N → let x = j.numbers in
      distance (phase x.scheme.N (masks x.scheme) (words key) (entry j t).sample i) (table_message x t (words classes) i) ≤ (entry j t).amplitude
  unfolding masks
  sample_within t i lt li =
      let x = j.numbers in
      let n : ℕ = sample_classes x in
      let made = given.made t lt in
      let whole = encrypt_within x.scheme.N x.M n key (mask t) (errors t) (chunk (4 * n) t classes) (room t) made.mask_bytes made.errors_bytes made.accepted i li in
      let lent = ap words (sym made.left) ∙ sample_lent t in
      rw (← amplitude_lent t, ← lent, ← classes_taken t) (le_trans whole made.declared)

  -- A table that encryption made hides its classes.
  pub encrypted_hides : LawfulNumbers j.numbers → Hides j key (words classes)
  encrypted_hides ok = record {
    are_bytes = given.are_bytes;
    size = omega (arith, length_words classes, given.size);
    below = classes_below ok;
    within = sample_within;
  }

  -- As the premise of the rule has it.
  pub encrypted_tells : LawfulNumbers j.numbers → Tells j.numbers.visibility j key (words classes)
  encrypted_tells ok = subst (λ v. Tells v j key (words classes)) (sym given.hidden) (encrypted_hides ok)

-- So a job whose blocks and whose table come from encryption under one key is answered accurately if it is accepted.
pub encrypted_hidden_lookup : (j : Job) (bits : ℕ → ℕ) (masks errors room mask entry_errors entry_room : ℕ → List ℕ) (key classes out : List ℕ) → IsAccepted j
    → Encrypted j bits masks errors room key out → EncryptedTable j mask entry_errors entry_room key classes
    → Accurate j bits key (words classes) out (lookup j) (lookup_sample j)
encrypted_hidden_lookup j bits masks errors room mask entry_errors entry_room key classes out accepted given table =
    encrypted_lookup j bits masks errors room key (words classes) out accepted given
    (encrypted_tells j mask entry_errors entry_room key classes table (lookup_accepted j accepted).job.numbers)
