-- Demand 2's second sentence: "Classes that encryption accepts come back from decryption." And what the accepted encryption
-- reports: its bound is a bound on the noise of the sample that it writes. Both are of the calls' own definitions.
-- Assumes nothing.
use mathlib.Core.Path.{◌≡◌, ap, sym, ◌∙◌, subst}
use mathlib.Core.List.{List}
use Prim.Native.Nat.{ℕ, ◌+◌, ◌*◌, ◌^◌, ◌≤◌, ◌<◌}
use native.Mathlib.Nat.{le_of_eq, mod-lt, add-zero, zero-add}
use native.Mathlib.Omega.{arith}
use lib.Dec.{lit<}
use lib.ListN.{length, get_or, length-append}
use Rattle.torus.specs.Word.{add, magnitude, distance}
use Rattle.torus.specs.Bytes.{AreBytes, words, bytes}
use Rattle.torus.proofs.Lists.{length_tabulate, tabulate_below, append_below}
use Rattle.torus.proofs.Near.{Near, near_refl, near_add, near_weaken, near_mod, congruent_trans}
use Rattle.torus.proofs.Magnitudes.{near_distance, magnitude_near}
use Rattle.torus.proofs.Parts.{length_words, words_word, bytes_words, length_bytes, words_bytes}
use Rattle.answers.specs.Answers.{number, bound, greatest_magnitude}
use Rattle.answers.proofs.Laws.{greatest_at, after_written}
use Rattle.trlwe.specs.Classes.{message}
use Rattle.trlwe.specs.Sample.{phase, body, encryption, decrypted}
use Rattle.trlwe.specs.Calls.{encrypt_classes, encrypt_classes_sample, decrypt_classes, decrypt_classes_classes}
use Rattle.trlwe.proofs.Accepted.{Encryptable, encrypt_accepted, encrypt_accepts, decrypt_accepts}
use Rattle.trlwe.proofs.Decrypted.{decrypted_near, decrypt_bytes}
use Rattle.trlwe.proofs.Decoding.{message_word}
use Rattle.trlwe.proofs.Phases.{encryption_phase}

-- A word to which an error is added is within the error's magnitude of what it was.
added_near : (w e : ℕ) → e < 2 ^ 32 → Near (2 ^ 32) (magnitude e) (add w e) w
added_near w e h =
    congruent_trans (near_mod (w + e))
    (subst (λ x. Near (2 ^ 32) (magnitude e) (w + e) x) (add-zero w)
    (near_weaken (le_of_eq (zero-add (magnitude e))) (near_add (near_refl w) (magnitude_near h))))

length_encryption : (N k : ℕ) (K a errors : List ℕ) (f : ℕ → ℕ) → length (encryption N k K a errors f) ≡ length a + N
unfolding encryption
length_encryption N k K a errors f = length-append a _ ∙ ap (λ n. length a + n) (length_tabulate N _)

encryption_words : (N k : ℕ) (K a errors : List ℕ) (f : ℕ → ℕ) → ((i : ℕ) → get_or a i 0 < 2 ^ 32)
    → words (bytes (encryption N k K a errors f)) ≡ encryption N k K a errors f
unfolding encryption body
encryption_words N k K a errors f word =
    words_bytes _ (append_below (2 ^ 32) a _ word (tabulate_below (2 ^ 32) N _ (lit< tt) (λ i. mod-lt _ (lit< tt))))

-- The bytes that an accepted encryption leaves.
sample_bytes : (N M s : ℕ) (key mask errors classes sample : List ℕ) → number (encrypt_classes N M s key mask errors classes sample) ≡ 0
    → encrypt_classes_sample N M s key mask errors classes sample
    ≡ bytes (encryption N 1 (words key) (words mask) (words errors) (message M s (words classes)))
unfolding encrypt_classes_sample
sample_bytes N M s key mask errors classes sample e = after_written _ _ _ e

sample_words : (N M s : ℕ) (key mask errors classes sample : List ℕ) → AreBytes mask → number (encrypt_classes N M s key mask errors classes sample) ≡ 0
    → words (encrypt_classes_sample N M s key mask errors classes sample)
    ≡ encryption N 1 (words key) (words mask) (words errors) (message M s (words classes))
sample_words N M s key mask errors classes sample mb e =
    ap words (sample_bytes N M s key mask errors classes sample e) ∙ encryption_words N 1 _ _ _ _ (words_word mask mb)

-- The phase of what an accepted encryption leaves is message + error, word for word, in every coefficient.
pub encrypt_phase : (N M s : ℕ) (key mask errors classes sample : List ℕ) → AreBytes mask
    → number (encrypt_classes N M s key mask errors classes sample) ≡ 0
    → (i : ℕ) → i < N
    → phase N 1 (words key) (words (encrypt_classes_sample N M s key mask errors classes sample)) i
    ≡ add (message M s (words classes) i) (get_or (words errors) i 0)
encrypt_phase N M s key mask errors classes sample mb e i l =
    let ok : Encryptable N M s key mask errors classes sample = encrypt_accepted N M s key mask errors classes sample e in
    ap (λ ws. phase N 1 (words key) ws i) (sample_words N M s key mask errors classes sample mb e)
    ∙ encryption_phase N 1 (words key) (words mask) (words errors) _ (omega (arith, length_words mask, ok.mask_length)) i l

-- It is within the error's magnitude of the message, and this is at most the reported bound.
phase_near : (N M s : ℕ) (key mask errors classes sample : List ℕ) → AreBytes mask → AreBytes errors
    → number (encrypt_classes N M s key mask errors classes sample) ≡ 0
    → (i : ℕ) → i < N
    → Near (2 ^ 32) (greatest_magnitude (words errors))
    (phase N 1 (words key) (words (encrypt_classes_sample N M s key mask errors classes sample)) i) (message M s (words classes) i)
phase_near N M s key mask errors classes sample mb eb e i l =
    let ok : Encryptable N M s key mask errors classes sample = encrypt_accepted N M s key mask errors classes sample e in
    let inside : i < length (words errors) = omega (arith, length_words errors, ok.errors_length) in
    near_weaken (greatest_at (words errors) i inside)
    (subst (λ f. Near (2 ^ 32) (magnitude (get_or (words errors) i 0)) f (message M s (words classes) i))
    (sym (encrypt_phase N M s key mask errors classes sample mb e i l))
    (added_near (message M s (words classes) i) (get_or (words errors) i 0) (words_word errors eb i)))

pub encrypt_within : (N M s : ℕ) (key mask errors classes sample : List ℕ) → AreBytes mask → AreBytes errors
    → number (encrypt_classes N M s key mask errors classes sample) ≡ 0
    → (i : ℕ) → i < N
    → distance (phase N 1 (words key) (words (encrypt_classes_sample N M s key mask errors classes sample)) i) (message M s (words classes) i)
    ≤ bound (encrypt_classes N M s key mask errors classes sample)
encrypt_within N M s key mask errors classes sample mb eb e i l =
    let ok : Encryptable N M s key mask errors classes sample = encrypt_accepted N M s key mask errors classes sample e in
    let word : message M s (words classes) i < 2 ^ 32 = message_word M s (words classes) ok.class_number ok.below i in
    rw (encrypt_accepts N M s key mask errors classes sample ok)
    (near_distance (omega arith) (phase_near N M s key mask errors classes sample mb eb e i l))

-- The round trip: under the same key, with the same numbers, decryption is accepted and leaves the classes, every byte.
pub round_trip : (N M s : ℕ) (key mask errors classes sample out : List ℕ) → AreBytes mask → AreBytes errors → AreBytes classes
    → number (encrypt_classes N M s key mask errors classes sample) ≡ 0
    → length out ≡ 4 * s
    → (number (decrypt_classes N M s key (encrypt_classes_sample N M s key mask errors classes sample) out) ≡ 0)
    × (decrypt_classes_classes N M s key (encrypt_classes_sample N M s key mask errors classes sample) out ≡ classes)
round_trip N M s key mask errors classes sample out mb eb cb e len =
    let ok : Encryptable N M s key mask errors classes sample = encrypt_accepted N M s key mask errors classes sample e in
    let packed : List ℕ = encrypt_classes_sample N M s key mask errors classes sample in
    let size : length packed ≡ 4 * (2 * N) =
    ap length (sample_bytes N M s key mask errors classes sample e) ∙ length_bytes _
    ∙ ap (λ n. 4 * n) (length_encryption N 1 _ _ _ _ ∙ omega (arith, length_words mask, ok.mask_length)) in
    let accepted : number (decrypt_classes N M s key packed out) ≡ 0 =
    ap number (decrypt_accepts N M s key packed out (record {
      key_fits = ok.key_fits;
      class_number = ok.class_number;
      some = ok.some;
      most = ok.most;
      sample_length = size;
      classes_length = len;
    })) in
    let held : decrypted N 1 M s (words key) (words packed) ≡ words classes =
    decrypted_near N 1 M s (greatest_magnitude (words errors)) (words key) (words packed) (words classes) ok.class_number
    (omega (arith, length_words classes, ok.classes_length)) ok.below ok.quiet
    (λ i l. let inside : i < N = omega (arith, ok.most) in phase_near N M s key mask errors classes sample mb eb e i inside) in
    (accepted, decrypt_bytes N M s key packed out accepted ∙ ap bytes held ∙ bytes_words s classes ok.classes_length cb)
