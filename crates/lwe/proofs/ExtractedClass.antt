-- The class of an extracted sample is that of the coefficient, of the calls' own definitions.
-- Assumes nothing.
use mathlib.Core.Path.{◌≡◌, ap, ap₂, sym, ◌∙◌}
use mathlib.Core.List.{List, [], ◌∷◌}
use Prim.Native.Nat.{ℕ, ◌+◌, ◌*◌, ◌^◌, ◌<◌}
use native.Mathlib.Nat.{one-mul}
use lib.Dec.{lit<}
use lib.ListN.{length, get_or}
use Rattle.torus.specs.Sum.{tabulate}
use Rattle.torus.specs.Bytes.{AreBytes, words, bytes}
use Rattle.torus.proofs.Lists.{tabulate_below}
use Rattle.torus.proofs.Parts.{words_word, length_bytes, words_bytes}
use Rattle.answers.specs.Answers.{number, accepted}
use Rattle.answers.specs.Checks.{ClassNumber}
use Rattle.answers.proofs.Laws.{after_written}
use Rattle.trlwe.specs.Classes.{decode}
use Rattle.trlwe.specs.Sample.{Key, phase}
use Rattle.trlwe.specs.Calls.{decrypt_classes, decrypt_classes_classes}
use Rattle.trlwe.proofs.Decoding.{decode_word}
use Rattle.trlwe.proofs.Decrypted.{decrypt_class}
use Rattle.trlwe.proofs.Accepted.{Decryptable, decrypt_accepted}
use Rattle.lwe.specs.Scalar.{scalar_phase, extracted}
use Rattle.lwe.specs.Calls.{decrypt_scalar, decrypt_scalar_class, extract, extract_scalar}
use Rattle.lwe.proofs.Extraction.{length_extracted, extracted_below, extract_phase}
use Rattle.lwe.proofs.Accepted.{scalar_accepts, Extractable, extract_accepted, extract_accepts}

-- ---- what the calls leave

-- The bytes that an accepted extraction leaves.
scalar_bytes : (N p : ℕ) (sample scalar : List ℕ) → Extractable N p sample scalar
    → extract_scalar N p sample scalar ≡ bytes (extracted N 1 p (words sample))
unfolding extract_scalar
scalar_bytes N p sample scalar ok = after_written _ _ _ (ap number (extract_accepts N p sample scalar ok))

pub extract_length : (N p : ℕ) (sample scalar : List ℕ) → Extractable N p sample scalar → length (extract_scalar N p sample scalar) ≡ 4 * (N + 1)
extract_length N p sample scalar ok =
    ap length (scalar_bytes N p sample scalar ok) ∙ length_bytes (extracted N 1 p (words sample))
    ∙ ap (λ n. 4 * n) (length_extracted N 1 p (words sample) ∙ ap (λ n. n + 1) (one-mul N))

pub extract_words : (N p : ℕ) (sample scalar : List ℕ) → AreBytes sample → Extractable N p sample scalar
    → words (extract_scalar N p sample scalar) ≡ extracted N 1 p (words sample)
extract_words N p sample scalar byte ok =
    ap words (scalar_bytes N p sample scalar ok) ∙ words_bytes _ (extracted_below N 1 p (words sample) (words_word sample byte))

-- One class as bytes, and back.
class_back : (M : ℕ) → ClassNumber M → (f : ℕ) → get_or (words (bytes (decode M f ∷ []))) 0 0 ≡ decode M f
unfolding tabulate
class_back M ok f =
    ap (λ ws. get_or ws 0 0) (words_bytes (decode M f ∷ []) (tabulate_below (2 ^ 32) 1 (λ i. decode M f) (lit< tt) (λ i. decode_word M ok f)))

-- ---- both calls

-- The extracted sample has the phase of coefficient p.
pub extract_scalar_phase : (N p : ℕ) (key sample scalar : List ℕ) → AreBytes sample → Extractable N p sample scalar
    → scalar_phase N key (words (extract_scalar N p sample scalar)) ≡ phase N 1 key (words sample) p
extract_scalar_phase N p key sample scalar byte ok =
    ap₂ (λ n ws. scalar_phase n key ws) (sym (one-mul N)) (extract_words N p sample scalar byte ok)
    ∙ extract_phase N 1 p key (words sample) ok.position (words_word sample byte)

-- What extraction leaves, decryption accepts, and it leaves the class of coefficient p, every byte.
pub extract_decrypt : (N M p : ℕ) (key sample scalar class : List ℕ) → AreBytes sample → Extractable N p sample scalar
    → Key N 1 key → ClassNumber M → length class ≡ 4
    → (decrypt_scalar N M key (extract_scalar N p sample scalar) class ≡ accepted)
    × (decrypt_scalar_class N M key (extract_scalar N p sample scalar) class ≡ bytes (decode M (phase N 1 (words key) (words sample) p) ∷ []))
unfolding decrypt_scalar_class
extract_decrypt N M p key sample scalar class byte ok key_fits class_number class_length =
    let accepts : decrypt_scalar N M key (extract_scalar N p sample scalar) class ≡ accepted =
    scalar_accepts N M key (extract_scalar N p sample scalar) class (record {
      key_fits = key_fits;
      class_number = class_number;
      scalar_length = extract_length N p sample scalar ok;
      class_length = class_length;
    }) in
    let leaves : decrypt_scalar_class N M key (extract_scalar N p sample scalar) class ≡ bytes (decode M (phase N 1 (words key) (words sample) p) ∷ []) =
    after_written _ _ _ (ap number accepts) ∙ ap (λ f. bytes (decode M f ∷ [])) (extract_scalar_phase N p (words key) sample scalar byte ok) in
    (accepts, leaves)

-- Where the sample is decrypted too, the class is the one that this decryption leaves at p.
pub extract_class : (N M s p : ℕ) (key sample classes scalar class : List ℕ) → AreBytes sample
    → number (extract N p sample scalar) ≡ 0 → number (decrypt_classes N M s key sample classes) ≡ 0 → p < s → length class ≡ 4
    → (number (decrypt_scalar N M key (extract_scalar N p sample scalar) class) ≡ 0)
    × (get_or (words (decrypt_scalar_class N M key (extract_scalar N p sample scalar) class)) 0 0
    ≡ get_or (words (decrypt_classes_classes N M s key sample classes)) p 0)
extract_class N M s p key sample classes scalar class byte extracts decrypts inside class_length =
    let ok : Decryptable N M s key sample classes = decrypt_accepted N M s key sample classes decrypts in
    let fit : Extractable N p sample scalar = extract_accepted N p sample scalar extracts in
    let both = extract_decrypt N M p key sample scalar class byte fit ok.key_fits ok.class_number class_length in
    let left = ap (λ l. get_or (words l) 0 0) both.1 ∙ class_back M ok.class_number _ in
    (ap number both.0, left ∙ sym (decrypt_class N M s key sample classes decrypts p inside))
