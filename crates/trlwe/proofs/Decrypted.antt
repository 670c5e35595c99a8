-- What decryption leaves: the classes that a sample holds, where its noise is below half of a band.
-- Assumes nothing.
use mathlib.Core.Path.{◌≡◌, ap, ◌∙◌, subst}
use mathlib.Core.List.{List}
use Prim.Native.Nat.{ℕ, ◌/◌, ◌^◌, ◌<◌}
use lib.Dec.{lit<}
use lib.ListN.{length, get_or}
use Rattle.torus.specs.Bytes.{words, bytes}
use Rattle.torus.proofs.Lists.{tabulate_at, tabulate_below, tabulate_cong, tabulate_self}
use Rattle.torus.proofs.Near.{Near}
use Rattle.torus.proofs.Parts.{words_bytes}
use Rattle.answers.specs.Answers.{number}
use Rattle.answers.specs.Checks.{ClassNumber}
use Rattle.answers.proofs.Laws.{after_written}
use Rattle.trlwe.specs.Classes.{decode, message}
use Rattle.trlwe.specs.Sample.{phase, decrypted}
use Rattle.trlwe.specs.Calls.{decrypt_classes, decrypt_classes_classes}
use Rattle.trlwe.proofs.Accepted.{Decryptable, decrypt_accepted}
use Rattle.trlwe.proofs.Decoding.{decode_near, decode_word, message_used}

-- A sample whose phase is within A of the message of some classes holds these classes.
pub decrypted_near : (N k M s A : ℕ) (K sample classes : List ℕ) → ClassNumber M → length classes ≡ s
    → ((i : ℕ) → i < s → get_or classes i 0 < M) → A < 2 ^ 31 / M
    → ((i : ℕ) → i < s → Near (2 ^ 32) A (phase N k K sample i) (message M s classes i))
    → decrypted N k M s K sample ≡ classes
unfolding decrypted
decrypted_near N k M s A K sample classes ok size below small near =
    tabulate_cong s _ _ (λ i l.
    decode_near M ok (below i l) small (subst (λ w. Near (2 ^ 32) A (phase N k K sample i) w) (message_used M s classes i l) (near i l)))
    ∙ tabulate_self s classes size

-- The bytes that an accepted decryption leaves, and class i of them.
pub decrypt_bytes : (N M s : ℕ) (key sample classes : List ℕ) → number (decrypt_classes N M s key sample classes) ≡ 0
    → decrypt_classes_classes N M s key sample classes ≡ bytes (decrypted N 1 M s (words key) (words sample))
unfolding decrypt_classes_classes
decrypt_bytes N M s key sample classes e = after_written _ _ _ e

pub decrypt_class : (N M s : ℕ) (key sample classes : List ℕ) → number (decrypt_classes N M s key sample classes) ≡ 0 → (i : ℕ) → i < s
    → get_or (words (decrypt_classes_classes N M s key sample classes)) i 0 ≡ decode M (phase N 1 (words key) (words sample) i)
unfolding decrypted
decrypt_class N M s key sample classes e i l =
    let ok : Decryptable N M s key sample classes = decrypt_accepted N M s key sample classes e in
    ap (λ (ws : List ℕ). get_or ws i 0) (ap words (decrypt_bytes N M s key sample classes e)
    ∙ words_bytes _ (tabulate_below (2 ^ 32) s _ (lit< tt) (λ j. decode_word M ok.class_number _)))
    ∙ tabulate_at s _ i l
