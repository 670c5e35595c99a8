-- Tables of both packings: entries that hold its classes under a key, as the trivial samples of a public table do under every key. A lookup
-- among them holds what the bits name, and its first s coefficients are the classes of that entry. For k masks and keys of any weight.
-- Assumes nothing.
use mathlib.Core.Path.{◌≡◌, ap, ap₂, sym, ◌∙◌}
use mathlib.Core.Logic.{◌⊎◌, inl, inr}
use mathlib.Core.List.{List, [], ◌∷◌}
use Prim.Native.Nat.{ℕ, ◌+◌, ◌-◌, ◌*◌, ◌/◌, ◌%◌, ◌^◌, ◌≤◌, ◌<◌}
use native.Mathlib.Nat.{le_of_eq, zero-add, mod-lt, div-add-mod'}
use native.Mathlib.Omega.{arith}
use lib.Dec.{lit<}
use lib.ListN.{length, get_or}
use lib.Pow.{pow_pos}
use lib.Seq.{ext_get_or}
use Rattle.torus.specs.Sum.{chunk}
use Rattle.torus.specs.Bytes.{AreBytes, words, bytes}
use Rattle.torus.proofs.Joined.{chunk_at, chunk_inside, chunk_below, length_chunk, words_chunk}
use Rattle.torus.proofs.Near.{near_path, near_congruent}
use Rattle.torus.proofs.Parts.{bytes_words}
use Rattle.ring.specs.Polynomial.{Agree, rotated}
use Rattle.ring.proofs.Close.{Close, close_weaken}
use Rattle.ring.proofs.Rotation.{rotated_low, rotated_none, rotated_word}
use Rattle.trlwe.specs.Classes.{encode, message}
use Rattle.trlwe.specs.Sample.{phase, trivial, decrypted}
use Rattle.trlwe.proofs.Decoding.{message_word, message_used}
use Rattle.trlwe.proofs.Phases.{trivial_phase, trivial_below}
use Rattle.trlwe.proofs.Decrypted.{decrypted_near}
use Rattle.trgsw.specs.declared.Parameters.{Parameters}
use Rattle.trees.specs.Tree.{entry_number}
use Rattle.tables.specs.declared.Numbers.{Numbers}
use Rattle.tables.specs.Numbers.{LawfulNumbers, rotations, sample_classes, table_size, table_samples}
use Rattle.trees.specs.LookedUp.{Entry, looked_up, looked_up_bound, charges}
use Rattle.tables.specs.Table.{entry_classes, entry_message, table_message, named_message}
use Rattle.trees.proofs.Trees.{entry_number_lt}
use Rattle.tables.proofs.Passed.{class_below}
use Rattle.tables.proofs.Packings.{rotations_le, rotations_power, classes_le, single, sample_classes_le}
use Rattle.trees.proofs.Noise.{Selects}
use Rattle.trees.proofs.Largest.{largest_none}
use Rattle.trees.proofs.LookedUp.{entry_number_inside, looked_up_within}

-- A part of one element.
pub chunk_one : (h : ℕ) (l : List ℕ) → h < length l → chunk 1 h l ≡ get_or l h 0 ∷ []
chunk_one h l inside =
    ext_get_or 0 (chunk 1 h l) (get_or l h 0 ∷ []) (length_chunk 1 h l (omega arith))
    (λ i m.
    let size : length (chunk 1 h l) ≡ 1 = length_chunk 1 h l (omega arith) in
    let e : i ≡ 0 = omega arith in
    rw e (chunk_at 1 h l 0 (lit< tt) ∙ ap (λ u. get_or l u 0) {x = h * 1 + 0} {y = h} (omega arith)))

-- Where class i of entry h stands in the table: it is class i + rho of sample tau.
class_place : (s r h i : ℕ) → (r ≡ 0) ⊎ (s ≡ 1) → i < s → (i + h % 2 ^ r < s * 2 ^ r) × (h / 2 ^ r * (s * 2 ^ r) + (i + h % 2 ^ r) ≡ h * s + i)
class_place s r h i (inl e) l = rw e (omega arith, (let high : h / 2 ^ 0 ≡ h = omega arith in rw high (omega arith)))
class_place s r h i (inr e) l = rw e (let lone : i ≡ 0 = omega arith in (omega (arith, mod-lt h (pow_pos r)), omega (arith, div-add-mod' h (2 ^ r))))

-- Entries that hold the classes of a table under a key: their samples are of words, and the phase of each that stands in the table is within
-- its amplitude of its message.
pub record Held (x : Numbers) (k : ℕ) (K classes : List ℕ) (entry : (t : ℕ) → Entry) : Type 0 where
  pub word : (t u : ℕ) → get_or (entry t).sample u 0 < 2 ^ 32
  pub near : (t : ℕ) → t < table_samples x → Close (2 ^ 32) x.scheme.N (entry t).amplitude (phase x.scheme.N k K (entry t).sample) (table_message x t classes)

-- Lawful numbers, and classes below M.
module _ (x : Numbers) (classes : List ℕ) (ok : LawfulNumbers x) (below : (i : ℕ) → i < length classes → get_or classes i 0 < x.M) where
  -- The message of a sample of the table is of words.
  pub message_words : (t i : ℕ) → table_message x t classes i < 2 ^ 32
  message_words t = message_word x.M (sample_classes x) (chunk (sample_classes x) t classes) ok.class_number (λ i l. class_below x classes ok below (sample_classes x) t i)

  -- ---- what a lookup holds where the bits name entry h

  pub named_word : (h i : ℕ) → named_message x h classes i < 2 ^ 32
  named_word h = rotated_word x.scheme.N (h % 2 ^ rotations x) (λ i l. message_words (h / 2 ^ rotations x) i)

  -- In both packings its first s coefficients are the encoding of the entry's classes.
  pub named_used : (h i : ℕ) → i < x.s → named_message x h classes i ≡ entry_message x h classes i
  named_used h i l =
      let r : ℕ = rotations x in
      let at = class_place x.s r h i (single x ok) l in
      rotated_low x.scheme.N (h % 2 ^ r) (table_message x (h / 2 ^ r) classes) i (omega (arith, at.0, sample_classes_le x ok))
      ∙ message_used x.M (sample_classes x) (chunk (sample_classes x) (h / 2 ^ r) classes) (i + h % 2 ^ r) at.0
      ∙ ap (encode x.M)
      (chunk_at (sample_classes x) (h / 2 ^ r) classes (i + h % 2 ^ r) at.0 ∙ ap (λ u. get_or classes u 0) at.1 ∙ sym (chunk_at x.s h classes i l))
      ∙ sym (message_used x.M x.s (entry_classes x h classes) i l)

  -- ---- a lookup in the table, with k masks and keys of weight W

  -- The entries of a public table are the trivial samples of its classes.
  abbrev public_entry : (k t : ℕ) → Entry
  public_entry k t = record { sample = trivial x.scheme.N k (table_message x t classes); amplitude = 0 }

  pub entry_below : (k t u : ℕ) → get_or (public_entry k t).sample u 0 < 2 ^ 32
  entry_below k t = trivial_below x.scheme.N k (table_message x t classes) (message_words t)

  -- A trivial sample has the phase of its message under every key, so such a table holds its classes exactly.
  pub public_holds : (k : ℕ) (K : List ℕ) → Held x k K classes (public_entry k)
  public_holds k K = record {
    word = entry_below k;
    near = λ t l i m. near_path (trivial_phase x.scheme.N k K (table_message x t classes) i m (message_words t i));
  }

  module _ (k W : ℕ) where
    abbrev set : Parameters
    set = record { N = x.scheme.N; k = k; g = x.scheme.g; L = x.scheme.L; W = W }

    module _ (bits : ℕ → ℕ) (K blocks amplitudes : List ℕ) (given : Selects set x.d bits K blocks amplitudes) (entry : (t : ℕ) → Entry)
        (held : Held x k K classes entry) where
      -- The phase is within the bound of what the bits name.
      pub table_near : Close (2 ^ 32) x.scheme.N (looked_up_bound set amplitudes (rotations x) entry x.d)
          (phase x.scheme.N k K (looked_up set blocks (rotations x) entry x.d)) (named_message x (entry_number bits x.d) classes)
      table_near =
          let tau : ℕ = entry_number bits x.d / 2 ^ rotations x in
          looked_up_within set (rotations x) x.d bits K blocks amplitudes given (rotations_le x) (rotations_power x ok) entry held.word
          (table_message x tau classes) (λ i l. message_words tau i)
          (held.near tau (entry_number_inside bits (rotations x) x.d (rotations_le x) given.bit))

      -- Where the bound is below half of a band, the sample holds the classes of that entry.
      pub table_classes : length classes ≡ table_size x → looked_up_bound set amplitudes (rotations x) entry x.d < 2 ^ 31 / x.M
          → decrypted x.scheme.N k x.M x.s K (looked_up set blocks (rotations x) entry x.d) ≡ entry_classes x (entry_number bits x.d) classes
      table_classes size quiet =
          let h : ℕ = entry_number bits x.d in
          let inside : h * x.s + x.s ≤ length classes = omega (arith, chunk_inside h (2 ^ x.d) x.s (entry_number_lt bits x.d given.bit), size) in
          decrypted_near x.scheme.N k x.M x.s (looked_up_bound set amplitudes (rotations x) entry x.d) K _ (entry_classes x h classes) ok.class_number
          (length_chunk x.s h classes inside) (λ i l. class_below x classes ok below x.s h i) quiet
          (λ i l. let low : i < x.scheme.N = omega (arith, classes_le x ok) in near_congruent (table_near i low) (near_path (named_used h i l)))

    -- ---- of a public table

    module _ (bits : ℕ → ℕ) (K blocks amplitudes : List ℕ) (given : Selects set x.d bits K blocks amplitudes) where
      -- No amplitude is declared of its entries, so the bound is the sum of the d charges.
      public_bound : looked_up_bound set amplitudes (rotations x) (public_entry k) x.d ≡ charges set amplitudes x.d
      public_bound = ap (λ n. n + charges set amplitudes x.d) (largest_none (2 ^ (x.d - rotations x))) ∙ zero-add _

      -- The phase is within the charges of what the bits name.
      pub public_near : Close (2 ^ 32) x.scheme.N (charges set amplitudes x.d)
          (phase x.scheme.N k K (looked_up set blocks (rotations x) (public_entry k) x.d)) (named_message x (entry_number bits x.d) classes)
      public_near = close_weaken (le_of_eq public_bound) (table_near bits K blocks amplitudes given (public_entry k) (public_holds k K))

      -- Where the charges are below half of a band, the sample holds the classes of that entry.
      pub public_classes : length classes ≡ table_size x → charges set amplitudes x.d < 2 ^ 31 / x.M
          → decrypted x.scheme.N k x.M x.s K (looked_up set blocks (rotations x) (public_entry k) x.d) ≡ entry_classes x (entry_number bits x.d) classes
      public_classes size quiet = table_classes bits K blocks amplitudes given (public_entry k) (public_holds k K) size (rw public_bound quiet)

-- Where nothing rotates, what the bits name is the entry's encoding, all N coefficients.
pub named_whole : (x : Numbers) (classes : List ℕ) (h : ℕ) → rotations x ≡ 0 → Agree x.scheme.N (named_message x h classes) (entry_message x h classes)
named_whole x classes h none i l =
    let low : h % 2 ^ rotations x ≡ 0 = rw none (omega arith) in
    let high : h / 2 ^ rotations x ≡ h = rw none (omega arith) in
    let size : sample_classes x ≡ x.s = omega (arith, ap (λ n. x.s * 2 ^ n) none) in
    ap (λ n. rotated x.scheme.N n (table_message x (h / 2 ^ rotations x) classes) i) low
    ∙ rotated_none x.scheme.N (table_message x (h / 2 ^ rotations x) classes) i l
    ∙ ap₂ (λ c t. message x.M c (chunk c t classes) i) size high

-- The bytes of an entry's classes are the bytes that were lent for them.
pub entry_bytes : (x : Numbers) (h : ℕ) (classes : List ℕ) → AreBytes classes → h * (4 * x.s) + 4 * x.s ≤ length classes
    → bytes (entry_classes x h (words classes)) ≡ chunk (4 * x.s) h classes
entry_bytes x h classes cb inside =
    rw (← words_chunk x.s h classes) (bytes_words x.s (chunk (4 * x.s) h classes) (length_chunk (4 * x.s) h classes inside) (chunk_below 256 (4 * x.s) h classes (lit< tt) cb))
