-- Demand 3, the accuracy rule: what it asks of a job beside that it is accepted, and what it says.
-- Assumes nothing.
use Rattle.std.specs.Prelude.{◌≡◌, List, [], ◌∷◌, ℕ, ◌*◌, ◌≤◌, ◌<◌, length, get_or}
use Rattle.torus.specs.Sum.{chunk}
use Rattle.torus.specs.Word.{distance}
use Rattle.torus.specs.Bytes.{AreBytes, words, bytes}
use Rattle.answers.specs.Answers.{Answer, number, bound}
use Rattle.trlwe.specs.Classes.{encode}
use Rattle.trlwe.specs.Sample.{phase}
use Rattle.trlwe.specs.Calls.{encrypt_classes, encrypt_classes_sample, decrypt_classes, decrypt_classes_classes}
use Rattle.trgsw.specs.Block.{Holds}
use Rattle.selectors.specs.Calls.{SelectorInput, encrypt_selector, encrypt_selector_block}
use Rattle.tables.specs.declared.Visibility.{Visibility}
use Rattle.tables.specs.declared.Visibility.TheVariants.{Public, Hidden}
use Rattle.tables.specs.declared.Numbers.{Numbers}
use Rattle.trgsw.specs.Parameters.{SchemeKey, masks, parameters, sample_size, block_size}
use Rattle.tables.specs.Numbers.{sample_classes, table_size, table_samples}
use Rattle.trees.specs.Tree.{entry_number}
use Rattle.lookup.specs.Job.{Job}
use Rattle.trees.specs.LookedUp.{selector}
use Rattle.tables.specs.Table.{entry_classes, entry_message, table_message, named_message}
use Rattle.lookup.specs.Calls.{entry}

-- The key is of 0s and 1s with at most W ones, each selector block holds its bit within its declared amplitude, and decryption is lent a
-- slice `out` for s classes.
pub record Premises (j : Job) (bits : ℕ → ℕ) (key out : List ℕ) : Type 0 where
  pub key_fits : SchemeKey j.numbers.scheme key
  pub bit : (i : ℕ) → i < j.numbers.d → bits i ≤ 1
  pub holds : (i : ℕ) → i < j.numbers.d → let p = parameters j.numbers.scheme in
      Holds p (bits i) (get_or (words j.amplitudes) i 0) (words key) (selector p i (words j.blocks))
  pub out_length : length out ≡ 4 * j.numbers.s

-- What a hidden table hides: for each of its samples "each hidden entry's phase is within its amplitude of its encoding".
pub record Hides (j : Job) (key classes : List ℕ) : Type 0 where
  pub are_bytes : AreBytes j.table
  pub size : length classes ≡ table_size j.numbers
  pub below : (i : ℕ) → i < length classes → get_or classes i 0 < j.numbers.M
  pub within : (t i : ℕ) → t < table_samples j.numbers → i < j.numbers.scheme.N → let x = j.numbers in
      distance (phase x.scheme.N (masks x.scheme) (words key) (entry j t).sample i) (table_message x t classes i) ≤ (entry j t).amplitude

-- The classes of a job's table: those that a public one lists, those that a hidden one hides under the key.
abbrev pub Tells : (visibility : Visibility) (j : Job) (key classes : List ℕ) → Type 0
Tells Public j key classes = classes ≡ words j.table
Tells Hidden j key classes = Hides j key classes

-- The number of the entry that the bits name.
abbrev pub named : (j : Job) (bits : ℕ → ℕ) → ℕ
named j bits = entry_number bits j.numbers.d

-- Of the classes of a table, an answer and a sample, and a message: each coefficient of the sample's phase is within the reported bound of
-- the message, and "Decryption is called with the job's N, M and s", is accepted and lists the classes of the entry that the bits name.
pub record AccurateTo (j : Job) (bits : ℕ → ℕ) (key classes out : List ℕ) (answer : Answer) (sample : List ℕ) (message : ℕ → ℕ) : Type 0 where
  pub within : (i : ℕ) → i < j.numbers.scheme.N → distance (phase j.numbers.scheme.N (masks j.numbers.scheme) (words key) (words sample) i) (message i) ≤ bound answer
  pub decrypts : let x = j.numbers in number (decrypt_classes x.scheme.N x.M x.s key sample out) ≡ 0
  pub lists : let x = j.numbers in
      decrypt_classes_classes x.scheme.N x.M x.s key sample out ≡ bytes (entry_classes x (named j bits) classes)

-- The rule, in both packings and of both kinds of table: the message is that of the sample which has the named entry, rotated so that this
-- entry is at the front.
abbrev pub Accurate : (j : Job) (bits : ℕ → ℕ) (key classes out : List ℕ) (answer : Answer) (sample : List ℕ) → Type 0
Accurate j bits key classes out answer sample =
    AccurateTo j bits key classes out answer sample (named_message j.numbers (named j bits) classes)

-- ---- the same in each packing

-- In the horizontal packing the message is the named entry's exact encoding.
abbrev pub AccurateHorizontal : (j : Job) (bits : ℕ → ℕ) (key classes out : List ℕ) (answer : Answer) (sample : List ℕ) → Type 0
AccurateHorizontal j bits key classes out answer sample =
    AccurateTo j bits key classes out answer sample (entry_message j.numbers (named j bits) classes)

-- In the vertical one, where an entry is one class, "for coefficient 0 alone, with decryption called with s = 1".
pub record AccurateVertical (j : Job) (bits : ℕ → ℕ) (key classes out : List ℕ) (answer : Answer) (sample : List ℕ) : Type 0 where
  pub within : let x = j.numbers in
      distance (phase x.scheme.N (masks x.scheme) (words key) (words sample) 0) (encode x.M (get_or classes (named j bits) 0)) ≤ bound answer
  pub decrypts : let x = j.numbers in number (decrypt_classes x.scheme.N x.M 1 key sample out) ≡ 0
  pub lists : let x = j.numbers in
      decrypt_classes_classes x.scheme.N x.M 1 key sample out ≡ bytes (get_or classes (named j bits) 0 ∷ [])

-- ---- where the blocks come from encryption

-- A lent block is what an accepted encryption of a bit left, and the declared amplitude is no less than the bound that it reported.
pub record Made (c : SelectorInput) (block : List ℕ) (amplitude : ℕ) : Type 0 where
  pub accepted : number (encrypt_selector c) ≡ 0
  pub are_bytes : AreBytes c.errors
  pub left : block ≡ encrypt_selector_block c
  pub declared : bound (encrypt_selector c) ≤ amplitude

-- A job whose blocks are made so, each with masks, errors and a room of its own. A lent block has 4 bytes a word.
pub record Encrypted (j : Job) (bits : ℕ → ℕ) (masks_of errors room : ℕ → List ℕ) (key out : List ℕ) : Type 0 where
  pub key_fits : SchemeKey j.numbers.scheme key
  pub made : (i : ℕ) → i < j.numbers.d → let x = j.numbers.scheme in
      Made (record { N = x.N; g = x.g; L = x.L; bit = bits i; key = key; masks = masks_of i; errors = errors i; block = room i })
      (chunk (4 * block_size (parameters x)) i j.blocks) (get_or (words j.amplitudes) i 0)
  pub out_length : length out ≡ 4 * j.numbers.s

-- ---- where a hidden table comes from encryption

-- A lent sample is what an accepted encryption of these classes left, and the declared amplitude is no less than the bound that it reported.
pub record MadeSample (x : Numbers) (key mask errors classes room sample : List ℕ) (amplitude : ℕ) : Type 0 where
  pub accepted : number (encrypt_classes x.scheme.N x.M (sample_classes x) key mask errors classes room) ≡ 0
  pub mask_bytes : AreBytes mask
  pub errors_bytes : AreBytes errors
  pub left : sample ≡ encrypt_classes_sample x.scheme.N x.M (sample_classes x) key mask errors classes room
  pub declared : bound (encrypt_classes x.scheme.N x.M (sample_classes x) key mask errors classes room) ≤ amplitude

-- A hidden table whose samples are made so, one after another, each with a mask, errors and a room of its own. All of its classes are lent
-- in one slice, and each encryption takes its part. A lent sample has 4 bytes a word.
pub record EncryptedTable (j : Job) (mask errors room : ℕ → List ℕ) (key classes : List ℕ) : Type 0 where
  pub hidden : j.numbers.visibility ≡ Hidden
  pub are_bytes : AreBytes j.table
  pub size : length classes ≡ 4 * table_size j.numbers
  pub made : (t : ℕ) → t < table_samples j.numbers → let x = j.numbers in
      MadeSample x key (mask t) (errors t) (chunk (4 * sample_classes x) t classes) (room t) (chunk (4 * sample_size (parameters x.scheme)) t j.table)
      (get_or (words j.entry_amplitudes) t 0)
