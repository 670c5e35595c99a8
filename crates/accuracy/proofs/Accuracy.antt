-- Demand 3, the accuracy rule, of the calls' own definitions, from the lent bytes to the classes: a job that is accepted and meets the
-- premises is answered accurately, and so is its sample (`Premises`, `Tells` and `Accurate`, specs/Rule.antt). It is one statement over
-- both packings, public and hidden tables, and all lawful N, g, L, M, s and d; what it says of each packing and of each kind of table
-- follows. And what an accepted lookup reports.
-- Assumes nothing.
use mathlib.Core.Path.{◌≡◌, ap, ap₂, sym, subst, ◌∙◌}
use mathlib.Core.List.{List, [], ◌∷◌}
use Prim.Native.Nat.{ℕ, ◌+◌, ◌-◌, ◌*◌, ◌^◌, ◌≤◌, ◌<◌}
use native.Mathlib.Nat.{le_of_lt}
use native.Mathlib.Omega.{arith}
use lib.ListN.{length, get_or}
use Rattle.torus.specs.Sum.{sum, chunk}
use Rattle.torus.specs.Word.{distance}
use Rattle.torus.specs.Bytes.{AreBytes, words, bytes}
use Rattle.torus.proofs.Joined.{chunk_inside}
use Rattle.torus.proofs.Magnitudes.{near_distance}
use Rattle.torus.proofs.Parts.{length_words, words_bytes}
use Rattle.ring.proofs.Close.{Close}
use Rattle.ring.proofs.Degrees.{degree_pos}
use Rattle.answers.specs.Answers.{Answer, number, bound, gates}
use Rattle.trlwe.specs.Classes.{encode}
use Rattle.trlwe.specs.Sample.{phase, decrypted}
use Rattle.trlwe.specs.Calls.{decrypt_classes, decrypt_classes_classes}
use Rattle.trlwe.proofs.Accepted.{decrypt_accepts}
use Rattle.trlwe.proofs.Decoding.{message_used}
use Rattle.trlwe.proofs.Decrypted.{decrypt_bytes}
use Rattle.trgsw.proofs.Told.{told_light}
use Rattle.ring.specs.Polynomial.{log}
use Rattle.tables.specs.declared.Packing.TheVariants.{Horizontal, Vertical}
use Rattle.tables.specs.declared.Visibility.TheVariants.{Public, Hidden}
use Rattle.trgsw.specs.Parameters.{masks, parameters}
use Rattle.tables.specs.Numbers.{rotations, gate_count, table_size, table_samples, table_words}
use Rattle.trgsw.specs.External.{charge}
use Rattle.trees.specs.LookedUp.{charges, largest}
use Rattle.tables.specs.Table.{entry_classes, named_message}
use Rattle.lookup.specs.Job.{Job}
use Rattle.lookup.specs.Calls.{entry, noise_bound, result_sample, lookup, lookup_sample, IsAccepted}
use Rattle.accuracy.specs.Rule.{Premises, Hides, Tells, named, Accurate, AccurateHorizontal, AccurateVertical}
use Rattle.lookup.proofs.Accepted.{Findable, lookup_accepted, lookup_accepts}
use Rattle.trees.proofs.Trees.{entry_number_lt}
use Rattle.trees.proofs.Noise.{Selects}
use Rattle.trees.proofs.LookedUp.{looked_up_below, looked_up_none}
use Rattle.tables.proofs.Packings.{rotations_le, rotations_horizontal, gates_horizontal, classes_vertical, gates_vertical, gates_vertical_few, classes_le}
use Rattle.accuracy.proofs.Tables.{Held, chunk_one, named_word, named_used, named_whole, entry_bytes, table_near, table_classes}
use Rattle.lookup.proofs.Results.{lookup_bytes, lookup_length}
use Rattle.accuracy.proofs.Told.{told_size, told_below, told_held, public_tells, noise_bound_public}
use Rattle.trees.proofs.Largest.{largest_first, largest_more}

module _ (j : Job) (accepted : IsAccepted j) where
  ok : Findable j
  ok = lookup_accepted j accepted

  -- ---- what an accepted lookup reports

  -- "the largest entry amplitude plus the charges";
  pub lookup_bound : let x = j.numbers in
      bound (lookup j) ≡ largest (table_samples x) (λ t. (entry j t).amplitude) + sum x.d (λ i. charge (parameters x.scheme) (get_or (words j.amplitudes) i 0))
  unfolding charges
  lookup_bound = ap bound (lookup_accepts j ok)

  -- so of a public table "the sum of the d charges".
  pub lookup_bound_public : j.numbers.visibility ≡ Public
      → bound (lookup j) ≡ sum j.numbers.d (λ i. charge (parameters j.numbers.scheme) (get_or (words j.amplitudes) i 0))
  unfolding charges
  lookup_bound_public e = ap bound (lookup_accepts j ok) ∙ noise_bound_public j e

  -- The gates are 2^(d - r) - 1 + r;
  pub lookup_gates : gates (lookup j) ≡ gate_count j.numbers
  lookup_gates = ap gates (lookup_accepts j ok)

  -- so in the horizontal packing "the gates are 2^d - 1",
  pub lookup_gates_horizontal : j.numbers.packing ≡ Horizontal → gates (lookup j) ≡ 2 ^ j.numbers.d - 1
  lookup_gates_horizontal e = lookup_gates ∙ gates_horizontal j.numbers e

  -- and in the vertical one, with N = 2^v, "2^(d - v) - 1 + v, or d when d is below v".
  pub lookup_gates_vertical : let x = j.numbers in x.packing ≡ Vertical → log x.scheme.N ≤ x.d → gates (lookup j) ≡ 2 ^ (x.d - log x.scheme.N) - 1 + log x.scheme.N
  lookup_gates_vertical e h = lookup_gates ∙ gates_vertical j.numbers e h

  pub lookup_gates_vertical_few : let x = j.numbers in x.packing ≡ Vertical → x.d ≤ log x.scheme.N → gates (lookup j) ≡ x.d
  lookup_gates_vertical_few e h = lookup_gates ∙ gates_vertical_few j.numbers e h

  -- ---- its sample

  -- Where its entries are of words, it has the words of the lookup.
  words_looked_up : ((t i : ℕ) → get_or (entry j t).sample i 0 < 2 ^ 32) → words (lookup_sample j) ≡ result_sample j
  words_looked_up word =
      ap words (lookup_bytes j accepted)
      ∙ words_bytes _ (looked_up_below (parameters j.numbers.scheme) (words j.blocks) (rotations j.numbers) (entry j) j.numbers.d word)

  -- The entries of a public table are, whatever else is known of the job.
  pub lookup_words_public : j.numbers.visibility ≡ Public → words (lookup_sample j) ≡ result_sample j
  lookup_words_public e = words_looked_up (told_held [] (words j.table) j ok.job (public_tells j [] e)).word

-- ---- what it holds

module _ (j : Job) (accepted : IsAccepted j) (bits : ℕ → ℕ) (key classes out : List ℕ) (given : Premises j bits key out)
    (told : Tells j.numbers.visibility j key classes) where
  fit : Findable j
  fit = lookup_accepted j accepted

  -- Its entries hold the classes of its table.
  held : Held j.numbers (masks j.numbers.scheme) (words key) classes (entry j)
  held = told_held key classes j fit.job told

  below : (i : ℕ) → i < length classes → get_or classes i 0 < j.numbers.M
  below = told_below key classes j fit.job told

  -- Its selectors name one of them.
  selects : Selects (parameters j.numbers.scheme) j.numbers.d bits (words key) (words j.blocks) (words j.amplitudes)
  selects = record {
    gadget = fit.job.numbers.scheme.gadget;
    light = told_light j.numbers.scheme key given.key_fits;
    bit = given.bit;
    holds = given.holds;
  }

  pub lookup_words : words (lookup_sample j) ≡ result_sample j
  lookup_words = words_looked_up j accepted held.word

  -- Its phase is within the noise bound of what the bits name.
  lookup_near : let x = j.numbers in
      Close (2 ^ 32) x.scheme.N (noise_bound j) (phase x.scheme.N (masks x.scheme) (words key) (words (lookup_sample j))) (named_message x (named j bits) classes)
  lookup_near =
      rw lookup_words
      (table_near j.numbers classes fit.job.numbers below (masks j.numbers.scheme) j.numbers.scheme.W
      bits (words key) (words j.blocks) (words j.amplitudes) selects (entry j) held)

  -- As a distance of words, that is at most the reported bound.
  lookup_within : let x = j.numbers in (i : ℕ) → i < x.scheme.N
      → distance (phase x.scheme.N (masks x.scheme) (words key) (words (lookup_sample j)) i) (named_message x (named j bits) classes i) ≤ bound (lookup j)
  lookup_within i l =
      let x = j.numbers in
      let word : named_message x (named j bits) classes i < 2 ^ 32 = named_word x classes fit.job.numbers below (named j bits) i in
      rw (lookup_accepts j fit) (near_distance (le_of_lt word) (lookup_near i l))

  -- So it holds the classes of that entry.
  lookup_holds : let x = j.numbers in
      decrypted x.scheme.N (masks x.scheme) x.M x.s (words key) (words (lookup_sample j)) ≡ entry_classes x (named j bits) classes
  lookup_holds =
      rw lookup_words
      (table_classes j.numbers classes fit.job.numbers below (masks j.numbers.scheme) j.numbers.scheme.W
      bits (words key) (words j.blocks) (words j.amplitudes) selects (entry j) held
      (told_size key classes j fit.job told) fit.quiet)

-- The accuracy rule.
pub accuracy : (j : Job) → IsAccepted j → (bits : ℕ → ℕ) (key classes out : List ℕ) → Premises j bits key out → Tells j.numbers.visibility j key classes
    → Accurate j bits key classes out (lookup j) (lookup_sample j)
unfolding masks
accuracy j accepted bits key classes out given told =
    let x = j.numbers in
    let ok = (lookup_accepted j accepted).job.numbers in
    let decrypts : number (decrypt_classes x.scheme.N x.M x.s key (lookup_sample j) out) ≡ 0 =
    ap number (decrypt_accepts x.scheme.N x.M x.s key (lookup_sample j) out (record {
      key_fits = given.key_fits.fits;
      class_number = ok.class_number;
      some = ok.some;
      most = classes_le x ok;
      sample_length = lookup_length j accepted;
      classes_length = given.out_length;
    })) in
    record {
      within = lookup_within j accepted bits key classes out given told;
      decrypts = decrypts;
      lists = decrypt_bytes x.scheme.N x.M x.s key (lookup_sample j) out decrypts ∙ ap bytes (lookup_holds j accepted bits key classes out given told);
    }

-- ---- what it says of each kind of table

-- Of a public table: the classes are those that were lent.
pub accuracy_public : (j : Job) → IsAccepted j → j.numbers.visibility ≡ Public → (bits : ℕ → ℕ) (key out : List ℕ) → Premises j bits key out
    → Accurate j bits key (words j.table) out (lookup j) (lookup_sample j)
accuracy_public j accepted e bits key out given = accuracy j accepted bits key (words j.table) out given (public_tells j key e)

-- What decryption leaves are the very bytes that were lent for the entry.
pub accuracy_bytes : (j : Job) → IsAccepted j → j.numbers.visibility ≡ Public → (bits : ℕ → ℕ) (key out : List ℕ) → Premises j bits key out → AreBytes j.table
    → let x = j.numbers in decrypt_classes_classes x.scheme.N x.M x.s key (lookup_sample j) out ≡ chunk (4 * x.s) (named j bits) j.table
accuracy_bytes j accepted e bits key out given are_bytes =
    let x = j.numbers in
    let h : ℕ = named j bits in
    let size : length (words j.table) ≡ table_size x = told_size key (words j.table) j (lookup_accepted j accepted).job (public_tells j key e) in
    let whole : length j.table ≡ 4 * table_words x.visibility x = (lookup_accepted j accepted).job.lengths.table_length in
    let inside : h * (4 * x.s) + 4 * x.s ≤ length j.table =
    omega (arith, chunk_inside h (2 ^ x.d) (4 * x.s) (entry_number_lt bits x.d given.bit), size, length_words j.table, whole) in
    (accuracy_public j accepted e bits key out given).lists ∙ entry_bytes x h j.table are_bytes inside

-- Of a hidden one: each entry's phase is within its amplitude of its encoding.
pub accuracy_hidden : (j : Job) → IsAccepted j → j.numbers.visibility ≡ Hidden → (bits : ℕ → ℕ) (key classes out : List ℕ) → Premises j bits key out
    → Hides j key classes → Accurate j bits key classes out (lookup j) (lookup_sample j)
accuracy_hidden j accepted e bits key classes out given hides =
    accuracy j accepted bits key classes out given (subst (λ v. Tells v j key classes) (sym e) hides)

-- ---- what it says in each packing

-- In the horizontal packing the bits name an entry's encoding, all N coefficients.
pub accurate_horizontal : (j : Job) (bits : ℕ → ℕ) (key classes out : List ℕ) (answer : Answer) (sample : List ℕ) → j.numbers.packing ≡ Horizontal
    → Accurate j bits key classes out answer sample → AccurateHorizontal j bits key classes out answer sample
accurate_horizontal j bits key classes out answer sample packed holds = record {
  within = λ i l.
      let x = j.numbers in
      subst (λ m. distance (phase x.scheme.N (masks x.scheme) (words key) (words sample) i) m ≤ bound answer)
      (named_whole x classes (named j bits) (rotations_horizontal x packed) i l) (holds.within i l);
  decrypts = holds.decrypts;
  lists = holds.lists;
}

pub accuracy_horizontal : (j : Job) → IsAccepted j → (bits : ℕ → ℕ) (key classes out : List ℕ) → Premises j bits key out
    → Tells j.numbers.visibility j key classes → j.numbers.packing ≡ Horizontal
    → AccurateHorizontal j bits key classes out (lookup j) (lookup_sample j)
accuracy_horizontal j accepted bits key classes out given told packed =
    accurate_horizontal j bits key classes out (lookup j) (lookup_sample j) packed (accuracy j accepted bits key classes out given told)

-- In the vertical one coefficient 0 is the class of the entry that the bits name, of an accepted job.
pub accurate_vertical : (j : Job) (bits : ℕ → ℕ) (key classes out : List ℕ) (answer : Answer) (sample : List ℕ) → IsAccepted j → Premises j bits key out
    → Tells j.numbers.visibility j key classes → j.numbers.packing ≡ Vertical → Accurate j bits key classes out answer sample
    → AccurateVertical j bits key classes out answer sample
accurate_vertical j bits key classes out answer sample accepted given told packed holds =
    let x = j.numbers in
    let ok = (lookup_accepted j accepted).job in
    let h : ℕ = named j bits in
    let one : x.s ≡ 1 = classes_vertical x ok.numbers packed in
    let inside : h < length classes =
    omega (arith, entry_number_lt bits x.d given.bit, told_size key classes j ok told, ap (λ s. s * 2 ^ x.d) one) in
    let class : entry_classes x h classes ≡ get_or classes h 0 ∷ [] =
    ap (λ s. chunk s h classes) one ∙ chunk_one h classes inside in
    let first : named_message x h classes 0 ≡ encode x.M (get_or classes h 0) =
    named_used x classes ok.numbers (told_below key classes j ok told) h 0 (omega arith)
    ∙ message_used x.M x.s (entry_classes x h classes) 0 (omega arith)
    ∙ ap (λ cs. encode x.M (get_or cs 0 0)) class in
    record {
      within = subst (λ m. distance (phase x.scheme.N (masks x.scheme) (words key) (words sample) 0) m ≤ bound answer) first
          (holds.within 0 (degree_pos x.scheme.N ok.numbers.scheme.degree));
      decrypts = subst (λ s. number (decrypt_classes x.scheme.N x.M s key sample out) ≡ 0) one holds.decrypts;
      lists = ap (λ s. decrypt_classes_classes x.scheme.N x.M s key sample out) (sym one) ∙ holds.lists ∙ ap bytes class;
    }

pub accuracy_vertical : (j : Job) → IsAccepted j → (bits : ℕ → ℕ) (key classes out : List ℕ) → Premises j bits key out
    → Tells j.numbers.visibility j key classes → j.numbers.packing ≡ Vertical
    → AccurateVertical j bits key classes out (lookup j) (lookup_sample j)
accuracy_vertical j accepted bits key classes out given told packed =
    accurate_vertical j bits key classes out (lookup j) (lookup_sample j) accepted given told packed (accuracy j accepted bits key classes out given told)

-- ---- no selector

-- "With d = 0 the result is the entry itself", gates 0, and the bound is its amplitude, "at d = 0 too".
pub lookup_none : (j : Job) → IsAccepted j → j.numbers.d ≡ 0
    → (lookup_sample j ≡ bytes (entry j 0).sample) × (bound (lookup j) ≡ (entry j 0).amplitude) × (gates (lookup j) ≡ 0)
unfolding sum
lookup_none j accepted z =
    let x = j.numbers in
    let none : rotations x ≡ 0 = omega (arith, rotations_le x) in
    let one : table_samples x ≡ 1 = ap₂ (λ (d r : ℕ). 2 ^ (d - r)) z none in (
      lookup_bytes j accepted ∙ ap bytes (looked_up_none (parameters x.scheme) (words j.blocks) (rotations x) (entry j) x.d none z),
      lookup_bound j accepted
          ∙ ap₂ (λ n d. largest n (λ t. (entry j t).amplitude) + sum d (λ i. charge (parameters x.scheme) (get_or (words j.amplitudes) i 0))) one z
          ∙ omega (arith, largest_more 0 (λ t. (entry j t).amplitude), largest_first (λ t. (entry j t).amplitude)),
      lookup_gates j accepted ∙ ap₂ (λ (d r : ℕ). 2 ^ (d - r) - 1 + r) z none,
    )
