-- The classes of a job's table, and that its entries hold them: those that a public table lists, and those that a hidden one hides.
-- Assumes nothing.
use Rattle.std.proofs.Common.{◌≡◌, ℕ, ◌+◌, ◌*◌, ◌^◌, ◌<◌, List, length, get_or, refl, ap, sym, ◌∙◌, subst, arith}
use native.Mathlib.Nat.{le_of_lt, zero-add}
use lib.Dec.{lit<}
use Rattle.torus.specs.Sum.{chunk}
use Rattle.torus.specs.Bytes.{words}
use Rattle.torus.proofs.Joined.{chunk_below}
use Rattle.torus.proofs.Magnitudes.{distance_near}
use Rattle.torus.proofs.Near.{near_weaken}
use Rattle.torus.proofs.Parts.{length_words, words_word}
use Rattle.trgsw.specs.Parameters.{sample_size, masks, parameters}
use Rattle.tables.specs.declared.Visibility.{Visibility}
use Rattle.tables.specs.declared.Visibility.TheVariants.{Public, Hidden}
use Rattle.tables.specs.Numbers.{table_size, table_samples, table_words}
use Rattle.trees.specs.LookedUp.{largest, charges}
use Rattle.tables.specs.Table.{entry_words, entry_sample, amplitude_of}
use Rattle.lookup.specs.Job.{Job}
use Rattle.lookup.specs.Calls.{entry, noise_bound}
use Rattle.accuracy.specs.Rule.{Tells}
use Rattle.lookup.proofs.Accepted.{Wellformed}
use Rattle.accuracy.proofs.Tables.{Held, message_words, public_holds}
use Rattle.trees.proofs.Largest.{largest_none}

-- ---- what is told of the classes

module _ (key classes : List ℕ) where
  size_told : (v : Visibility) (j : Job) → j.numbers.visibility ≡ v → Wellformed j → Tells v j key classes → length classes ≡ table_size j.numbers
  size_told Public j e ok told =
      let x = j.numbers in
      let size : length j.table ≡ 4 * table_size x = subst (λ v. length j.table ≡ 4 * table_words v x) e ok.lengths.table_length in
      omega (arith, ap length told, length_words j.table)
  size_told Hidden j e ok told = told.size

  below_told : (v : Visibility) (j : Job) → j.numbers.visibility ≡ v → Wellformed j → Tells v j key classes
      → (i : ℕ) → i < length classes → get_or classes i 0 < j.numbers.M
  below_told Public j e ok told = subst (λ cs. (i : ℕ) → i < length cs → get_or cs i 0 < j.numbers.M) (sym told) (ok.contents.below e)
  below_told Hidden j e ok told = told.below

  held_told : (v : Visibility) (j : Job) → j.numbers.visibility ≡ v → Wellformed j → Tells v j key classes
      → Held j.numbers (masks j.numbers.scheme) (words key) classes (entry j)
  held_told Public j e ok told =
      let x = j.numbers in
      let lists : Held x (masks x.scheme) (words key) (words j.table) (λ t. record { sample = entry_sample Public x (chunk (entry_words Public x) t (words j.table)); amplitude = 0 }) =
      public_holds x (words j.table) ok.numbers (ok.contents.below e) (masks x.scheme) (words key) in
      subst (λ cs. Held x (masks x.scheme) (words key) cs (entry j)) (sym told)
      (subst (λ v. Held x (masks x.scheme) (words key) (words j.table)
      (λ t. record { sample = entry_sample v x (chunk (entry_words v x) t (words j.table)); amplitude = amplitude_of v (words j.entry_amplitudes) t })) (sym e) lists)
  held_told Hidden j e ok told =
      let x = j.numbers in
      record {
        word = λ t. subst (λ v. (u : ℕ) → get_or (entry_sample v x (chunk (entry_words v x) t (words j.table))) u 0 < 2 ^ 32) (sym e)
            (chunk_below (2 ^ 32) (sample_size (parameters x.scheme)) t (words j.table) (lit< tt) (words_word j.table told.are_bytes));
        near = λ t l i m. near_weaken (told.within t i l m) (distance_near (le_of_lt (message_words x classes ok.numbers told.below t i)));
      }

  module _ (j : Job) (ok : Wellformed j) (told : Tells j.numbers.visibility j key classes) where
    pub told_size : length classes ≡ table_size j.numbers
    told_size = size_told j.numbers.visibility j refl ok told

    -- They are below M,
    pub told_below : (i : ℕ) → i < length classes → get_or classes i 0 < j.numbers.M
    told_below = below_told j.numbers.visibility j refl ok told

    -- and the entries hold them.
    pub told_held : Held j.numbers (masks j.numbers.scheme) (words key) classes (entry j)
    told_held = held_told j.numbers.visibility j refl ok told

-- A public table tells the classes that it lists.
pub public_tells : (j : Job) (key : List ℕ) → j.numbers.visibility ≡ Public → Tells j.numbers.visibility j key (words j.table)
public_tells j key e = subst (λ v. Tells v j key (words j.table)) (sym e) refl

-- Of a public table the bound is "the sum of the d charges".
pub noise_bound_public : (j : Job) → j.numbers.visibility ≡ Public → noise_bound j ≡ charges (parameters j.numbers.scheme) (words j.amplitudes) j.numbers.d
noise_bound_public j e =
    let x = j.numbers in
    ap (λ n. n + charges (parameters x.scheme) (words j.amplitudes) x.d)
    (ap (λ v. largest (table_samples x) (λ t. amplitude_of v (words j.entry_amplitudes) t)) e ∙ largest_none (table_samples x))
    ∙ zero-add _
