-- A file made of a whole job reads back as that job, and passes the checks if its numbers are lawful and it is not too large; and a file
-- that passes the checks is made of the job that is read from it.
-- Assumes nothing.
use mathlib.Core.Path.{◌≡◌, refl, ap, ap₂, sym, subst, ◌∙◌}
use mathlib.Core.Bool.{true}
use mathlib.Core.List.{List, [], ◌∷◌, ◌++◌}
use Prim.Native.Nat.{ℕ, ◌+◌, ◌*◌, ◌^◌, ◌≤◌, ◌<◌}
use native.Mathlib.Nat.{le_of_eq}
use native.Mathlib.Omega.{arith}
use lib.Dec.{lit<}
use lib.ListN.{length, get_or, drop, length-append, length-drop, take-append-drop}
use lib.Seq.{take_all, drop_at}
use borrow.Author.Tests.{eqb-true}
use Rattle.torus.specs.Sum.{tabulate, joined, chunk}
use Rattle.torus.specs.Bytes.{AreBytes, words, bytes}
use Rattle.torus.proofs.Lists.{length_tabulate, tabulate_at, tabulate_cong, tabulate_self, tabulate_front, tabulate_below, drop_below}
use Rattle.torus.proofs.Parts.{length_words, length_bytes, words_bytes, words_word, bytes_words, bytes_are}
use Rattle.torus.proofs.Joined.{Each, chunk_inside, length_chunk, chunk_joined, length_joined, joined_cong, chunk_below, chunk_append, joined_below, joined_chunks}
use Rattle.answers.specs.Checks.{passed}
use Rattle.trgsw.specs.Parameters.{parameters, block_size}
use Rattle.tables.specs.Numbers.{LawfulNumbers, table_size}
use Rattle.trees.specs.LookedUp.{selector}
use Rattle.lookup.specs.Job.{Job}
use Rattle.jobfile.specs.Layout.{largest_file, is_first_count, first_count, header_number, depth_at, header_words}
use Rattle.jobfile.specs.File.{section_one, section_three, file_words, job_file, Whole, WellFormed}
use Rattle.jobfile.specs.Reader.{behind, selector_part, table_part, read_blocks, read_amplitudes, read_classes, read_job, file_size, file_refusal}
use Rattle.jobfile.proofs.Sections.{blocks_each}
use Rattle.jobfile.proofs.Passed.{depth_six, Fits, Passes, refusal_held, refusal_met}

-- The words of a block of the job, and the part of selector i in its file.
abbrev size : Job → ℕ
size j = block_size (parameters j.numbers.scheme)

abbrev made : (j : Job) (i : ℕ) → List ℕ
made j i = get_or (words j.amplitudes) i 0 ∷ selector (parameters j.numbers.scheme) i (words j.blocks)

-- ---- a file that is made of a job

module _ (j : Job) (ok : Whole j) where
  -- Its words are those of the sections.
  made_words : words (job_file j) ≡ file_words j
  unfolding job_file
  made_words = words_bytes (file_words j) ok.of_words

  blocks_words : length (words j.blocks) ≡ j.numbers.d * size j
  blocks_words = omega (arith, length_words j.blocks, ok.blocks_length)

  made_each : Each j.numbers.d (1 + size j) (made j)
  made_each i l =
      let block : length (selector (parameters j.numbers.scheme) i (words j.blocks)) ≡ size j =
      length_chunk (size j) i (words j.blocks) (omega (arith, chunk_inside i j.numbers.d (size j) l, blocks_words)) in
      omega arith

  -- What stands behind the header.
  abbrev rest : List ℕ
  rest = joined j.numbers.d (made j) ++ section_three j

  made_length : length (joined j.numbers.d (made j)) ≡ j.numbers.d * (1 + size j)
  made_length = length_joined j.numbers.d (1 + size j) (made j) made_each

  made_part : (i : ℕ) → i < j.numbers.d → selector_part (size j) i rest ≡ made j i
  made_part i l =
      chunk_append (1 + size j) i (joined j.numbers.d (made j)) (section_three j)
      (omega (arith, chunk_inside i j.numbers.d (1 + size j) l, made_length))
      ∙ chunk_joined j.numbers.d (1 + size j) (made j) made_each i l

  made_table : table_part (size j) j.numbers.d rest ≡ section_three j
  made_table = drop_at (joined j.numbers.d (made j)) (section_three j) (j.numbers.d * (1 + size j)) made_length

  made_blocks : read_blocks (size j) j.numbers.d rest ≡ words j.blocks
  made_blocks =
      joined_cong j.numbers.d _ (λ i. chunk (size j) i (words j.blocks)) (λ i l. ap (drop 1) (made_part i l))
      ∙ joined_chunks j.numbers.d (size j) (words j.blocks)
      ∙ take_all (j.numbers.d * size j) (words j.blocks) (le_of_eq blocks_words)

  made_amplitudes : read_amplitudes (size j) j.numbers.d rest ≡ words j.amplitudes
  made_amplitudes =
      tabulate_cong j.numbers.d _ (λ i. get_or (words j.amplitudes) i 0) (λ i l. ap (λ p. get_or p 0 0) (made_part i l))
      ∙ tabulate_self j.numbers.d (words j.amplitudes) (omega (arith, length_words j.amplitudes, ok.amplitudes_length))

  made_classes : read_classes (size j) j.numbers.d rest ≡ words j.table
  made_classes = ap (drop 1) made_table

  -- "reads back as exactly those parts"
  pub read_made : read_job (job_file j) ≡ j
  unfolding read_job
  read_made = rw (
    made_words,
    ← ok.numbers,
    ← ap (λ x. x.scheme) ok.numbers,
    made_blocks,
    made_amplitudes,
    made_classes,
    bytes_words _ j.blocks ok.blocks_length ok.blocks_bytes,
    bytes_words _ j.amplitudes ok.amplitudes_length ok.amplitudes_bytes,
    bytes_words _ j.table ok.classes_length ok.classes_bytes,
    ← ok.lent,
  )

  -- Its first count is that of section one.
  made_count : first_count (words (job_file j)) ≡ first_count (file_words j)
  made_count = ap first_count made_words

  -- How many words and bytes it has.
  words_length : length (file_words j) ≡ file_size (first_count (file_words j)) j.numbers
  words_length = omega (arith, length-append (joined j.numbers.d (made j)) (section_three j), made_length, length_words j.table, ok.classes_length)

  made_size : length (job_file j) ≡ 4 * file_size (first_count (file_words j)) j.numbers
  unfolding job_file
  made_size = length_bytes (file_words j) ∙ ap (λ n. 4 * n) words_length

  made_fits : Fits j.numbers (job_file j)
  made_fits = record {
    size = rw made_count made_size;
    count = ap (λ ws. get_or (table_part (size j) j.numbers.d (drop (header_words (first_count ws)) ws)) 0 0) made_words ∙ ap (λ t. get_or t 0 0) made_table;
  }

  -- Nothing refuses it.
  pub made_passes : LawfulNumbers j.numbers → length (job_file j) ≤ largest_file → file_refusal (job_file j) ≡ passed
  made_passes lawful most = refusal_met (job_file j) (record {
    begins = record {
      least = omega (arith, made_size, depth_six (first_count (words (job_file j))));
      most = most;
      whole = omega (arith, made_size);
      counted = ap is_first_count made_count;
    };
    lawful = rw read_made lawful;
    fits = rw read_made made_fits;
  })

-- ---- a file that passes the checks

-- A header with a lawful count is taken apart and put together.
header_again : (ws : List ℕ) → is_first_count (first_count ws) ≡ true → header_words (first_count ws) ≤ length ws
    → (let ns = header_number 0 ws ∷ header_number 1 ws ∷ header_number 2 ws ∷ header_number 3 ws ∷ header_number 4 ws ∷ [] in
    (length ns ∷ ns) ++ (get_or ws (depth_at (first_count ws)) 0 ∷ drop (header_words (first_count ws)) ws)) ≡ ws
unfolding tabulate
header_again ws counted there =
    let five : get_or ws 0 0 ≡ 5 = eqb-true _ 5 counted in
    rw five (ap (λ c. c ∷ (get_or ws 1 0 ∷ get_or ws 2 0 ∷ get_or ws 3 0 ∷ get_or ws 4 0 ∷ get_or ws 5 0 ∷ get_or ws 6 0 ∷ drop 7 ws)) (sym five)
    ∙ tabulate_front 7 ws (omega (arith, there, depth_six (first_count ws))))

-- What stands behind the header, taken apart and put together: d selectors with blocks of b words, a count and n classes.
module _ (b d n : ℕ) (ws : List ℕ) (whole : length ws ≡ d * (1 + b) + (1 + n)) where
  part_length : (i : ℕ) → i < d → length (selector_part b i ws) ≡ 1 + b
  part_length i l = length_chunk (1 + b) i ws (omega (arith, chunk_inside i d (1 + b) l))

  each : Each d b (λ i. drop 1 (selector_part b i ws))
  each = blocks_each b d ws (omega arith)

  blocks_length : length (read_blocks b d ws) ≡ d * b
  blocks_length = length_joined d b _ each

  table_length : length (table_part b d ws) ≡ 1 + n
  table_length = length-drop (d * (1 + b)) ws ∙ omega arith

  classes_length : length (read_classes b d ws) ≡ n
  classes_length = length-drop 1 (table_part b d ws) ∙ omega (arith, table_length)

  selector_again : (i : ℕ) → i < d → get_or (read_amplitudes b d ws) i 0 ∷ chunk b i (read_blocks b d ws) ≡ selector_part b i ws
  unfolding tabulate
  selector_again i l =
      ap₂ ◌∷◌ (tabulate_at d _ i l) (chunk_joined d b _ each i l) ∙ tabulate_front 1 (selector_part b i ws) (omega (arith, part_length i l))

-- What is read of words is words.
module _ (b d : ℕ) (ws : List ℕ) (below : (i : ℕ) → get_or ws i 0 < 2 ^ 32) where
  some : 0 < 2 ^ 32
  some = lit< tt

  part_below : (i k : ℕ) → get_or (selector_part b i ws) k 0 < 2 ^ 32
  part_below i = chunk_below (2 ^ 32) (1 + b) i ws some below

  blocks_below : (i : ℕ) → get_or (read_blocks b d ws) i 0 < 2 ^ 32
  blocks_below = joined_below (2 ^ 32) d (λ i. drop 1 (selector_part b i ws)) some (λ i. drop_below (2 ^ 32) 1 (selector_part b i ws) (part_below i))

  amplitudes_below : (i : ℕ) → get_or (read_amplitudes b d ws) i 0 < 2 ^ 32
  amplitudes_below = tabulate_below (2 ^ 32) d (λ i. get_or (selector_part b i ws) 0 0) some (λ i. part_below i 0)

  classes_below : (i : ℕ) → get_or (read_classes b d ws) i 0 < 2 ^ 32
  classes_below = drop_below (2 ^ 32) 1 (table_part b d ws) (drop_below (2 ^ 32) (d * (1 + b)) ws below)

module _ (file : List ℕ) (e : file_refusal file ≡ passed) where
  ok : Passes file
  ok = refusal_held file e

  behind_length : let x = (read_job file).numbers in length (behind file) ≡ x.d * (1 + size (read_job file)) + (1 + table_size x)
  behind_length = length-drop (header_words (first_count (words file))) (words file) ∙ omega (arith, length_words file, ok.fits.size)

  module _ (byte : AreBytes file) where
    behind_below : (i : ℕ) → get_or (behind file) i 0 < 2 ^ 32
    behind_below = drop_below (2 ^ 32) (header_words (first_count (words file))) (words file) (words_word file byte)

    -- The words of the job's slices are those that are read.
    blocks_again : words (read_job file).blocks ≡ read_blocks (size (read_job file)) (read_job file).numbers.d (behind file)
    unfolding read_job
    blocks_again = words_bytes _ (blocks_below (size (read_job file)) (read_job file).numbers.d (behind file) behind_below)

    amplitudes_again : words (read_job file).amplitudes ≡ read_amplitudes (size (read_job file)) (read_job file).numbers.d (behind file)
    unfolding read_job
    amplitudes_again = words_bytes _ (amplitudes_below (size (read_job file)) (read_job file).numbers.d (behind file) behind_below)

    classes_again : words (read_job file).table ≡ read_classes (size (read_job file)) (read_job file).numbers.d (behind file)
    unfolding read_job
    classes_again = words_bytes _ (classes_below (size (read_job file)) (read_job file).numbers.d (behind file) behind_below)

    -- The amplitude and the block of selector i are those of its part of section two.
    pub selector_read : (i : ℕ) → i < (read_job file).numbers.d → made (read_job file) i ≡ selector_part (size (read_job file)) i (behind file)
    selector_read i l =
        ap₂ (λ a b. get_or a i 0 ∷ chunk (size (read_job file)) i b) amplitudes_again blocks_again ∙ selector_again _ _ _ (behind file) behind_length i l

    -- The file's words are those of the job that is read from it.
    words_again : file_words (read_job file) ≡ words file
    unfolding read_job tabulate
    words_again =
        let j = read_job file in
        let x = j.numbers in
        let part : ℕ → List ℕ = λ i. selector_part (size j) i (behind file) in
        ap₂ (λ two three. section_one x ++ (x.d ∷ (two ++ three)))
        (joined_cong x.d (made j) part selector_read ∙ joined_chunks x.d (1 + size j) (behind file))
        (ap₂ ◌∷◌ (sym ok.fits.count) classes_again ∙ tabulate_front 1 (table_part (size j) x.d (behind file)) (omega (arith, table_length _ _ _ (behind file) behind_length)))
        ∙ ap (λ r. section_one x ++ (x.d ∷ r)) (take-append-drop (x.d * (1 + size j)) (behind file))
        ∙ header_again (words file) ok.begins.counted (omega (arith, length_words file, ok.begins.least))

    read_whole : Whole (read_job file)
    unfolding read_job
    read_whole = record {
      numbers = refl;
      of_words = λ i. subst (λ ws. get_or ws i 0 < 2 ^ 32) (sym words_again) (words_word file byte i);
      blocks_length = length_bytes _ ∙ ap (λ n. 4 * n) (blocks_length _ _ _ (behind file) behind_length);
      amplitudes_length = length_bytes _ ∙ ap (λ n. 4 * n) (length_tabulate _ _);
      classes_length = length_bytes _ ∙ ap (λ n. 4 * n) (classes_length _ _ _ (behind file) behind_length);
      blocks_bytes = bytes_are _;
      amplitudes_bytes = bytes_are _;
      classes_bytes = bytes_are _;
      lent = refl;
    }

    -- What passes the checks is well-formed: it is made of the job that is read from it.
    pub passes_well_formed : WellFormed file
    unfolding job_file
    passes_well_formed =
        let j = read_job file in
        record {
          job = j;
          whole = read_whole;
          lawful = ok.lawful;
          made = sym (bytes_words (file_size (first_count (words file)) j.numbers) file ok.fits.size byte) ∙ ap bytes (sym words_again);
          fits = ok.begins.most;
        }

-- A well-formed file passes the checks, and reads back as the job that it is made of.
pub well_formed_passes : (file : List ℕ) (w : WellFormed file) → (file_refusal file ≡ passed) × (read_job file ≡ w.job)
well_formed_passes file w = (
  rw w.made (made_passes w.job w.whole w.lawful (rw w.made at w.fits)),
  ap read_job w.made ∙ read_made w.job w.whole,
)
