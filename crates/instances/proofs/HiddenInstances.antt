-- Instances of hidden tables that meet every premise of the accuracy rule, from encryption to decryption, with errors that are not 0: one
-- in each packing, whose tables are made up of the same two samples, and one with no selector. In each packing the amplitudes differ, and
-- the larger is not that of the sample that the bits name. What they say of the calls is computed.
-- Assumes nothing.
use mathlib.Core.Path.{◌≡◌, refl, sym, subst}
use mathlib.Core.List.{List, [], ◌∷◌, ◌++◌}
use Prim.Native.Nat.{ℕ, zero, suc, ◌*◌, ◌^◌, ◌≤◌}
use native.Mathlib.Nat.{le_refl, le_of_eq}
use native.Mathlib.Omega.{arith}
use lib.Count.{ones, count_trailing_zeros}
use lib.Dec.{lit<, lit≤}
use lib.ListN.{get_or}
use Rattle.torus.specs.Sum.{sum, tabulate, joined, chunk}
use Rattle.torus.specs.Word.{magnitude, distance}
use Rattle.torus.specs.Bytes.{AreBytes, words, bytes}
use Rattle.torus.proofs.Parts.{bytes_are}
use Rattle.gadget.specs.Digits.{precision, rounded, digit}
use Rattle.ring.specs.Polynomial.{product, rotated}
use Rattle.answers.specs.Answers.{number, bound, gates, greatest_magnitude, after}
use Rattle.answers.specs.Checks.{all_below}
use Rattle.trlwe.specs.Classes.{encode, message}
use Rattle.trlwe.specs.Sample.{polynomials, masked, phase, body, encryption, rotated_sample}
use Rattle.trlwe.specs.Calls.{encrypt_classes, encrypt_classes_sample, decrypt_classes, decrypt_classes_classes}
use Rattle.selectors.specs.Encrypted.{encrypted_row, encrypted_block}
use Rattle.trgsw.specs.Parameters as Parameters
use Rattle.trgsw.specs.External.{external, difference, cmux_sample}
use Rattle.trgsw.specs.External as External
use Rattle.selectors.specs.Calls.{encrypt_selector, encrypt_selector_block}
use Rattle.instances.proofs.BlockInstance.{input, at_0}
use Rattle.trees.specs.Tree.{tree, entry_number}
use Rattle.tables.specs.declared.Packing.{Packing}
use Rattle.tables.specs.declared.Packing.TheVariants.{Horizontal, Vertical}
use Rattle.tables.specs.declared.Visibility.TheVariants.{Hidden}
use Rattle.tables.specs.declared.Numbers.{Numbers}
use Rattle.trgsw.specs.Parameters.{masks}
use Rattle.tables.specs.Numbers.{rotations, sample_classes}
use Rattle.trees.specs.LookedUp.{tree_sample, rotation_step, blind_rotation, looked_up, largest, charges}
use Rattle.lookup.specs.Job.{Job}
use Rattle.lookup.specs.Calls.{lookup, lookup_sample, IsAccepted}
use Rattle.accuracy.specs.Rule.{Made, Encrypted, MadeSample, EncryptedTable}
use Rattle.lookup.proofs.Accepted.{lookup_accepted}
use Rattle.accuracy.proofs.Accuracy.{accuracy_vertical}
use Rattle.accuracy.proofs.EndToEnd.{encrypted_premises}
use Rattle.accuracy.proofs.HiddenTables.{encrypted_tells, encrypted_hidden_lookup}
use Rattle.instances.proofs.Instance.{class_room}
use Rattle.instances.proofs.PackedInstance.{at_01, key_p, keyed_p, block_room_p, masks_q, errors_q, block_q, accepted_q, bound_q, sample_room_p, class_room_p}
use Rattle.instances.proofs.PackingInstances.{zeros, masks_above, errors_above, job_above, encrypted_above}

-- ---- two samples

-- The errors 1000 and -700, and -300 and 250.
abbrev pub mask_a : List ℕ
mask_a = bytes (2654435769 ∷ 1013904223 ∷ [])

abbrev pub errors_a : List ℕ
errors_a = bytes (1000 ∷ 4294966596 ∷ [])

abbrev pub mask_b : List ℕ
mask_b = bytes (1597334677 ∷ 3812015801 ∷ [])

abbrev pub errors_b : List ℕ
errors_b = bytes (4294966996 ∷ 250 ∷ [])

abbrev pub sample_a : List ℕ
sample_a = encrypt_classes_sample 2 16 2 key_p mask_a errors_a (bytes (5 ∷ 9 ∷ [])) sample_room_p

abbrev pub sample_b : List ℕ
sample_b = encrypt_classes_sample 2 16 2 key_p mask_b errors_b (bytes (2 ∷ 14 ∷ [])) sample_room_p

accepted_a : number (encrypt_classes 2 16 2 key_p mask_a errors_a (bytes (5 ∷ 9 ∷ [])) sample_room_p) ≡ 0
unfolding encrypt_classes words bytes ones all_below greatest_magnitude magnitude
accepted_a = refl

bound_a : bound (encrypt_classes 2 16 2 key_p mask_a errors_a (bytes (5 ∷ 9 ∷ [])) sample_room_p) ≡ 1000
unfolding encrypt_classes words bytes ones all_below greatest_magnitude magnitude
bound_a = refl

accepted_b : number (encrypt_classes 2 16 2 key_p mask_b errors_b (bytes (2 ∷ 14 ∷ [])) sample_room_p) ≡ 0
unfolding encrypt_classes words bytes ones all_below greatest_magnitude magnitude
accepted_b = refl

bound_b : bound (encrypt_classes 2 16 2 key_p mask_b errors_b (bytes (2 ∷ 14 ∷ [])) sample_room_p) ≡ 300
unfolding encrypt_classes words bytes ones all_below greatest_magnitude magnitude
bound_b = refl

-- The table that they make up, and its classes.
abbrev pub table_ab : List ℕ
table_ab = sample_a ++ sample_b

abbrev pub classes_ab : List ℕ
classes_ab = bytes (5 ∷ 9 ∷ 2 ∷ 14 ∷ [])

sample_a_words : sample_a ≡ bytes (2654435769 ∷ 1013904223 ∷ 2982709826 ∷ 1789291100 ∷ [])
unfolding encrypt_classes_sample encrypt_classes after words bytes ones all_below greatest_magnitude magnitude
    encryption body tabulate masked sum product message encode
sample_a_words = refl

table_ab_words : table_ab ≡ bytes (2654435769 ∷ 1013904223 ∷ 2982709826 ∷ 1789291100 ∷ 1597334677 ∷ 3812015801 ∷ 2617156784 ∷ 577512520 ∷ [])
unfolding masks encrypt_classes_sample encrypt_classes after words bytes ones all_below greatest_magnitude magnitude
    encryption body tabulate masked sum product message encode
table_ab_words = refl

bytes_ab : AreBytes table_ab
bytes_ab = subst AreBytes (sym table_ab_words) (bytes_are _)

-- Each sample in it is the one that was made.
first_ab : chunk 16 0 table_ab ≡ sample_a
unfolding encrypt_classes_sample encrypt_classes after words bytes ones all_below greatest_magnitude magnitude
    encryption body tabulate masked sum product message encode
first_ab = refl

second_ab : chunk 16 1 table_ab ≡ sample_b
unfolding encrypt_classes_sample encrypt_classes after words bytes ones all_below greatest_magnitude magnitude
    encryption body tabulate masked sum product message encode
second_ab = refl

-- The masks and the errors, by the number of the sample.
abbrev pub mask_ab : ℕ → List ℕ
mask_ab zero = mask_a
mask_ab (suc t) = mask_b

abbrev pub errors_ab : ℕ → List ℕ
errors_ab zero = errors_a
errors_ab (suc t) = errors_b

-- The numbers of a hidden table with two classes in a sample, s·2^r: s = 1 and r = 1 in the vertical packing, and s = 2 in the horizontal
-- one.
abbrev pub numbers_ab : (q : Packing) (s d : ℕ) → Numbers
numbers_ab q s d = record { packing = q; visibility = Hidden; scheme = Parameters.scheme_of 2 8 2; M = 16; s = s; d = d }

module _ (q : Packing) (s d : ℕ) (two : sample_classes (numbers_ab q s d) ≡ 2) (sample : List ℕ) (amplitude : ℕ) where
  made_a : sample ≡ sample_a → 1000 ≤ amplitude → MadeSample (numbers_ab q s d) key_p mask_a errors_a (bytes (5 ∷ 9 ∷ [])) sample_room_p sample amplitude
  made_a lent declared = record {
    accepted = rw two accepted_a;
    mask_bytes = bytes_are (2654435769 ∷ 1013904223 ∷ []);
    errors_bytes = bytes_are (1000 ∷ 4294966596 ∷ []);
    left = rw two lent;
    declared = rw (two, bound_a) declared;
  }

  made_b : sample ≡ sample_b → 300 ≤ amplitude → MadeSample (numbers_ab q s d) key_p mask_b errors_b (bytes (2 ∷ 14 ∷ [])) sample_room_p sample amplitude
  made_b lent declared = record {
    accepted = rw two accepted_b;
    mask_bytes = bytes_are (1597334677 ∷ 3812015801 ∷ []);
    errors_bytes = bytes_are (4294966996 ∷ 250 ∷ []);
    left = rw two lent;
    declared = rw (two, bound_b) declared;
  }

-- ---- the vertical packing: N = 2, two selectors and two samples

-- The selectors are those of `job_above`. They hold 1: they name entry 3, in coefficient 1 of sample 1. The amplitude of sample 0 is the
-- larger, and that of sample 1 is above the bound that the encryption reported.
abbrev pub job_vertical : Job
job_vertical = record {
  numbers = numbers_ab Vertical 1 2;
  blocks = job_above.blocks;
  amplitudes = job_above.amplitudes;
  table = table_ab;
  entry_amplitudes = bytes (1000 ∷ 320 ∷ []);
  sample = sample_room_p;
  work = zeros 12;
}

-- The lookup is accepted, with the sum of two charges, which is 203776, and the amplitude of sample 0.
accepted_vertical : IsAccepted job_vertical
unfolding encrypt_selector_block encrypt_selector encrypt_classes_sample encrypt_classes masks rotations lookup after charges largest External.charge precision
    words bytes ones count_trailing_zeros all_below greatest_magnitude magnitude encrypted_block encrypted_row encryption body joined tabulate masked sum product message encode
accepted_vertical = refl

pub bound_vertical : bound (lookup job_vertical) ≡ 204776
unfolding encrypt_selector_block encrypt_selector encrypt_classes_sample encrypt_classes masks rotations lookup after charges largest External.charge precision
    words bytes ones count_trailing_zeros all_below greatest_magnitude magnitude encrypted_block encrypted_row encryption body joined tabulate masked sum product message encode
bound_vertical = refl

pub gates_vertical : gates (lookup job_vertical) ≡ 2
unfolding encrypt_selector_block encrypt_selector encrypt_classes_sample encrypt_classes masks rotations lookup after charges largest External.charge precision
    words bytes ones count_trailing_zeros all_below greatest_magnitude magnitude encrypted_block encrypted_row encryption body joined tabulate masked sum product message encode
gates_vertical = refl

-- Its blocks are those of a job that has them from encryption,
pub encrypted_vertical : Encrypted job_vertical (λ i. 1) masks_above errors_above (λ i. block_room_p) key_p class_room
unfolding masks
encrypted_vertical = record {
  key_fits = keyed_p;
  made = λ i l.
      let made = encrypted_above.made i l in
      record { accepted = made.accepted; are_bytes = made.are_bytes; left = made.left; declared = made.declared };
  out_length = encrypted_above.out_length;
}

-- and its table comes from encryption.
pub table_vertical : EncryptedTable job_vertical mask_ab errors_ab (λ t. sample_room_p) key_p classes_ab
unfolding masks rotations count_trailing_zeros words bytes
table_vertical = record {
  hidden = refl;
  are_bytes = bytes_ab;
  size = refl;
  made = at_01
      (λ t. MadeSample (numbers_ab Vertical 1 2) key_p (mask_ab t) (errors_ab t) (chunk 8 t classes_ab) sample_room_p (chunk 16 t table_ab)
      (get_or (words job_vertical.entry_amplitudes) t 0))
      (made_a Vertical 1 2 refl (chunk 16 0 table_ab) 1000 first_ab (le_refl 1000))
      (made_b Vertical 1 2 refl (chunk 16 1 table_ab) 320 second_ab (lit≤ tt));
}

-- The rule applies: coefficient 0 of the phase is within the bound of the class of entry 3, and decryption with s = 1 gives it.
pub rule_vertical :
    (distance (phase 2 1 (words key_p) (words (lookup_sample job_vertical)) 0) (14 * 2 ^ 28) ≤ 204776)
    × (number (decrypt_classes 2 16 1 key_p (lookup_sample job_vertical) class_room) ≡ 0)
    × (decrypt_classes_classes 2 16 1 key_p (lookup_sample job_vertical) class_room ≡ bytes (14 ∷ []))
unfolding masks words bytes entry_number sum encode
rule_vertical =
    let given = encrypted_premises job_vertical (λ i. 1) masks_above errors_above (λ i. block_room_p) key_p class_room encrypted_vertical in
    let told = encrypted_tells job_vertical mask_ab errors_ab (λ t. sample_room_p) key_p classes_ab table_vertical (lookup_accepted job_vertical accepted_vertical).job.numbers in
    let rule = accuracy_vertical job_vertical accepted_vertical (λ i. 1) key_p (words classes_ab) class_room given told refl in
    (subst (λ b. distance (phase 2 1 (words key_p) (words (lookup_sample job_vertical)) 0) (14 * 2 ^ 28) ≤ b) bound_vertical rule.within, rule.decrypts, rule.lists)

-- Its noise is not 0. It is above the amplitude of the sample that the bits name.
pub noise_vertical : distance (phase 2 1 (words key_p) (words (lookup_sample job_vertical)) 0) (14 * 2 ^ 28) ≡ 609
unfolding encrypt_selector_block encrypt_selector encrypt_classes_sample encrypt_classes lookup_sample masks rotations lookup after charges largest External.charge
    precision words bytes ones count_trailing_zeros all_below greatest_magnitude magnitude encrypted_block encrypted_row encryption body joined tabulate masked sum product
    message encode looked_up blind_rotation rotation_step rotated_sample rotated tree_sample tree cmux_sample polynomials external difference digit rounded phase
noise_vertical = refl

-- ---- the horizontal packing: N = 2, s = 2, one selector and two entries

-- The selector holds 0: it names entry 0, whose classes are 5 and 9. The amplitude of entry 1 is the larger.
abbrev pub job_horizontal : Job
job_horizontal = record {
  numbers = numbers_ab Horizontal 2 1;
  blocks = block_q;
  amplitudes = bytes (5 ∷ []);
  table = table_ab;
  entry_amplitudes = bytes (1000 ∷ 1500 ∷ []);
  sample = sample_room_p;
  work = zeros 8;
}

-- The lookup is accepted, with one charge, which is 103424, and the amplitude of entry 1.
accepted_horizontal : IsAccepted job_horizontal
unfolding encrypt_selector_block encrypt_selector encrypt_classes_sample encrypt_classes masks rotations lookup after charges largest External.charge precision
    words bytes ones all_below greatest_magnitude magnitude encrypted_block encrypted_row encryption body joined tabulate masked sum product message encode
accepted_horizontal = refl

pub bound_horizontal : bound (lookup job_horizontal) ≡ 104924
unfolding encrypt_selector_block encrypt_selector encrypt_classes_sample encrypt_classes masks rotations lookup after charges largest External.charge precision
    words bytes ones all_below greatest_magnitude magnitude encrypted_block encrypted_row encryption body joined tabulate masked sum product message encode
bound_horizontal = refl

pub gates_horizontal : gates (lookup job_horizontal) ≡ 1
unfolding encrypt_selector_block encrypt_selector encrypt_classes_sample encrypt_classes masks rotations lookup after charges largest External.charge precision
    words bytes ones all_below greatest_magnitude magnitude encrypted_block encrypted_row encryption body joined tabulate masked sum product message encode
gates_horizontal = refl

-- Its block and its table come from encryption.
first_q : chunk 64 0 block_q ≡ block_q
unfolding masks encrypt_selector_block encrypt_selector after words bytes ones all_below
    encrypted_block encrypted_row encryption body joined tabulate masked sum product
first_q = refl

made_q : Made (input 2 8 2 0 key_p masks_q errors_q block_room_p) (chunk 64 0 block_q) 5
made_q = record {
  accepted = accepted_q;
  are_bytes = bytes_are (4294967294 ∷ 3 ∷ 1 ∷ 4294967295 ∷ 4 ∷ 4294967291 ∷ 0 ∷ 2 ∷ []);
  left = first_q;
  declared = le_of_eq bound_q;
}

pub encrypted_horizontal : Encrypted job_horizontal (λ i. 0) (λ i. masks_q) (λ i. errors_q) (λ i. block_room_p) key_p class_room_p
unfolding masks words bytes
encrypted_horizontal = record {
  key_fits = keyed_p;
  made = at_0 (λ i. Made (input 2 8 2 0 key_p masks_q errors_q block_room_p) (chunk 64 i block_q) (get_or (words job_horizontal.amplitudes) i 0)) made_q;
  out_length = refl;
}

pub table_horizontal : EncryptedTable job_horizontal mask_ab errors_ab (λ t. sample_room_p) key_p classes_ab
unfolding masks rotations words bytes
table_horizontal = record {
  hidden = refl;
  are_bytes = bytes_ab;
  size = refl;
  made = at_01
      (λ t. MadeSample (numbers_ab Horizontal 2 1) key_p (mask_ab t) (errors_ab t) (chunk 8 t classes_ab) sample_room_p (chunk 16 t table_ab)
      (get_or (words job_horizontal.entry_amplitudes) t 0))
      (made_a Horizontal 2 1 refl (chunk 16 0 table_ab) 1000 first_ab (le_refl 1000))
      (made_b Horizontal 2 1 refl (chunk 16 1 table_ab) 1500 second_ab (lit≤ tt));
}

-- The rule applies: both coefficients of the phase are within the bound of what entry 0 says, and decryption gives its two classes.
pub rule_horizontal :
    (distance (phase 2 1 (words key_p) (words (lookup_sample job_horizontal)) 0) (5 * 2 ^ 28) ≤ 104924)
    × (distance (phase 2 1 (words key_p) (words (lookup_sample job_horizontal)) 1) (9 * 2 ^ 28) ≤ 104924)
    × (number (decrypt_classes 2 16 2 key_p (lookup_sample job_horizontal) class_room_p) ≡ 0)
    × (decrypt_classes_classes 2 16 2 key_p (lookup_sample job_horizontal) class_room_p ≡ bytes (5 ∷ 9 ∷ []))
unfolding masks rotations words bytes entry_number sum message encode rotated
rule_horizontal =
    let rule = encrypted_hidden_lookup job_horizontal (λ i. 0) (λ i. masks_q) (λ i. errors_q) (λ i. block_room_p) mask_ab errors_ab (λ t. sample_room_p)
    key_p classes_ab class_room_p accepted_horizontal encrypted_horizontal table_horizontal in (
      subst (λ b. distance (phase 2 1 (words key_p) (words (lookup_sample job_horizontal)) 0) (5 * 2 ^ 28) ≤ b) bound_horizontal (rule.within 0 (lit< tt)),
      subst (λ b. distance (phase 2 1 (words key_p) (words (lookup_sample job_horizontal)) 1) (9 * 2 ^ 28) ≤ b) bound_horizontal (rule.within 1 (lit< tt)),
      rule.decrypts,
      rule.lists,
    )

-- Its noise is not 0.
pub noise_horizontal :
    (distance (phase 2 1 (words key_p) (words (lookup_sample job_horizontal)) 0) (5 * 2 ^ 28) ≡ 1003)
    × (distance (phase 2 1 (words key_p) (words (lookup_sample job_horizontal)) 1) (9 * 2 ^ 28) ≡ 835)
unfolding encrypt_selector_block encrypt_selector encrypt_classes_sample encrypt_classes lookup_sample masks rotations lookup after charges largest External.charge
    precision words bytes ones all_below greatest_magnitude magnitude encrypted_block encrypted_row encryption body joined tabulate masked sum product
    message encode looked_up blind_rotation tree_sample tree cmux_sample polynomials external difference digit rounded phase
noise_horizontal = (refl, refl)

-- ---- no selector

-- A table of one sample, with amplitude A.
abbrev pub job_none : (A : ℕ) → Job
job_none A = record {
  numbers = numbers_ab Horizontal 2 0;
  blocks = [];
  amplitudes = [];
  table = sample_a;
  entry_amplitudes = bytes (A ∷ []);
  sample = sample_room_p;
  work = zeros 4;
}

-- The lookup is accepted, and its bound is the entry's amplitude.
accepted_none : IsAccepted (job_none 1000)
unfolding encrypt_classes_sample encrypt_classes masks rotations lookup after charges largest words bytes ones all_below greatest_magnitude magnitude
    encryption body tabulate masked sum product message encode
accepted_none = refl

pub bound_none : bound (lookup (job_none 1000)) ≡ 1000
unfolding encrypt_classes_sample encrypt_classes masks rotations lookup after charges largest words bytes ones all_below greatest_magnitude magnitude
    encryption body tabulate masked sum product message encode
bound_none = refl

pub gates_none : gates (lookup (job_none 1000)) ≡ 0
unfolding encrypt_classes_sample encrypt_classes masks rotations lookup after charges largest words bytes ones all_below greatest_magnitude magnitude
    encryption body tabulate masked sum product message encode
gates_none = refl

-- It has no block, and its table comes from encryption.
pub encrypted_none : Encrypted (job_none 1000) (λ i. 0) (λ i. []) (λ i. []) (λ i. []) key_p class_room_p
unfolding masks words bytes
encrypted_none = record { key_fits = keyed_p; made = λ i l. absurd (omega arith); out_length = refl }

bytes_a : AreBytes sample_a
bytes_a = subst AreBytes (sym sample_a_words) (bytes_are _)

first_a : chunk 16 0 sample_a ≡ sample_a
unfolding encrypt_classes_sample encrypt_classes after words bytes ones all_below greatest_magnitude magnitude
    encryption body tabulate masked sum product message encode
first_a = refl

pub table_none : EncryptedTable (job_none 1000) (λ t. mask_a) (λ t. errors_a) (λ t. sample_room_p) key_p (bytes (5 ∷ 9 ∷ []))
unfolding masks rotations words bytes
table_none = record {
  hidden = refl;
  are_bytes = bytes_a;
  size = refl;
  made = at_0
      (λ t. MadeSample (numbers_ab Horizontal 2 0) key_p mask_a errors_a (chunk 8 t (bytes (5 ∷ 9 ∷ []))) sample_room_p (chunk 16 t sample_a)
      (get_or (words (bytes (1000 ∷ []))) t 0))
      (made_a Horizontal 2 0 refl (chunk 16 0 sample_a) 1000 first_a (le_refl 1000));
}

-- The rule applies: both coefficients of the phase are within the entry's amplitude of its encoding, and decryption gives its two classes.
pub rule_none :
    (distance (phase 2 1 (words key_p) (words (lookup_sample (job_none 1000))) 0) (5 * 2 ^ 28) ≤ 1000)
    × (distance (phase 2 1 (words key_p) (words (lookup_sample (job_none 1000))) 1) (9 * 2 ^ 28) ≤ 1000)
    × (number (decrypt_classes 2 16 2 key_p (lookup_sample (job_none 1000)) class_room_p) ≡ 0)
    × (decrypt_classes_classes 2 16 2 key_p (lookup_sample (job_none 1000)) class_room_p ≡ bytes (5 ∷ 9 ∷ []))
unfolding masks rotations words bytes entry_number sum message encode rotated
rule_none =
    let rule = encrypted_hidden_lookup (job_none 1000) (λ i. 0) (λ i. []) (λ i. []) (λ i. []) (λ t. mask_a) (λ t. errors_a) (λ t. sample_room_p)
    key_p (bytes (5 ∷ 9 ∷ [])) class_room_p accepted_none encrypted_none table_none in (
      subst (λ b. distance (phase 2 1 (words key_p) (words (lookup_sample (job_none 1000))) 0) (5 * 2 ^ 28) ≤ b) bound_none (rule.within 0 (lit< tt)),
      subst (λ b. distance (phase 2 1 (words key_p) (words (lookup_sample (job_none 1000))) 1) (9 * 2 ^ 28) ≤ b) bound_none (rule.within 1 (lit< tt)),
      rule.decrypts,
      rule.lists,
    )

-- What it leaves is the entry itself, so its noise is the entry's errors: in coefficient 0 it is as much as the bound.
pub result_none : lookup_sample (job_none 1000) ≡ sample_a
unfolding encrypt_classes_sample encrypt_classes lookup_sample masks rotations lookup after charges largest words bytes ones all_below greatest_magnitude magnitude
    encryption body tabulate masked sum product message encode looked_up blind_rotation tree_sample tree
result_none = refl

pub noise_none :
    (distance (phase 2 1 (words key_p) (words (lookup_sample (job_none 1000))) 0) (5 * 2 ^ 28) ≡ 1000)
    × (distance (phase 2 1 (words key_p) (words (lookup_sample (job_none 1000))) 1) (9 * 2 ^ 28) ≡ 700)
unfolding encrypt_classes_sample encrypt_classes lookup_sample masks rotations lookup after charges largest words bytes ones all_below greatest_magnitude magnitude
    encryption body tabulate masked sum product message encode looked_up blind_rotation tree_sample tree phase
noise_none = (refl, refl)

-- With M = 16 the limit is 2^27. An amplitude below it is accepted; at it the lookup is answered 9, and the bound is reported.
pub accepted_under : number (lookup (job_none 134217727)) ≡ 0
unfolding encrypt_classes_sample encrypt_classes masks rotations lookup after charges largest words bytes ones all_below greatest_magnitude magnitude
    encryption body tabulate masked sum product message encode
accepted_under = refl

pub refused_limit : number (lookup (job_none 134217728)) ≡ 9
unfolding encrypt_classes_sample encrypt_classes masks rotations lookup after charges largest words bytes ones all_below greatest_magnitude magnitude
    encryption body tabulate masked sum product message encode
refused_limit = refl

pub bound_limit : bound (lookup (job_none 134217728)) ≡ 134217728
unfolding encrypt_classes_sample encrypt_classes masks rotations lookup after charges largest words bytes ones all_below greatest_magnitude magnitude
    encryption body tabulate masked sum product message encode
bound_limit = refl
