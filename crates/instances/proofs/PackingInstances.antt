-- Instances of both packings that meet every premise of the accuracy rule, from encryption to decryption, with errors that are not 0: the
-- vertical packing with d above v, equal to it and below it, where N = 2^v, and the horizontal one with s below N. What they say of the
-- calls is computed.
-- Assumes nothing.
use mathlib.Core.Path.{◌≡◌, refl, subst}
use mathlib.Core.List.{List, [], ◌∷◌, ◌++◌}
use Prim.Native.Nat.{ℕ, zero, suc, ◌*◌, ◌^◌, ◌≤◌, ◌<◌}
use native.Mathlib.Nat.{le_refl, le_of_eq}
use native.Mathlib.Omega.{arith}
use lib.Count.{ones, count_trailing_zeros}
use lib.Dec.{lit<, lit≤}
use lib.ListN.{get_or, replicate}
use Rattle.torus.specs.Sum.{sum, tabulate, joined, chunk}
use Rattle.torus.specs.Word.{magnitude, distance}
use Rattle.torus.specs.Bytes.{words, bytes}
use Rattle.torus.proofs.Parts.{bytes_are}
use Rattle.gadget.specs.Digits.{precision, rounded, digit}
use Rattle.ring.specs.Polynomial.{product, rotated}
use Rattle.answers.specs.Answers.{number, bound, gates, greatest_magnitude, after}
use Rattle.answers.specs.Checks.{all_below}
use Rattle.trlwe.specs.Classes.{encode, message}
use Rattle.trlwe.specs.Sample.{Key, polynomials, masked, phase, body, encryption, trivial, rotated_sample}
use Rattle.trlwe.specs.Calls.{decrypt_classes, decrypt_classes_classes}
use Rattle.selectors.specs.Encrypted.{encrypted_row, encrypted_block}
use Rattle.trgsw.specs.Parameters as Parameters
use Rattle.trgsw.specs.External.{external, difference, cmux_sample}
use Rattle.trgsw.specs.External as External
use Rattle.selectors.specs.Calls.{encrypt_selector, encrypt_selector_block}
use Rattle.instances.proofs.BlockInstance.{input, at_0}
use Rattle.trees.specs.Tree.{tree, entry_number}
use Rattle.tables.specs.declared.Packing.{Packing}
use Rattle.tables.specs.declared.Packing.TheVariants.{Horizontal, Vertical}
use Rattle.tables.specs.declared.Visibility.TheVariants.{Public}
use Rattle.tables.specs.declared.Numbers.{Numbers}
use Rattle.trgsw.specs.Parameters.{SchemeKey, masks}
use Rattle.trgsw.proofs.Told.{every_key}
use Rattle.tables.specs.Numbers.{rotations}
use Rattle.trees.specs.LookedUp.{tree_sample, rotation_step, blind_rotation, looked_up, largest, charges}
use Rattle.lookup.specs.Job.{Job}
use Rattle.lookup.specs.Calls.{lookup, lookup_sample, IsAccepted}
use Rattle.accuracy.specs.Rule.{Made, Encrypted}
use Rattle.accuracy.proofs.Accuracy.{accuracy_horizontal, accuracy_vertical}
use Rattle.accuracy.proofs.EndToEnd.{encrypted_premises}
use Rattle.instances.proofs.Instance.{class_room}
use Rattle.instances.proofs.PackedInstance.{at_01, key_p, keyed_p, block_room_p, masks_r, errors_r, block_r, accepted_r, bound_r, sample_room_p}

-- A slice of n words 0.
abbrev pub zeros : (n : ℕ) → List ℕ
zeros n = bytes (replicate n 0)

-- ---- d above v: N = 2, two selectors

-- A block that encrypts 1: its masks, and the errors 2, -1, 0, 4, -3, 1, -2, 3.
abbrev pub masks_s : List ℕ
masks_s = bytes (1999999999 ∷ 31 ∷ 4026531840 ∷ 16777215 ∷ 3735928559 ∷ 2000000011 ∷ 42 ∷ 2863311530 ∷ [])

abbrev pub errors_s : List ℕ
errors_s = bytes (2 ∷ 4294967295 ∷ 0 ∷ 4 ∷ 4294967293 ∷ 1 ∷ 4294967294 ∷ 3 ∷ [])

abbrev pub block_s : List ℕ
block_s = encrypt_selector_block (input 2 8 2 1 key_p masks_s errors_s block_room_p)

accepted_s : number (encrypt_selector (input 2 8 2 1 key_p masks_s errors_s block_room_p)) ≡ 0
unfolding masks encrypt_selector words bytes ones all_below
accepted_s = refl

bound_s : bound (encrypt_selector (input 2 8 2 1 key_p masks_s errors_s block_room_p)) ≡ 4
unfolding masks encrypt_selector words bytes ones all_below greatest_magnitude magnitude
bound_s = refl

-- Selectors 0 and 1 hold 1: they name entry 3, in coefficient 1 of sample 1. Selector 1 picks the sample, and selector 0 rotates it.
abbrev pub numbers_above : Numbers
numbers_above = record { packing = Vertical; visibility = Public; scheme = Parameters.scheme_of 2 8 2; M = 16; s = 1; d = 2 }

abbrev pub job_above : Job
job_above = record {
  numbers = numbers_above;
  blocks = block_r ++ block_s;
  amplitudes = bytes (3 ∷ 4 ∷ []);
  table = bytes (5 ∷ 9 ∷ 2 ∷ 14 ∷ []);
  entry_amplitudes = [];
  sample = sample_room_p;
  work = zeros 12;
}

-- The lookup is accepted, with the sum of two charges, one gate of the tree and one of the rotation.
accepted_above : IsAccepted job_above
unfolding encrypt_selector_block encrypt_selector masks rotations lookup after charges largest External.charge precision words bytes ones count_trailing_zeros
    all_below encrypted_block encrypted_row encryption body joined tabulate masked sum product
accepted_above = refl

pub bound_above : bound (lookup job_above) ≡ 203776
unfolding encrypt_selector_block encrypt_selector masks rotations lookup after charges largest External.charge precision words bytes ones count_trailing_zeros
    all_below encrypted_block encrypted_row encryption body joined tabulate masked sum product
bound_above = refl

pub gates_above : gates (lookup job_above) ≡ 2
unfolding encrypt_selector_block encrypt_selector masks rotations lookup after charges largest External.charge precision words bytes ones count_trailing_zeros
    all_below encrypted_block encrypted_row encryption body joined tabulate masked sum product
gates_above = refl

-- Each lent block is the one that was made.
first_above : chunk 64 0 job_above.blocks ≡ block_r
unfolding masks encrypt_selector_block encrypt_selector after words bytes ones all_below
    encrypted_block encrypted_row encryption body joined tabulate masked sum product
first_above = refl

second_above : chunk 64 1 job_above.blocks ≡ block_s
unfolding masks encrypt_selector_block encrypt_selector after words bytes ones all_below
    encrypted_block encrypted_row encryption body joined tabulate masked sum product
second_above = refl

made_above_0 : Made (input 2 8 2 1 key_p masks_r errors_r block_room_p) (chunk 64 0 job_above.blocks) 3
made_above_0 = record { accepted = accepted_r; are_bytes = bytes_are (1 ∷ 4294967293 ∷ 2 ∷ 0 ∷ 4294967295 ∷ 3 ∷ 4294967294 ∷ 1 ∷ []); left = first_above; declared = le_of_eq bound_r }

made_above_1 : Made (input 2 8 2 1 key_p masks_s errors_s block_room_p) (chunk 64 1 job_above.blocks) 4
made_above_1 = record { accepted = accepted_s; are_bytes = bytes_are (2 ∷ 4294967295 ∷ 0 ∷ 4 ∷ 4294967293 ∷ 1 ∷ 4294967294 ∷ 3 ∷ []); left = second_above; declared = le_of_eq bound_s }

-- The masks and the errors, by the number of the selector.
abbrev pub masks_above : ℕ → List ℕ
masks_above zero = masks_r
masks_above (suc i) = masks_s

abbrev pub errors_above : ℕ → List ℕ
errors_above zero = errors_r
errors_above (suc i) = errors_s

pub encrypted_above : Encrypted job_above (λ i. 1) masks_above errors_above (λ i. block_room_p) key_p class_room
unfolding masks words bytes
encrypted_above = record {
  key_fits = keyed_p;
  made = at_01
      (λ i. Made (input 2 8 2 1 key_p (masks_above i) (errors_above i) block_room_p) (chunk 64 i job_above.blocks) (get_or (words job_above.amplitudes) i 0))
      made_above_0 made_above_1;
  out_length = refl;
}

-- The rule applies: coefficient 0 of the phase is within the bound of the class of entry 3, and decryption with s = 1 gives it.
pub rule_above :
    (distance (phase 2 1 (words key_p) (words (lookup_sample job_above)) 0) (14 * 2 ^ 28) ≤ 203776)
    × (number (decrypt_classes 2 16 1 key_p (lookup_sample job_above) class_room) ≡ 0)
    × (decrypt_classes_classes 2 16 1 key_p (lookup_sample job_above) class_room ≡ bytes (14 ∷ []))
unfolding masks words bytes entry_number sum encode
rule_above =
    let given = encrypted_premises job_above (λ i. 1) masks_above errors_above (λ i. block_room_p) key_p class_room encrypted_above in
    let rule = accuracy_vertical job_above accepted_above (λ i. 1) key_p (words job_above.table) class_room given refl refl in
    (subst (λ b. distance (phase 2 1 (words key_p) (words (lookup_sample job_above)) 0) (14 * 2 ^ 28) ≤ b) bound_above rule.within, rule.decrypts, rule.lists)

-- Its noise is not 0.
pub noise_above : distance (phase 2 1 (words key_p) (words (lookup_sample job_above)) 0) (14 * 2 ^ 28) ≡ 11
unfolding encrypt_selector_block encrypt_selector lookup_sample masks rotations lookup after charges largest External.charge precision words bytes ones
    count_trailing_zeros all_below encrypted_block encrypted_row encryption body joined tabulate masked sum product looked_up blind_rotation rotation_step rotated_sample
    rotated tree_sample tree trivial message encode cmux_sample polynomials external difference digit rounded phase magnitude
noise_above = refl

-- ---- one selector and N = 2: d equal to v in the vertical packing, s below N in the horizontal one

-- The selector holds 1, and names entry 1.
abbrev pub numbers_one : Packing → Numbers
numbers_one q = record { packing = q; visibility = Public; scheme = Parameters.scheme_of 2 8 2; M = 16; s = 1; d = 1 }

abbrev pub job_one : Packing → Job
job_one q = record {
  numbers = numbers_one q;
  blocks = block_r;
  amplitudes = bytes (3 ∷ []);
  table = bytes (5 ∷ 9 ∷ []);
  entry_amplitudes = [];
  sample = sample_room_p;
  work = zeros 8;
}

first_one : chunk 64 0 block_r ≡ block_r
unfolding masks encrypt_selector_block encrypt_selector after words bytes ones all_below
    encrypted_block encrypted_row encryption body joined tabulate masked sum product
first_one = refl

made_one : (q : Packing) → Made (input 2 8 2 1 key_p masks_r errors_r block_room_p) (chunk 64 0 block_r) 3
made_one q = record { accepted = accepted_r; are_bytes = bytes_are (1 ∷ 4294967293 ∷ 2 ∷ 0 ∷ 4294967295 ∷ 3 ∷ 4294967294 ∷ 1 ∷ []); left = first_one; declared = le_of_eq bound_r }

pub encrypted_one : (q : Packing) → Encrypted (job_one q) (λ i. 1) (λ i. masks_r) (λ i. errors_r) (λ i. block_room_p) key_p class_room
unfolding masks words bytes
encrypted_one q = record {
  key_fits = keyed_p;
  made = at_0 (λ i. Made (input 2 8 2 1 key_p masks_r errors_r block_room_p) (chunk 64 i block_r) (get_or (words (job_one q).amplitudes) i 0)) (made_one q);
  out_length = refl;
}

-- Both are accepted, with one charge and one gate: of the rotation, or of the tree.
accepted_equal : IsAccepted (job_one Vertical)
unfolding encrypt_selector_block encrypt_selector masks rotations lookup after charges largest External.charge precision words bytes ones count_trailing_zeros
    all_below encrypted_block encrypted_row encryption body joined tabulate masked sum product
accepted_equal = refl

pub bound_equal : bound (lookup (job_one Vertical)) ≡ 101376
unfolding encrypt_selector_block encrypt_selector masks rotations lookup after charges largest External.charge precision words bytes ones count_trailing_zeros
    all_below encrypted_block encrypted_row encryption body joined tabulate masked sum product
bound_equal = refl

pub gates_equal : gates (lookup (job_one Vertical)) ≡ 1
unfolding encrypt_selector_block encrypt_selector masks rotations lookup after charges largest External.charge precision words bytes ones count_trailing_zeros
    all_below encrypted_block encrypted_row encryption body joined tabulate masked sum product
gates_equal = refl

accepted_few : IsAccepted (job_one Horizontal)
unfolding encrypt_selector_block encrypt_selector masks rotations lookup after charges largest External.charge precision words bytes ones count_trailing_zeros
    all_below encrypted_block encrypted_row encryption body joined tabulate masked sum product
accepted_few = refl

pub bound_few : bound (lookup (job_one Horizontal)) ≡ 101376
unfolding encrypt_selector_block encrypt_selector masks rotations lookup after charges largest External.charge precision words bytes ones count_trailing_zeros
    all_below encrypted_block encrypted_row encryption body joined tabulate masked sum product
bound_few = refl

pub gates_few : gates (lookup (job_one Horizontal)) ≡ 1
unfolding encrypt_selector_block encrypt_selector masks rotations lookup after charges largest External.charge precision words bytes ones count_trailing_zeros
    all_below encrypted_block encrypted_row encryption body joined tabulate masked sum product
gates_few = refl

-- In the vertical packing the class of entry 1 is in coefficient 1 of the one sample, and the rotation brings it to coefficient 0.
pub rule_equal :
    (distance (phase 2 1 (words key_p) (words (lookup_sample (job_one Vertical))) 0) (9 * 2 ^ 28) ≤ 101376)
    × (number (decrypt_classes 2 16 1 key_p (lookup_sample (job_one Vertical)) class_room) ≡ 0)
    × (decrypt_classes_classes 2 16 1 key_p (lookup_sample (job_one Vertical)) class_room ≡ bytes (9 ∷ []))
unfolding masks words bytes entry_number sum encode
rule_equal =
    let given = encrypted_premises (job_one Vertical) (λ i. 1) (λ i. masks_r) (λ i. errors_r) (λ i. block_room_p) key_p class_room (encrypted_one Vertical) in
    let rule = accuracy_vertical (job_one Vertical) accepted_equal (λ i. 1) key_p (words (job_one Vertical).table) class_room given refl refl in
    (subst (λ b. distance (phase 2 1 (words key_p) (words (lookup_sample (job_one Vertical))) 0) (9 * 2 ^ 28) ≤ b) bound_equal rule.within, rule.decrypts, rule.lists)

-- Its noise is not 0.
pub noise_equal : distance (phase 2 1 (words key_p) (words (lookup_sample (job_one Vertical))) 0) (9 * 2 ^ 28) ≡ 160
unfolding encrypt_selector_block encrypt_selector lookup_sample masks rotations lookup after charges largest External.charge precision words bytes ones
    count_trailing_zeros all_below encrypted_block encrypted_row encryption body joined tabulate masked sum product looked_up blind_rotation rotation_step rotated_sample
    rotated tree_sample tree trivial message encode cmux_sample polynomials external difference digit rounded phase magnitude
noise_equal = refl

-- In the horizontal packing both coefficients are within the bound: the class of entry 1, and 0 where there is no class.
pub rule_few :
    (distance (phase 2 1 (words key_p) (words (lookup_sample (job_one Horizontal))) 0) (9 * 2 ^ 28) ≤ 101376)
    × (distance (phase 2 1 (words key_p) (words (lookup_sample (job_one Horizontal))) 1) 0 ≤ 101376)
    × (number (decrypt_classes 2 16 1 key_p (lookup_sample (job_one Horizontal)) class_room) ≡ 0)
    × (decrypt_classes_classes 2 16 1 key_p (lookup_sample (job_one Horizontal)) class_room ≡ bytes (9 ∷ []))
unfolding masks words bytes entry_number sum message encode
rule_few =
    let given = encrypted_premises (job_one Horizontal) (λ i. 1) (λ i. masks_r) (λ i. errors_r) (λ i. block_room_p) key_p class_room (encrypted_one Horizontal) in
    let rule = accuracy_horizontal (job_one Horizontal) accepted_few (λ i. 1) key_p (words (job_one Horizontal).table) class_room given refl refl in (
      subst (λ b. distance (phase 2 1 (words key_p) (words (lookup_sample (job_one Horizontal))) 0) (9 * 2 ^ 28) ≤ b) bound_few (rule.within 0 (lit< tt)),
      subst (λ b. distance (phase 2 1 (words key_p) (words (lookup_sample (job_one Horizontal))) 1) 0 ≤ b) bound_few (rule.within 1 (lit< tt)),
      rule.decrypts,
      rule.lists,
    )

-- Its noise is not 0.
pub noise_few :
    (distance (phase 2 1 (words key_p) (words (lookup_sample (job_one Horizontal))) 0) (9 * 2 ^ 28) ≡ 64)
    × (distance (phase 2 1 (words key_p) (words (lookup_sample (job_one Horizontal))) 1) 0 ≡ 192)
unfolding encrypt_selector_block encrypt_selector lookup_sample masks rotations lookup after charges largest External.charge precision words bytes ones
    count_trailing_zeros all_below encrypted_block encrypted_row encryption body joined tabulate masked sum product looked_up blind_rotation rotation_step rotated_sample
    rotated tree_sample tree trivial message encode cmux_sample polynomials external difference digit rounded phase magnitude
noise_few = (refl, refl)

-- ---- d below v: N = 4, one selector

-- The key is 1 + X^2 + X^3.
abbrev pub key_b : List ℕ
key_b = bytes (1 ∷ 0 ∷ 1 ∷ 1 ∷ [])

at_0123 : (P : ℕ → Type 0) → P 0 → P 1 → P 2 → P 3 → (i : ℕ) → i < 4 → P i
at_0123 P p q r s zero l = p
at_0123 P p q r s (suc zero) l = q
at_0123 P p q r s (suc (suc zero)) l = r
at_0123 P p q r s (suc (suc (suc zero))) l = s
at_0123 P p q r s (suc (suc (suc (suc i)))) l = absurd (omega arith)

pub is_key_b : Key 4 1 key_b
unfolding words bytes ones
is_key_b = record {
  degree = record { power = refl; most = lit≤ tt };
  size = refl;
  bits = at_0123 (λ i. get_or (words key_b) i 0 ≤ 1) (le_refl 1) (lit≤ tt) (le_refl 1) (le_refl 1);
}

keyed_b : SchemeKey (Parameters.scheme_of 4 8 2) key_b
unfolding masks
keyed_b = every_key (Parameters.scheme_of 4 8 2) key_b (le_refl 4) is_key_b

-- A block of degree 4 that encrypts 1: its masks, and the errors 1, -2, 0, 3, -1, 2, 1, -3, 0, 2, -2, 1, 3, 0, -1, 2.
abbrev pub masks_b : List ℕ
masks_b = bytes (305419896 ∷ 7 ∷ 2596069104 ∷ 1 ∷ 4294967290 ∷ 65537 ∷ 3 ∷ 2880154539 ∷ 1000000007 ∷ 12 ∷ 3405691582 ∷ 99 ∷ 2147483649 ∷ 4 ∷ 555555555 ∷ 3221225473 ∷ [])

abbrev pub errors_b : List ℕ
errors_b = bytes (1 ∷ 4294967294 ∷ 0 ∷ 3 ∷ 4294967295 ∷ 2 ∷ 1 ∷ 4294967293 ∷ 0 ∷ 2 ∷ 4294967294 ∷ 1 ∷ 3 ∷ 0 ∷ 4294967295 ∷ 2 ∷ [])

abbrev pub block_b : List ℕ
block_b = encrypt_selector_block (input 4 8 2 1 key_b masks_b errors_b (zeros 32))

accepted_b : number (encrypt_selector (input 4 8 2 1 key_b masks_b errors_b (zeros 32))) ≡ 0
unfolding masks encrypt_selector words bytes ones all_below
accepted_b = refl

bound_b : bound (encrypt_selector (input 4 8 2 1 key_b masks_b errors_b (zeros 32))) ≡ 3
unfolding masks encrypt_selector words bytes ones all_below greatest_magnitude magnitude
bound_b = refl

-- The selector holds 1, and names entry 1 of two, which fill coefficients 0 and 1 of the one sample.
abbrev pub numbers_below : Numbers
numbers_below = record { packing = Vertical; visibility = Public; scheme = Parameters.scheme_of 4 8 2; M = 16; s = 1; d = 1 }

abbrev pub job_below : Job
job_below = record {
  numbers = numbers_below;
  blocks = block_b;
  amplitudes = bytes (3 ∷ []);
  table = bytes (5 ∷ 9 ∷ []);
  entry_amplitudes = [];
  sample = zeros 8;
  work = zeros 16;
}

-- The lookup is accepted, with one charge and one gate.
accepted_below : IsAccepted job_below
unfolding encrypt_selector_block encrypt_selector masks rotations lookup after charges largest External.charge precision words bytes ones count_trailing_zeros
    all_below encrypted_block encrypted_row encryption body joined tabulate masked sum product
accepted_below = refl

pub bound_below : bound (lookup job_below) ≡ 169984
unfolding encrypt_selector_block encrypt_selector masks rotations lookup after charges largest External.charge precision words bytes ones count_trailing_zeros
    all_below encrypted_block encrypted_row encryption body joined tabulate masked sum product
bound_below = refl

pub gates_below : gates (lookup job_below) ≡ 1
unfolding encrypt_selector_block encrypt_selector masks rotations lookup after charges largest External.charge precision words bytes ones count_trailing_zeros
    all_below encrypted_block encrypted_row encryption body joined tabulate masked sum product
gates_below = refl

first_below : chunk 128 0 block_b ≡ block_b
unfolding masks encrypt_selector_block encrypt_selector after words bytes ones all_below
    encrypted_block encrypted_row encryption body joined tabulate masked sum product
first_below = refl

made_below : Made (input 4 8 2 1 key_b masks_b errors_b (zeros 32)) (chunk 128 0 block_b) 3
made_below = record {
  accepted = accepted_b;
  are_bytes = bytes_are (1 ∷ 4294967294 ∷ 0 ∷ 3 ∷ 4294967295 ∷ 2 ∷ 1 ∷ 4294967293 ∷ 0 ∷ 2 ∷ 4294967294 ∷ 1 ∷ 3 ∷ 0 ∷ 4294967295 ∷ 2 ∷ []);
  left = first_below;
  declared = le_of_eq bound_b;
}

pub encrypted_below : Encrypted job_below (λ i. 1) (λ i. masks_b) (λ i. errors_b) (λ i. zeros 32) key_b class_room
unfolding masks words bytes
encrypted_below = record {
  key_fits = keyed_b;
  made = at_0 (λ i. Made (input 4 8 2 1 key_b masks_b errors_b (zeros 32)) (chunk 128 i block_b) (get_or (words job_below.amplitudes) i 0)) made_below;
  out_length = refl;
}

-- The rule applies: the rotation brings the class of entry 1 to coefficient 0.
pub rule_below :
    (distance (phase 4 1 (words key_b) (words (lookup_sample job_below)) 0) (9 * 2 ^ 28) ≤ 169984)
    × (number (decrypt_classes 4 16 1 key_b (lookup_sample job_below) class_room) ≡ 0)
    × (decrypt_classes_classes 4 16 1 key_b (lookup_sample job_below) class_room ≡ bytes (9 ∷ []))
unfolding masks words bytes entry_number sum encode
rule_below =
    let given = encrypted_premises job_below (λ i. 1) (λ i. masks_b) (λ i. errors_b) (λ i. zeros 32) key_b class_room encrypted_below in
    let rule = accuracy_vertical job_below accepted_below (λ i. 1) key_b (words job_below.table) class_room given refl refl in
    (subst (λ b. distance (phase 4 1 (words key_b) (words (lookup_sample job_below)) 0) (9 * 2 ^ 28) ≤ b) bound_below rule.within, rule.decrypts, rule.lists)

-- Its noise is not 0.
pub noise_below : distance (phase 4 1 (words key_b) (words (lookup_sample job_below)) 0) (9 * 2 ^ 28) ≡ 48
unfolding encrypt_selector_block encrypt_selector lookup_sample masks rotations lookup after charges largest External.charge precision words bytes ones
    count_trailing_zeros all_below encrypted_block encrypted_row encryption body joined tabulate masked sum product looked_up blind_rotation rotation_step rotated_sample
    rotated tree_sample tree trivial message encode cmux_sample polynomials external difference digit rounded phase magnitude
noise_below = refl
