-- An instance that meets every premise of the accuracy rule, from encryption to decryption: packed samples with N = 2 and s = 2, where
-- products pass the end and digits are rounded. Its blocks are encrypted with errors that are not 0. What it says of the calls is computed.
-- Assumes nothing.
use mathlib.Core.Path.{◌≡◌, refl, subst}
use mathlib.Core.List.{List, [], ◌∷◌, ◌++◌}
use Prim.Native.Nat.{ℕ, zero, suc, ◌*◌, ◌^◌, ◌≤◌, ◌<◌}
use native.Mathlib.Nat.{le_trans, le_refl, le_of_eq}
use native.Mathlib.Omega.{arith}
use lib.Count.{ones}
use lib.Dec.{lit<, lit≤}
use lib.ListN.{get_or}
use Rattle.torus.specs.Sum.{sum, tabulate, joined, chunk}
use Rattle.torus.specs.Word.{magnitude, distance}
use Rattle.torus.specs.Bytes.{words, bytes}
use Rattle.torus.proofs.Parts.{bytes_are}
use Rattle.gadget.specs.Digits.{precision, rounded, digit}
use Rattle.ring.specs.Polynomial.{product, rotated}
use Rattle.answers.specs.Answers.{number, bound, gates, greatest_magnitude, after}
use Rattle.answers.specs.Checks.{all_below}
use Rattle.trlwe.specs.Classes.{encode, message}
use Rattle.trlwe.specs.Sample.{Key, polynomials, masked, phase, body, encryption, trivial}
use Rattle.trlwe.specs.Calls.{decrypt_classes, decrypt_classes_classes}
use Rattle.selectors.specs.Encrypted.{encrypted_row, encrypted_block}
use Rattle.trgsw.specs.Parameters as Parameters
use Rattle.trgsw.specs.External.{external, difference, cmux_sample}
use Rattle.trgsw.specs.External as External
use Rattle.selectors.specs.Calls.{encrypt_selector, encrypt_selector_block}
use Rattle.trees.specs.Tree.{tree, entry_number}
use Rattle.tables.specs.declared.Packing.TheVariants.{Horizontal}
use Rattle.tables.specs.declared.Visibility.TheVariants.{Public}
use Rattle.tables.specs.declared.Numbers.{Numbers}
use Rattle.trgsw.specs.Parameters.{SchemeKey, masks}
use Rattle.trgsw.proofs.Told.{every_key}
use Rattle.tables.specs.Numbers.{rotations}
use Rattle.trees.specs.LookedUp.{tree_sample, blind_rotation, looked_up, largest, charges}
use Rattle.lookup.specs.Job.{Job}
use Rattle.lookup.specs.Calls.{lookup, lookup_sample}
use Rattle.accuracy.specs.Rule.{Made, Encrypted}
use Rattle.accuracy.proofs.EndToEnd.{encrypted_lookup}
use Rattle.instances.proofs.BlockInstance.{input}
use Rattle.instances.proofs.Instance.{bits_fe}

-- With N = 2 there are two coefficients, and with d = 2 two selectors.
pub at_01 : (P : ℕ → Type 0) → P 0 → P 1 → (i : ℕ) → i < 2 → P i
at_01 P p q zero l = p
at_01 P p q (suc zero) l = q
at_01 P p q (suc (suc i)) l = absurd (omega arith)

-- The key is 1 + X.
abbrev pub key_p : List ℕ
key_p = bytes (1 ∷ 1 ∷ [])

pub is_key_p : Key 2 1 key_p
unfolding words bytes ones
is_key_p = record {
  degree = record { power = refl; most = lit≤ tt };
  size = refl;
  bits = at_01 (λ i. get_or (words key_p) i 0 ≤ 1) (le_refl 1) (le_refl 1);
}

pub keyed_p : SchemeKey (Parameters.scheme_of 2 8 2) key_p
unfolding masks
keyed_p = every_key (Parameters.scheme_of 2 8 2) key_p (le_refl 2) is_key_p

-- A slice for a block of degree 2, with g = 8 and L = 2.
abbrev pub block_room_p : List ℕ
block_room_p = bytes (0 ∷ 0 ∷ 0 ∷ 0 ∷ 0 ∷ 0 ∷ 0 ∷ 0 ∷ 0 ∷ 0 ∷ 0 ∷ 0 ∷ 0 ∷ 0 ∷ 0 ∷ 0 ∷ [])

-- A block that encrypts 0: its masks, and the errors -2, 3, 1, -1, 4, -5, 0, 2.
abbrev pub masks_q : List ℕ
masks_q = bytes (4000000000 ∷ 9 ∷ 4294967295 ∷ 2147483647 ∷ 1618033988 ∷ 271828182 ∷ 1234567890 ∷ 3000000000 ∷ [])

abbrev pub errors_q : List ℕ
errors_q = bytes (4294967294 ∷ 3 ∷ 1 ∷ 4294967295 ∷ 4 ∷ 4294967291 ∷ 0 ∷ 2 ∷ [])

abbrev pub block_q : List ℕ
block_q = encrypt_selector_block (input 2 8 2 0 key_p masks_q errors_q block_room_p)

pub accepted_q : number (encrypt_selector (input 2 8 2 0 key_p masks_q errors_q block_room_p)) ≡ 0
unfolding masks encrypt_selector words bytes ones all_below
accepted_q = refl

pub bound_q : bound (encrypt_selector (input 2 8 2 0 key_p masks_q errors_q block_room_p)) ≡ 5
unfolding masks encrypt_selector words bytes ones all_below greatest_magnitude magnitude
bound_q = refl

-- A block that encrypts 1: its masks, and the errors 1, -3, 2, 0, -1, 3, -2, 1.
abbrev pub masks_r : List ℕ
masks_r = bytes (5 ∷ 4294967291 ∷ 123456789 ∷ 4000000000 ∷ 2147483648 ∷ 77 ∷ 3141592653 ∷ 2718281828 ∷ [])

abbrev pub errors_r : List ℕ
errors_r = bytes (1 ∷ 4294967293 ∷ 2 ∷ 0 ∷ 4294967295 ∷ 3 ∷ 4294967294 ∷ 1 ∷ [])

abbrev pub block_r : List ℕ
block_r = encrypt_selector_block (input 2 8 2 1 key_p masks_r errors_r block_room_p)

pub accepted_r : number (encrypt_selector (input 2 8 2 1 key_p masks_r errors_r block_room_p)) ≡ 0
unfolding masks encrypt_selector words bytes ones all_below
accepted_r = refl

pub bound_r : bound (encrypt_selector (input 2 8 2 1 key_p masks_r errors_r block_room_p)) ≡ 3
unfolding masks encrypt_selector words bytes ones all_below greatest_magnitude magnitude
bound_r = refl

-- Selector 0 holds 0, and selector 1 holds 1: they name entry 2, whose classes are 8 and 15. The second amplitude is above the bound
-- that the encryption reported.
abbrev pub blocks_p : List ℕ
blocks_p = block_q ++ block_r

abbrev pub amplitudes_p : List ℕ
amplitudes_p = bytes (5 ∷ 4 ∷ [])

abbrev pub classes_p : List ℕ
classes_p = bytes (5 ∷ 9 ∷ 0 ∷ 8 ∷ 8 ∷ 15 ∷ 3 ∷ 12 ∷ [])

-- Slices for a sample, the work and two classes.
abbrev pub sample_room_p : List ℕ
sample_room_p = bytes (0 ∷ 0 ∷ 0 ∷ 0 ∷ [])

abbrev pub work_p : List ℕ
work_p = bytes (0 ∷ 0 ∷ 0 ∷ 0 ∷ 0 ∷ 0 ∷ 0 ∷ 0 ∷ 0 ∷ 0 ∷ 0 ∷ 0 ∷ [])

abbrev pub class_room_p : List ℕ
class_room_p = bytes (0 ∷ 0 ∷ [])

abbrev pub numbers_p : Numbers
numbers_p = record { packing = Horizontal; visibility = Public; scheme = Parameters.scheme_of 2 8 2; M = 16; s = 2; d = 2 }

abbrev pub job_p : Job
job_p = record { numbers = numbers_p; blocks = blocks_p; amplitudes = amplitudes_p; table = classes_p; entry_amplitudes = []; sample = sample_room_p; work = work_p }

-- The lookup is accepted, with the sum of two charges and three gates. A charge is 1024 times the amplitude, and 3 times 2^15.
pub accepted_p : number (lookup job_p) ≡ 0
unfolding encrypt_selector_block encrypt_selector masks rotations lookup after charges largest External.charge precision words bytes ones all_below
    encrypted_block encrypted_row encryption body joined tabulate masked sum product
accepted_p = refl

pub bound_p : bound (lookup job_p) ≡ 205824
unfolding encrypt_selector_block encrypt_selector masks rotations lookup after charges largest External.charge precision words bytes ones all_below
    encrypted_block encrypted_row encryption body joined tabulate masked sum product
bound_p = refl

pub gates_p : gates (lookup job_p) ≡ 3
unfolding encrypt_selector_block encrypt_selector masks rotations lookup after charges largest External.charge precision words bytes ones all_below
    encrypted_block encrypted_row encryption body joined tabulate masked sum product
gates_p = refl

-- Each lent block is the one that was made, and the declared amplitude is no less than the bound that was reported.
block_q_chunk : chunk 64 0 blocks_p ≡ block_q
unfolding masks encrypt_selector_block encrypt_selector after words bytes ones all_below
    encrypted_block encrypted_row encryption body joined tabulate masked sum product
block_q_chunk = refl

block_r_chunk : chunk 64 1 blocks_p ≡ block_r
unfolding masks encrypt_selector_block encrypt_selector after words bytes ones all_below
    encrypted_block encrypted_row encryption body joined tabulate masked sum product
block_r_chunk = refl

made_q : Made (input 2 8 2 0 key_p masks_q errors_q block_room_p) (chunk 64 0 blocks_p) 5
made_q = record {
  accepted = accepted_q;
  are_bytes = bytes_are (4294967294 ∷ 3 ∷ 1 ∷ 4294967295 ∷ 4 ∷ 4294967291 ∷ 0 ∷ 2 ∷ []);
  left = block_q_chunk;
  declared = le_of_eq bound_q;
}

made_r : Made (input 2 8 2 1 key_p masks_r errors_r block_room_p) (chunk 64 1 blocks_p) 4
made_r = record {
  accepted = accepted_r;
  are_bytes = bytes_are (1 ∷ 4294967293 ∷ 2 ∷ 0 ∷ 4294967295 ∷ 3 ∷ 4294967294 ∷ 1 ∷ []);
  left = block_r_chunk;
  declared = le_trans (le_of_eq bound_r) (lit≤ tt);
}

-- The masks and the errors, by the number of the selector.
abbrev pub masks_p : ℕ → List ℕ
masks_p zero = masks_q
masks_p (suc i) = masks_r

abbrev pub errors_p : ℕ → List ℕ
errors_p zero = errors_q
errors_p (suc i) = errors_r

pub encrypted_p : Encrypted job_p bits_fe masks_p errors_p (λ i. block_room_p) key_p class_room_p
unfolding masks words bytes
encrypted_p = record {
  key_fits = keyed_p;
  made = at_01 (λ i. Made (input 2 8 2 (bits_fe i) key_p (masks_p i) (errors_p i) block_room_p) (chunk 64 i blocks_p) (get_or (words amplitudes_p) i 0)) made_q made_r;
  out_length = refl;
}

-- The sample that it leaves.
abbrev pub result_p : List ℕ
result_p = lookup_sample job_p

-- The rule applies: both coefficients of the phase are within the bound of what entry 2 says, and decryption gives its two classes.
pub rule_p :
    (distance (phase 2 1 (words key_p) (words result_p) 0) (8 * 2 ^ 28) ≤ 205824)
    × (distance (phase 2 1 (words key_p) (words result_p) 1) (15 * 2 ^ 28) ≤ 205824)
    × (number (decrypt_classes 2 16 2 key_p result_p class_room_p) ≡ 0)
    × (decrypt_classes_classes 2 16 2 key_p result_p class_room_p ≡ bytes (8 ∷ 15 ∷ []))
unfolding masks rotations words bytes entry_number sum message encode rotated
rule_p =
    let rule = encrypted_lookup job_p bits_fe masks_p errors_p (λ i. block_room_p) key_p (words job_p.table) class_room_p accepted_p encrypted_p refl in (
      subst (λ b. distance (phase 2 1 (words key_p) (words result_p) 0) (8 * 2 ^ 28) ≤ b) bound_p (rule.within 0 (lit< tt)),
      subst (λ b. distance (phase 2 1 (words key_p) (words result_p) 1) (15 * 2 ^ 28) ≤ b) bound_p (rule.within 1 (lit< tt)),
      rule.decrypts,
      rule.lists,
    )

-- Its mask is not 0, and neither is its noise. In coefficient 0 it is above 9216, what the amplitudes are charged: there is rounding in it.
pub result_p_words : words result_p ≡ 2773553129 ∷ 3796587218 ∷ 1124383607 ∷ 2006737680 ∷ []
unfolding encrypt_selector_block encrypt_selector lookup_sample masks rotations lookup after charges largest External.charge precision words bytes ones all_below
    encrypted_block encrypted_row encryption body joined tabulate masked sum product
    looked_up blind_rotation tree_sample tree trivial message encode cmux_sample polynomials external difference digit rounded
result_p_words = refl

pub noise_p :
    (distance (phase 2 1 (words key_p) (words result_p) 0) (8 * 2 ^ 28) ≡ 65952)
    × (distance (phase 2 1 (words key_p) (words result_p) 1) (15 * 2 ^ 28) ≡ 85)
unfolding encrypt_selector_block encrypt_selector lookup_sample masks rotations lookup after charges largest External.charge precision words bytes ones all_below
    encrypted_block encrypted_row encryption body joined tabulate masked sum product
    looked_up blind_rotation tree_sample tree trivial message encode cmux_sample polynomials external difference digit rounded phase magnitude
noise_p = (refl, refl)
