-- An instance with a declared weight below N: a lookup in a hidden table under a key with one word 1, with N = 2 and W = 1. It meets every
-- premise of the accuracy rule, from encryption to decryption, with errors that are not 0. Nearly all of (1 + W)·E is met: the noise is above the
-- bound that W = 0 gives. So no part of the charge's second term can be dropped, and a weight below the key's makes the bound no bound.
-- Assumes nothing.
use mathlib.Core.Path.{◌≡◌, refl, subst}
use mathlib.Core.List.{[], ◌∷◌}
use Prim.Native.Nat.{◌*◌, ◌^◌, ◌≤◌, ◌<◌}
use native.Mathlib.Nat.{le_of_eq}
use native.Mathlib.Omega.{arith}
use lib.Count.{ones}
use lib.Dec.{lit<, lit≤}
use lib.ListN.{get_or}
use Rattle.torus.specs.Sum.{sum, tabulate, joined, chunk}
use Rattle.torus.specs.Word.{magnitude, distance}
use Rattle.torus.specs.Bytes.{words, bytes}
use Rattle.torus.proofs.Parts.{bytes_are}
use Rattle.gadget.specs.Digits.{precision, rounded, digit}
use Rattle.ring.specs.Polynomial.{product, rotated}
use Rattle.answers.specs.Answers.{number, bound, greatest_magnitude, after}
use Rattle.answers.specs.Checks.{all_below}
use Rattle.trlwe.specs.Classes.{encode, message}
use Rattle.trlwe.specs.Sample.{polynomials, masked, phase, body, encryption}
use Rattle.trlwe.specs.Calls.{encrypt_classes, encrypt_classes_sample, decrypt_classes, decrypt_classes_classes}
use Rattle.trgsw.specs.Parameters.{masks, SchemeKey}
use Rattle.trgsw.specs.External.{external, difference, cmux_sample}
use Rattle.trgsw.specs.External as External
use Rattle.selectors.specs.Encrypted.{encrypted_row, encrypted_block}
use Rattle.selectors.specs.Calls.{encrypt_selector, encrypt_selector_block}
use Rattle.trees.specs.Tree.{tree, entry_number}
use Rattle.trees.specs.LookedUp.{tree_sample, blind_rotation, looked_up, largest, charges}
use Rattle.tables.specs.Numbers.{rotations}
use Rattle.lookup.specs.Calls.{lookup, lookup_sample, IsAccepted}
use Rattle.accuracy.specs.Rule.{Made, Encrypted, MadeSample, EncryptedTable}
use Rattle.accuracy.proofs.HiddenTables.{encrypted_hidden_lookup}
use Rattle.instances.proofs.BlockInstance.{input, at_0}
use Rattle.instances.proofs.PackedInstance.{at_01, block_room_p, masks_q, sample_room_p, class_room_p}
use Rattle.instances.proofs.ThinKey.{key_x, is_key_x, weight_x, thin, scheme_of_weight, errors_x, block_x, accepted_block, bound_block, mask_c, errors_c, mask_d, errors_d, table_cd, classes_cd, bytes_cd, first_cd, second_cd, mask_cd, errors_cd, job_of_weight, thin_job}

-- ---- with the key's weight

pub keyed_x : SchemeKey (scheme_of_weight thin) key_x
unfolding masks
keyed_x = record { fits = is_key_x; light = omega (arith, weight_x) }

-- With its key's weight the lookup is accepted, with the charge 2·2·2·2^7 + (1 + 1)·2^15 and the amplitude 3.
accepted_thin : IsAccepted thin_job
unfolding encrypt_selector_block encrypt_selector encrypt_classes_sample encrypt_classes masks rotations lookup after charges largest External.charge precision
    words bytes ones all_below greatest_magnitude magnitude encrypted_block encrypted_row encryption body joined tabulate masked sum product message encode
accepted_thin = refl

pub bound_thin : bound (lookup thin_job) ≡ 66563
unfolding encrypt_selector_block encrypt_selector encrypt_classes_sample encrypt_classes masks rotations lookup after charges largest External.charge precision
    words bytes ones all_below greatest_magnitude magnitude encrypted_block encrypted_row encryption body joined tabulate masked sum product message encode
bound_thin = refl

-- Its block and its table come from encryption.
first_x : chunk 64 0 block_x ≡ block_x
unfolding masks encrypt_selector_block encrypt_selector after words bytes ones all_below
    encrypted_block encrypted_row encryption body joined tabulate masked sum product
first_x = refl

made_x : Made (input 2 8 2 1 key_x masks_q errors_x block_room_p) (chunk 64 0 block_x) 1
made_x = record {
  accepted = accepted_block;
  are_bytes = bytes_are (1 ∷ 4294967295 ∷ 4294967295 ∷ 1 ∷ 0 ∷ 1 ∷ 4294967295 ∷ 0 ∷ []);
  left = first_x;
  declared = le_of_eq bound_block;
}

pub encrypted_thin : Encrypted thin_job (λ i. 1) (λ i. masks_q) (λ i. errors_x) (λ i. block_room_p) key_x class_room_p
unfolding masks words bytes
encrypted_thin = record {
  key_fits = keyed_x;
  made = at_0 (λ i. Made (input 2 8 2 1 key_x masks_q errors_x block_room_p) (chunk 64 i block_x) (get_or (words thin_job.amplitudes) i 0)) made_x;
  out_length = refl;
}

made_c : MadeSample thin_job.numbers key_x mask_c errors_c (bytes (5 ∷ 9 ∷ [])) sample_room_p (chunk 16 0 table_cd) 3
unfolding rotations encrypt_classes words bytes ones all_below greatest_magnitude magnitude
made_c = record {
  accepted = refl;
  mask_bytes = bytes_are (2654435769 ∷ 1013904223 ∷ []);
  errors_bytes = bytes_are (3 ∷ 4294967294 ∷ []);
  left = first_cd;
  declared = lit≤ tt;
}

made_d : MadeSample thin_job.numbers key_x mask_d errors_d (bytes (2 ∷ 14 ∷ [])) sample_room_p (chunk 16 1 table_cd) 3
unfolding rotations encrypt_classes words bytes ones all_below greatest_magnitude magnitude
made_d = record {
  accepted = refl;
  mask_bytes = bytes_are (1597334677 ∷ 530936671 ∷ []);
  errors_bytes = bytes_are (3 ∷ 4294967295 ∷ []);
  left = second_cd;
  declared = lit≤ tt;
}

pub table_thin : EncryptedTable thin_job mask_cd errors_cd (λ t. sample_room_p) key_x classes_cd
unfolding masks rotations words bytes
table_thin = record {
  hidden = refl;
  are_bytes = bytes_cd;
  size = refl;
  made = at_01
      (λ t. MadeSample thin_job.numbers key_x (mask_cd t) (errors_cd t) (chunk 8 t classes_cd) sample_room_p (chunk 16 t table_cd)
      (get_or (words thin_job.entry_amplitudes) t 0))
      made_c made_d;
}

-- The rule applies: both coefficients of the phase are within the bound of what entry 1 says, and decryption gives its two classes.
pub rule_thin :
    (distance (phase 2 1 (words key_x) (words (lookup_sample thin_job)) 0) (2 * 2 ^ 28) ≤ 66563)
    × (distance (phase 2 1 (words key_x) (words (lookup_sample thin_job)) 1) (14 * 2 ^ 28) ≤ 66563)
    × (number (decrypt_classes 2 16 2 key_x (lookup_sample thin_job) class_room_p) ≡ 0)
    × (decrypt_classes_classes 2 16 2 key_x (lookup_sample thin_job) class_room_p ≡ bytes (2 ∷ 14 ∷ []))
unfolding masks rotations words bytes entry_number sum message encode rotated
rule_thin =
    let rule = encrypted_hidden_lookup thin_job (λ i. 1) (λ i. masks_q) (λ i. errors_x) (λ i. block_room_p) mask_cd errors_cd (λ t. sample_room_p)
    key_x classes_cd class_room_p accepted_thin encrypted_thin table_thin in (
      subst (λ b. distance (phase 2 1 (words key_x) (words (lookup_sample thin_job)) 0) (2 * 2 ^ 28) ≤ b) bound_thin (rule.within 0 (lit< tt)),
      subst (λ b. distance (phase 2 1 (words key_x) (words (lookup_sample thin_job)) 1) (14 * 2 ^ 28) ≤ b) bound_thin (rule.within 1 (lit< tt)),
      rule.decrypts,
      rule.lists,
    )

-- Its noise is 65431, nearly 2·E.
pub noise_thin : distance (phase 2 1 (words key_x) (words (lookup_sample thin_job)) 0) (2 * 2 ^ 28) ≡ 65431
unfolding encrypt_selector_block encrypt_selector encrypt_classes_sample encrypt_classes lookup_sample masks rotations lookup after charges largest External.charge
    precision words bytes ones all_below greatest_magnitude magnitude encrypted_block encrypted_row encryption body joined tabulate masked sum product
    message encode looked_up blind_rotation tree_sample tree cmux_sample polynomials external difference digit rounded phase
noise_thin = refl

-- ---- with another weight

-- With W = N the same is reported as where no weight is declared, which is more.
pub bound_full : bound (lookup (job_of_weight 2)) ≡ 99331
unfolding encrypt_selector_block encrypt_selector encrypt_classes_sample encrypt_classes masks rotations lookup after charges largest External.charge precision
    words bytes ones all_below greatest_magnitude magnitude encrypted_block encrypted_row encryption body joined tabulate masked sum product message encode
bound_full = refl

-- With W = 0 the lookup is accepted as well, since no call sees the key; but the noise is above the bound that it reports.
pub bound_light : bound (lookup (job_of_weight 0)) ≡ 33795
unfolding encrypt_selector_block encrypt_selector encrypt_classes_sample encrypt_classes masks rotations lookup after charges largest External.charge precision
    words bytes ones all_below greatest_magnitude magnitude encrypted_block encrypted_row encryption body joined tabulate masked sum product message encode
bound_light = refl

pub noise_light : bound (lookup (job_of_weight 0)) < distance (phase 2 1 (words key_x) (words (lookup_sample (job_of_weight 0))) 0) (2 * 2 ^ 28)
unfolding encrypt_selector_block encrypt_selector encrypt_classes_sample encrypt_classes lookup_sample masks rotations lookup after charges largest External.charge
    precision words bytes ones all_below greatest_magnitude magnitude encrypted_block encrypted_row encryption body joined tabulate masked sum product
    message encode looked_up blind_rotation tree_sample tree cmux_sample polynomials external difference digit rounded phase
noise_light = lit< tt
