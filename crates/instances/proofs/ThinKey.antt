-- A key of few ones, with a block and a hidden table under it: the key is X, which has one word 1, with N = 2. All are as encryption left them,
-- with errors that are not 0. What is rounded off the difference of the two samples goes the same way in both polynomials.
-- Assumes nothing.
use mathlib.Core.Path.{◌≡◌, refl, sym, subst}
use mathlib.Core.List.{List, [], ◌∷◌, ◌++◌}
use Prim.Native.Nat.{ℕ, zero, suc, ◌≤◌}
use native.Mathlib.Nat.{le_refl}
use lib.Count.{ones}
use lib.Dec.{lit≤}
use lib.ListN.{get_or}
use Rattle.torus.specs.Sum.{sum, tabulate, chunk}
use Rattle.torus.specs.Word.{magnitude}
use Rattle.torus.specs.Bytes.{AreBytes, words, bytes}
use Rattle.torus.proofs.Parts.{bytes_are}
use Rattle.ring.specs.Polynomial.{product}
use Rattle.answers.specs.Answers.{number, bound, greatest_magnitude, after}
use Rattle.answers.specs.Checks.{all_below}
use Rattle.trlwe.specs.Classes.{encode, message}
use Rattle.trlwe.specs.Sample.{Key, masked, body, encryption}
use Rattle.trlwe.specs.Calls.{encrypt_classes, encrypt_classes_sample}
use Rattle.trgsw.specs.declared.Scheme.{Scheme}
use Rattle.trgsw.specs.Parameters.{masks, hamming_weight}
use Rattle.selectors.specs.Calls.{encrypt_selector, encrypt_selector_block}
use Rattle.tables.specs.declared.Packing.TheVariants.{Horizontal}
use Rattle.tables.specs.declared.Visibility.TheVariants.{Hidden}
use Rattle.lookup.specs.Job.{Job}
use Rattle.instances.proofs.BlockInstance.{input}
use Rattle.instances.proofs.PackedInstance.{at_01, block_room_p, masks_q, sample_room_p}
use Rattle.instances.proofs.PackingInstances.{zeros}

-- ---- the key, and what is told of it

abbrev pub key_x : List ℕ
key_x = bytes (0 ∷ 1 ∷ [])

pub is_key_x : Key 2 1 key_x
unfolding words bytes ones
is_key_x = record {
  degree = record { power = refl; most = lit≤ tt };
  size = refl;
  bits = at_01 (λ i. get_or (words key_x) i 0 ≤ 1) (lit≤ tt) (le_refl 1);
}

pub weight_x : hamming_weight (words key_x) ≡ 1
unfolding hamming_weight words bytes
weight_x = refl

-- The weight that is declared: as many ones as the key has.
abbrev pub thin : ℕ
thin = 1

-- A call that declares the weight W.
abbrev pub scheme_of_weight : (W : ℕ) → Scheme
scheme_of_weight W = record { N = 2; g = 8; L = 2; W = W }

-- ---- a block that holds 1 within 1, with the errors 1, -1, -1, 1, 0, 1, -1, 0

abbrev pub errors_x : List ℕ
errors_x = bytes (1 ∷ 4294967295 ∷ 4294967295 ∷ 1 ∷ 0 ∷ 1 ∷ 4294967295 ∷ 0 ∷ [])

abbrev pub block_x : List ℕ
block_x = encrypt_selector_block (input 2 8 2 1 key_x masks_q errors_x block_room_p)

pub accepted_block : number (encrypt_selector (input 2 8 2 1 key_x masks_q errors_x block_room_p)) ≡ 0
unfolding masks encrypt_selector words bytes ones all_below
accepted_block = refl

pub bound_block : bound (encrypt_selector (input 2 8 2 1 key_x masks_q errors_x block_room_p)) ≡ 1
unfolding masks encrypt_selector words bytes ones all_below greatest_magnitude magnitude
bound_block = refl

-- ---- a table of two samples

-- Coefficient 1 of the second mask is that of the first and half a step of the gadget, 2^15, modulo 2^16. So is, with the other sign,
-- coefficient 0 of the bodies, which have 3 for error.
abbrev pub mask_c : List ℕ
mask_c = bytes (2654435769 ∷ 1013904223 ∷ [])

abbrev pub errors_c : List ℕ
errors_c = bytes (3 ∷ 4294967294 ∷ [])

abbrev pub mask_d : List ℕ
mask_d = bytes (1597334677 ∷ 530936671 ∷ [])

abbrev pub errors_d : List ℕ
errors_d = bytes (3 ∷ 4294967295 ∷ [])

abbrev pub sample_c : List ℕ
sample_c = encrypt_classes_sample 2 16 2 key_x mask_c errors_c (bytes (5 ∷ 9 ∷ [])) sample_room_p

abbrev pub sample_d : List ℕ
sample_d = encrypt_classes_sample 2 16 2 key_x mask_d errors_d (bytes (2 ∷ 14 ∷ [])) sample_room_p

abbrev pub table_cd : List ℕ
table_cd = sample_c ++ sample_d

abbrev pub classes_cd : List ℕ
classes_cd = bytes (5 ∷ 9 ∷ 2 ∷ 14 ∷ [])

table_cd_words : table_cd ≡ bytes (2654435769 ∷ 1013904223 ∷ 328273060 ∷ 775387575 ∷ 1597334677 ∷ 530936671 ∷ 5934244 ∷ 1060463764 ∷ [])
unfolding masks encrypt_classes_sample encrypt_classes after words bytes ones all_below greatest_magnitude magnitude
    encryption body tabulate masked sum product message encode
table_cd_words = refl

pub bytes_cd : AreBytes table_cd
bytes_cd = subst AreBytes (sym table_cd_words) (bytes_are _)

pub first_cd : chunk 16 0 table_cd ≡ sample_c
unfolding encrypt_classes_sample encrypt_classes after words bytes ones all_below greatest_magnitude magnitude
    encryption body tabulate masked sum product message encode
first_cd = refl

pub second_cd : chunk 16 1 table_cd ≡ sample_d
unfolding encrypt_classes_sample encrypt_classes after words bytes ones all_below greatest_magnitude magnitude
    encryption body tabulate masked sum product message encode
second_cd = refl

abbrev pub mask_cd : ℕ → List ℕ
mask_cd zero = mask_c
mask_cd (suc t) = mask_d

abbrev pub errors_cd : ℕ → List ℕ
errors_cd zero = errors_c
errors_cd (suc t) = errors_d

-- ---- the lookup: the selector holds 1, and names entry 1

abbrev pub job_of_weight : (W : ℕ) → Job
job_of_weight W = record {
  numbers = record { packing = Horizontal; visibility = Hidden; scheme = scheme_of_weight W; M = 16; s = 2; d = 1 };
  blocks = block_x;
  amplitudes = bytes (1 ∷ []);
  table = table_cd;
  entry_amplitudes = bytes (3 ∷ 3 ∷ []);
  sample = sample_room_p;
  work = zeros 8;
}

abbrev pub thin_job : Job
thin_job = job_of_weight thin
