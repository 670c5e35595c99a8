-- Instances that meet every premise of the accuracy rule: job J of document 01, and a lookup whose blocks are encrypted with errors that
-- are not 0. And document 01's cases of bounds at the limit. What they say of the calls is computed.
-- Assumes nothing.
use mathlib.Core.Path.{◌≡◌, refl, sym, subst}
use mathlib.Core.List.{List, [], ◌∷◌, ◌++◌}
use Prim.Native.Nat.{ℕ, zero, suc, ◌*◌, ◌/◌, ◌^◌, ◌≤◌, ◌<◌}
use native.Mathlib.Nat.{le_refl}
use native.Mathlib.Omega.{arith}
use lib.Count.{ones}
use lib.Dec.{lit<, lit≤}
use lib.ListN.{get_or}
use Rattle.torus.specs.Sum.{sum, tabulate, joined}
use Rattle.torus.specs.Word.{magnitude, distance}
use Rattle.torus.specs.Bytes.{words, bytes}
use Rattle.torus.proofs.Parts.{bytes_are}
use Rattle.gadget.specs.Digits.{precision, rounded, digit}
use Rattle.ring.specs.Polynomial.{product, rotated}
use Rattle.answers.specs.Answers.{number, bound, gates, greatest_magnitude, after}
use Rattle.answers.specs.Checks.{all_below}
use Rattle.trlwe.specs.Classes.{encode, message}
use Rattle.trlwe.specs.Sample.{polynomials, masked, phase, body, encryption, trivial}
use Rattle.trlwe.specs.Calls.{decrypt_classes, decrypt_classes_classes}
use Rattle.trgsw.specs.Parameters as Parameters
use Rattle.trgsw.specs.Block.{Holds}
use Rattle.selectors.specs.Encrypted.{encrypted_row, encrypted_block}
use Rattle.trgsw.specs.External.{external, difference, cmux_sample, charge}
use Rattle.trgsw.specs.External as External
use Rattle.trgsw.specs.declared.Parameters.{Parameters}
use Rattle.selectors.specs.Calls.{encrypt_selector, encrypt_selector_block}
use Rattle.selectors.proofs.SelectorNoise.{selector_holds}
use Rattle.instances.proofs.BlockInstance.{set_j, input, at_0, sample_room, key_j, block_j, keyed_j, holds_j, masks_e, block_room, block_e, holds_e}
use Rattle.trees.specs.Tree.{tree, entry_number}
use Rattle.tables.specs.declared.Packing.TheVariants.{Horizontal}
use Rattle.tables.specs.declared.Visibility.TheVariants.{Public}
use Rattle.tables.specs.declared.Numbers.{Numbers}
use Rattle.trgsw.specs.Parameters.{masks, parameters}
use Rattle.tables.specs.Numbers.{rotations}
use Rattle.trees.specs.LookedUp.{selector, tree_sample, blind_rotation, looked_up, largest, charges}
use Rattle.lookup.specs.Job.{Job, declaring}
use Rattle.lookup.specs.Calls.{lookup, lookup_sample}
use Rattle.accuracy.proofs.Accuracy.{accuracy_public}

-- A slice for one class.
abbrev pub class_room : List ℕ
class_room = bytes (0 ∷ [])

-- ---- job J

-- Its amplitude and its classes, and a work slice.
abbrev pub amplitudes_j : List ℕ
amplitudes_j = bytes (7 ∷ [])

abbrev pub classes_j : List ℕ
classes_j = bytes (3 ∷ 8 ∷ [])

abbrev pub work_j : List ℕ
work_j = bytes (0 ∷ 0 ∷ 0 ∷ 0 ∷ [])

abbrev pub numbers_j : Numbers
numbers_j = record { packing = Horizontal; visibility = Public; scheme = Parameters.scheme_of 1 16 2; M = 16; s = 1; d = 1 }

abbrev pub job_j : Job
job_j = record { numbers = numbers_j; blocks = block_j; amplitudes = amplitudes_j; table = classes_j; entry_amplitudes = []; sample = sample_room; work = work_j }

-- The lookup is accepted, with the document's bound and gates.
pub job_accepted : number (lookup job_j) ≡ 0
unfolding masks rotations lookup charges largest sum External.charge precision words bytes ones all_below
job_accepted = refl

pub job_bound : bound (lookup job_j) ≡ 917504
unfolding masks rotations lookup charges largest sum External.charge precision words bytes ones all_below
job_bound = refl

pub job_gates : gates (lookup job_j) ≡ 1
unfolding masks rotations lookup charges largest sum External.charge precision words bytes ones all_below
job_gates = refl

-- "mask 0 0", "body 0 2147483648"
pub job_result : words (lookup_sample job_j) ≡ 0 ∷ 2147483648 ∷ []
unfolding lookup_sample masks rotations lookup after charges largest sum External.charge precision words bytes ones all_below
    looked_up blind_rotation tree_sample tree trivial message encode cmux_sample polynomials joined tabulate external difference product digit rounded
job_result = refl

-- The block holds 1 within the amplitude, as the rule's premise has it.
job_holds : (i : ℕ) → i < 1 → Holds set_j 1 (get_or (words amplitudes_j) i 0) (words key_j) (selector (parameters numbers_j.scheme) i (words block_j))
unfolding masks words bytes
job_holds = at_0 (λ i. Holds set_j 1 (get_or (words amplitudes_j) i 0) (words key_j) (selector (parameters numbers_j.scheme) i (words block_j))) holds_j

-- The rule applies: the phase is within the bound of what entry 1 says, and decryption gives its class.
pub job_rule :
    (distance (phase 1 1 (words key_j) (words (lookup_sample job_j)) 0) (8 * 2 ^ 28) ≤ 917504)
    × (number (decrypt_classes 1 16 1 key_j (lookup_sample job_j) class_room) ≡ 0)
    × (decrypt_classes_classes 1 16 1 key_j (lookup_sample job_j) class_room ≡ bytes (8 ∷ []))
unfolding masks rotations words bytes entry_number sum message encode rotated
job_rule =
    let rule = accuracy_public job_j job_accepted refl (λ i. 1) key_j class_room
    (record { key_fits = keyed_j; bit = λ i l. le_refl 1; holds = job_holds; out_length = refl }) in (
      subst (λ b.
          distance (phase 1 1 (words key_j) (words (lookup_sample job_j)) 0) (8 * 2 ^ 28) ≤ b)
          job_bound (rule.within 0 (lit< tt)),
      rule.decrypts,
      rule.lists,
    )

-- ---- two selectors with noise

-- The errors -2, 3, 1, -1.
abbrev pub errors_f : List ℕ
errors_f = bytes (4294967294 ∷ 3 ∷ 1 ∷ 4294967295 ∷ [])

-- A block that encrypts 0 with them.
abbrev pub block_f : List ℕ
block_f = encrypt_selector_block (input 1 16 2 0 key_j masks_e errors_f block_room)

pub accepted_f : number (encrypt_selector (input 1 16 2 0 key_j masks_e errors_f block_room)) ≡ 0
unfolding masks encrypt_selector words bytes ones all_below
accepted_f = refl

pub bound_f : bound (encrypt_selector (input 1 16 2 0 key_j masks_e errors_f block_room)) ≡ 3
unfolding masks encrypt_selector words bytes ones all_below greatest_magnitude magnitude
bound_f = refl

-- It holds 0 within 3, by the theorem.
pub holds_f : Holds set_j 0 3 (words key_j) (words block_f)
holds_f = subst (λ b. Holds set_j 0 b (words key_j) (words block_f)) bound_f
    (selector_holds (input 1 16 2 0 key_j masks_e errors_f block_room) accepted_f (bytes_are (4294967294 ∷ 3 ∷ 1 ∷ 4294967295 ∷ [])))

-- Selector 0 holds 0, and selector 1 holds 1: they name entry 2.
abbrev pub blocks_fe : List ℕ
blocks_fe = block_f ++ block_e

abbrev pub bits_fe : ℕ → ℕ
bits_fe i = get_or (0 ∷ 1 ∷ []) i 0

abbrev pub amplitudes_fe : List ℕ
amplitudes_fe = bytes (3 ∷ 3 ∷ [])

abbrev pub classes_fe : List ℕ
classes_fe = bytes (5 ∷ 9 ∷ 12 ∷ 3 ∷ [])

abbrev pub work_fe : List ℕ
work_fe = bytes (0 ∷ 0 ∷ 0 ∷ 0 ∷ 0 ∷ 0 ∷ [])

abbrev pub numbers_fe : Numbers
numbers_fe = record { packing = Horizontal; visibility = Public; scheme = Parameters.scheme_of 1 16 2; M = 16; s = 1; d = 2 }

abbrev pub job_fe : Job
job_fe = record { numbers = numbers_fe; blocks = blocks_fe; amplitudes = amplitudes_fe; table = classes_fe; entry_amplitudes = []; sample = sample_room; work = work_fe }

-- The lookup is accepted, with the sum of two charges and three gates.
pub accepted_fe : number (lookup job_fe) ≡ 0
unfolding encrypt_selector_block encrypt_selector masks rotations lookup after charges largest External.charge precision words bytes ones all_below
    encrypted_block encrypted_row encryption body joined tabulate masked sum product
accepted_fe = refl

pub bound_fe : bound (lookup job_fe) ≡ 786432
unfolding encrypt_selector_block encrypt_selector masks rotations lookup after charges largest External.charge precision words bytes ones all_below
    encrypted_block encrypted_row encryption body joined tabulate masked sum product
bound_fe = refl

pub gates_fe : gates (lookup job_fe) ≡ 3
unfolding encrypt_selector_block encrypt_selector masks rotations lookup after charges largest External.charge precision words bytes ones all_below
    encrypted_block encrypted_row encryption body joined tabulate masked sum product
gates_fe = refl

-- Each block is the one that was made,
selector_0 : selector (parameters numbers_fe.scheme) 0 (words blocks_fe) ≡ words block_f
unfolding masks encrypt_selector_block encrypt_selector after words bytes ones all_below
    encrypted_block encrypted_row encryption body joined tabulate masked sum product
selector_0 = refl

selector_1 : selector (parameters numbers_fe.scheme) 1 (words blocks_fe) ≡ words block_e
unfolding masks encrypt_selector_block encrypt_selector after words bytes ones all_below
    encrypted_block encrypted_row encryption body joined tabulate masked sum product
selector_1 = refl

-- so it holds its bit within its amplitude.
blocks_fe_hold : (i : ℕ) → i < 2 → Holds set_j (bits_fe i) (get_or (words amplitudes_fe) i 0) (words key_j) (selector (parameters numbers_fe.scheme) i (words blocks_fe))
unfolding masks words bytes
blocks_fe_hold zero l = subst (λ block. Holds set_j 0 3 (words key_j) block) (sym selector_0) holds_f
blocks_fe_hold (suc zero) l = subst (λ block. Holds set_j 1 3 (words key_j) block) (sym selector_1) holds_e
blocks_fe_hold (suc (suc i)) l = absurd (omega arith)

bits_fe_fit : (i : ℕ) → i < 2 → bits_fe i ≤ 1
bits_fe_fit zero l = lit≤ tt
bits_fe_fit (suc zero) l = lit≤ tt
bits_fe_fit (suc (suc i)) l = absurd (omega arith)

-- The rule applies: the phase is within the bound of what entry 2 says, and decryption gives its class.
pub rule_fe :
    (distance (phase 1 1 (words key_j) (words (lookup_sample job_fe)) 0) (12 * 2 ^ 28) ≤ 786432)
    × (number (decrypt_classes 1 16 1 key_j (lookup_sample job_fe) class_room) ≡ 0)
    × (decrypt_classes_classes 1 16 1 key_j (lookup_sample job_fe) class_room ≡ bytes (12 ∷ []))
unfolding masks rotations words bytes entry_number sum message encode rotated
rule_fe =
    let rule = accuracy_public job_fe accepted_fe refl bits_fe key_j class_room
    (record { key_fits = keyed_j; bit = bits_fe_fit; holds = blocks_fe_hold; out_length = refl }) in (
      subst (λ b.
          distance (phase 1 1 (words key_j) (words (lookup_sample job_fe)) 0) (12 * 2 ^ 28) ≤ b)
          bound_fe (rule.within 0 (lit< tt)),
      rule.decrypts,
      rule.lists,
    )

-- Its mask is not 0, and neither is its noise.
pub result_fe : words (lookup_sample job_fe) ≡ 2654608328 ∷ 1580875556 ∷ []
unfolding encrypt_selector_block encrypt_selector lookup_sample masks rotations lookup after charges largest External.charge precision words bytes ones all_below
    encrypted_block encrypted_row encryption body joined tabulate masked sum product
    looked_up blind_rotation tree_sample tree trivial message encode cmux_sample polynomials external difference digit rounded
result_fe = refl

pub noise_fe :
    distance (phase 1 1 (words key_j) (words (lookup_sample job_fe)) 0) (12 * 2 ^ 28) ≡ 9052
unfolding encrypt_selector_block encrypt_selector lookup_sample masks rotations lookup after charges largest External.charge precision words bytes ones all_below
    encrypted_block encrypted_row encryption body joined tabulate masked sum product
    looked_up blind_rotation tree_sample tree trivial message encode cmux_sample polynomials external difference digit rounded phase magnitude
noise_fe = refl

-- ---- at the limit

-- Job J with amplitude A.
abbrev pub limit_j : (A : ℕ) → Job
limit_j A = declaring job_j (bytes (A ∷ []))

-- The parameter set of the document's last case: N = 1,024, g = 8, L = 2.
abbrev pub large : Parameters
large = record { N = 1024; k = 1; g = 8; L = 2; W = 1024 }

-- "Job J with amplitude 1023 has bound 134086656, accepted".
pub accepted_1023 : number (lookup (limit_j 1023)) ≡ 0
unfolding masks rotations lookup charges largest sum External.charge precision words bytes ones all_below
accepted_1023 = refl

pub bound_1023 : bound (lookup (limit_j 1023)) ≡ 134086656
unfolding masks rotations lookup charges largest sum External.charge precision words bytes ones all_below
bound_1023 = refl

-- "with 1024, 134217728, answer 9"
pub refused_1024 : number (lookup (limit_j 1024)) ≡ 9
unfolding masks rotations lookup charges largest sum External.charge precision words bytes ones all_below
refused_1024 = refl

pub bound_1024 : bound (lookup (limit_j 1024)) ≡ 134217728
unfolding masks rotations lookup charges largest sum External.charge precision words bytes ones all_below
bound_1024 = refl

-- "With N = 1,024, g = 8, L = 2, amplitude 1 and M = 16 a charge is 34111488".
pub charge_1024 : charge large 1 ≡ 34111488
unfolding External.charge precision
charge_1024 = refl

-- "three selectors are accepted, four get 9": the charges of three are below the limit, and those of four are not.
pub three_quiet : charges large (1 ∷ 1 ∷ 1 ∷ []) 3 < 2 ^ 31 / 16
unfolding charges largest sum External.charge precision
three_quiet = lit< tt

pub four_noisy : 2 ^ 31 / 16 ≤ charges large (1 ∷ 1 ∷ 1 ∷ 1 ∷ []) 4
unfolding charges largest sum External.charge precision
four_noisy = lit≤ tt
