-- Instances that meet every premise of the theorems on the calls: job J of document 01, and a block whose errors are not 0. What
-- they say of the calls is computed.
-- Assumes nothing.
use mathlib.Core.Path.{◌≡◌, refl, subst}
use mathlib.Core.List.{List, [], ◌∷◌}
use Prim.Native.Nat.{ℕ, zero, suc, ◌+◌, ◌*◌, ◌^◌, ◌≤◌, ◌<◌}
use native.Mathlib.Nat.{le_trans, le_refl}
use native.Mathlib.Omega.{arith}
use lib.Count.{ones}
use lib.Dec.{lit<, lit≤}
use lib.ListN.{get_or}
use Rattle.torus.specs.Sum.{sum, tabulate, joined}
use Rattle.torus.specs.Word.{mul, magnitude, distance}
use Rattle.torus.specs.Bytes.{words, bytes}
use Rattle.torus.proofs.Parts.{bytes_are}
use Rattle.gadget.specs.Digits.{precision, rounded, digit}
use Rattle.ring.specs.Polynomial.{product}
use Rattle.answers.specs.Answers.{number, bound, gates, greatest_magnitude, after}
use Rattle.answers.specs.Checks.{all_below}
use Rattle.trlwe.specs.Sample.{Key, polynomials, masked, phase, body, encryption}
use Rattle.trgsw.specs.Parameters as Parameters
use Rattle.trgsw.specs.declared.Parameters.{Parameters}
use Rattle.trgsw.specs.declared.Scheme.{Scheme}
use Rattle.trgsw.specs.Parameters.{SchemeKey, masks, parameters}
use Rattle.trgsw.specs.Block.{row, row_phase, Holds}
use Rattle.trgsw.specs.External.{external, difference, cmux_sample, charge}
use Rattle.selectors.specs.Encrypted.{encrypted_row, encrypted_block}
use Rattle.selectors.specs.Calls.{SelectorInput, encrypt_selector, encrypt_selector_block}
use Rattle.selectors.proofs.SelectorNoise.{selector_holds}
use Rattle.gates.specs.Calls.{ProductInput, external_product, external_product_out, CMuxInput, cmux, cmux_out}
use Rattle.trgsw.proofs.Told.{every_key}
use Rattle.gates.proofs.CallNoise.{external_product_within, cmux_call_within}

-- With N = 1 there is one coefficient.
pub at_0 : (P : ℕ → Type 0) → P 0 → (i : ℕ) → i < 1 → P i
at_0 P p zero l = p
at_0 P p (suc i) l = absurd (omega arith)

-- A slice for a sample, all 0.
abbrev pub sample_room : List ℕ
sample_room = bytes (0 ∷ 0 ∷ [])

-- ---- job J

-- The key is the word 1.
abbrev pub key_j : List ℕ
key_j = bytes (1 ∷ [])

-- The block of document 01.
abbrev pub block_j : List ℕ
block_j = bytes (65536 ∷ 0 ∷ 1 ∷ 0 ∷ 0 ∷ 65536 ∷ 0 ∷ 1 ∷ [])

-- Its entries, which are trivial samples.
abbrev pub entry₀ : List ℕ
entry₀ = bytes (0 ∷ 3 * 2 ^ 28 ∷ [])

abbrev pub entry₁ : List ℕ
entry₁ = bytes (0 ∷ 8 * 2 ^ 28 ∷ [])

-- What the calls are told, and the parameter set: one mask, g = 16 and L = 2.
abbrev pub scheme_j : Scheme
scheme_j = Parameters.scheme_of 1 16 2

abbrev pub set_j : Parameters
set_j = parameters scheme_j

-- The CMux of the entries by the block, which declares the amplitude 7.
abbrev pub gate_j : CMuxInput
gate_j = record { scheme = scheme_j; amplitude = 7; amplitude₀ = 0; amplitude₁ = 0; block = block_j; sample₀ = entry₀; sample₁ = entry₁; out = sample_room }

-- The key is lawful.
pub is_key_j : Key 1 1 key_j
unfolding masks words bytes ones
is_key_j = record { degree = record { power = refl; most = lit≤ tt }; size = refl; bits = at_0 (λ i. get_or (words key_j) i 0 ≤ 1) (le_refl 1) }

-- So it is one of such a call, whose W is N.
pub keyed_j : SchemeKey scheme_j key_j
unfolding masks
keyed_j = every_key scheme_j key_j (le_refl 1) is_key_j

-- The block has no noise at all.
rows_j : (r : ℕ) → r < 4 → distance (phase 1 1 (words key_j) (row set_j r (words block_j)) 0) (row_phase set_j 1 (words key_j) r 0) ≤ 0
unfolding masks words bytes phase masked sum product row_phase magnitude
rows_j zero l = lit≤ tt
rows_j (suc zero) l = lit≤ tt
rows_j (suc (suc zero)) l = lit≤ tt
rows_j (suc (suc (suc zero))) l = lit≤ tt
rows_j (suc (suc (suc (suc r)))) l = absurd (omega arith)

-- It holds 1 within 0.
pub exact_j : Holds set_j 1 0 (words key_j) (words block_j)
unfolding masks
exact_j r i lr li =
    at_0 (λ j. distance (phase 1 1 (words key_j) (row set_j r (words block_j)) j) (row_phase set_j 1 (words key_j) r j) ≤ 0) (rows_j r lr) i li

-- So it holds 1 within the declared amplitude.
pub holds_j : Holds set_j 1 7 (words key_j) (words block_j)
holds_j r i lr li = le_trans (exact_j r i lr li) (lit≤ tt)

-- The call is accepted, with the document's bound and gates.
pub accepted_j : number (cmux gate_j) ≡ 0
unfolding masks cmux charge precision bytes ones
accepted_j = refl

pub bound_j : bound (cmux gate_j) ≡ 917504
unfolding masks cmux charge precision bytes ones
bound_j = refl

pub gates_j : gates (cmux gate_j) ≡ 1
unfolding masks cmux charge precision bytes ones
gates_j = refl

-- The result is entry 1.
pub result_j : words (cmux_out gate_j) ≡ 0 ∷ 2147483648 ∷ []
unfolding masks cmux_out cmux after charge precision words bytes ones
    cmux_sample polynomials joined tabulate external difference sum product digit rounded
result_j = refl

-- The theorem applies: the phase is within the bound of what entry 1 says.
pub within_j : distance (phase 1 1 (words key_j) (words (cmux_out gate_j)) 0) (8 * 2 ^ 28) ≤ 917504
unfolding masks words bytes phase masked sum product magnitude
within_j =
    subst (λ b. distance (phase 1 1 (words key_j) (words (cmux_out gate_j)) 0) (8 * 2 ^ 28) ≤ b) bound_j
    (cmux_call_within gate_j accepted_j 1 key_j (record { key_fits = keyed_j; bit = le_refl 1; holds = holds_j }) (bytes_are (0 ∷ 3 * 2 ^ 28 ∷ []))
    (λ i. 3 * 2 ^ 28) (λ i. 8 * 2 ^ 28) (λ i l. lit< tt) (λ i l. lit< tt)
    (at_0 (λ i. distance (phase 1 1 (words key_j) (words entry₀) i) (3 * 2 ^ 28) ≤ 0) (lit≤ tt))
    (at_0 (λ i. distance (phase 1 1 (words key_j) (words entry₁) i) (8 * 2 ^ 28) ≤ 0) (lit≤ tt)) 0 (lit< tt))

-- ---- a block with noise, and a sample with noise

-- The masks of four rows.
abbrev pub masks_e : List ℕ
masks_e = bytes (5 ∷ 4294967291 ∷ 123456789 ∷ 4000000000 ∷ [])

-- The errors 1, -3, 2, 0.
abbrev pub errors_e : List ℕ
errors_e = bytes (1 ∷ 4294967293 ∷ 2 ∷ 0 ∷ [])

-- A slice for a block, all 0.
abbrev pub block_room : List ℕ
block_room = bytes (0 ∷ 0 ∷ 0 ∷ 0 ∷ 0 ∷ 0 ∷ 0 ∷ 0 ∷ [])

-- The input of an encryption of a bit.
abbrev pub input : (N g L bit : ℕ) (key masks_of errors room : List ℕ) → SelectorInput
input N g L bit key masks_of errors room = record { N = N; g = g; L = L; bit = bit; key = key; masks = masks_of; errors = errors; block = room }

abbrev pub input_e : SelectorInput
input_e = input 1 16 2 1 key_j masks_e errors_e block_room

-- The block that the call leaves.
abbrev pub block_e : List ℕ
block_e = encrypt_selector_block input_e

-- The call is accepted, and reports the greatest magnitude.
pub accepted_e : number (encrypt_selector input_e) ≡ 0
unfolding masks encrypt_selector words bytes ones all_below
accepted_e = refl

pub bound_e : bound (encrypt_selector input_e) ≡ 3
unfolding masks encrypt_selector words bytes ones all_below greatest_magnitude magnitude
bound_e = refl

-- The block holds 1 within 3, by the theorem,
pub holds_e : Holds set_j 1 3 (words key_j) (words block_e)
holds_e = subst (λ b. Holds set_j 1 b (words key_j) (words block_e)) bound_e
    (selector_holds input_e accepted_e (bytes_are (1 ∷ 4294967293 ∷ 2 ∷ 0 ∷ [])))

-- and not within 2: its row 1 has the error -3.
pub noise_e : distance (phase 1 1 (words key_j) (row set_j 1 (words block_e)) 0) (row_phase set_j 1 (words key_j) 1 0) ≡ 3
unfolding masks encrypt_selector_block encrypt_selector after words bytes ones all_below encrypted_block encrypted_row encryption body joined tabulate
    phase masked sum product row_phase magnitude
noise_e = refl

-- A sample with the mask 7 and the phase 5·2^28 + 2.
abbrev pub sample_e : List ℕ
sample_e = bytes (7 ∷ (5 * 2 ^ 28 + 9) ∷ [])

-- The external product of the block with the sample, with the amplitudes 3 and 2, is accepted.
abbrev pub product_e : ProductInput
product_e = record { scheme = scheme_j; amplitude = 3; sample_amplitude = 2; block = block_e; sample = sample_e; out = sample_room }

pub product_accepted_e : number (external_product product_e) ≡ 0
unfolding masks encrypt_selector_block encrypt_selector external_product after charge precision words bytes ones all_below
    encrypted_block encrypted_row encryption body joined tabulate masked sum product
product_accepted_e = refl

pub product_bound_e : bound (external_product product_e) ≡ 393218
unfolding masks encrypt_selector_block encrypt_selector external_product after charge precision words bytes ones all_below
    encrypted_block encrypted_row encryption body joined tabulate masked sum product
product_bound_e = refl

-- The external product with it is within its bound of 5·2^28, by the theorem.
pub product_within_e : distance (phase 1 1 (words key_j) (words (external_product_out product_e)) 0) (mul 1 (5 * 2 ^ 28)) ≤ 393218
unfolding masks words bytes phase masked sum product magnitude
product_within_e =
    subst (λ b. distance (phase 1 1 (words key_j) (words (external_product_out product_e)) 0) (mul 1 (5 * 2 ^ 28)) ≤ b) product_bound_e
    (external_product_within product_e product_accepted_e 1 key_j (record { key_fits = keyed_j; bit = le_refl 1; holds = holds_e }) (λ i. 5 * 2 ^ 28)
    (λ i l. lit< tt) (at_0 (λ i. distance (phase 1 1 (words key_j) (words sample_e) i) (5 * 2 ^ 28) ≤ 2) (lit≤ tt)) 0 (lit< tt))
