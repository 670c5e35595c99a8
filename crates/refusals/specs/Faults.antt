-- What can be wrong with the arguments of a call, by the number that is returned for it. The numbers are those of document 01's table of
-- returned numbers and of later papers, and stand in no other file of the table of refusals.
-- Assumes nothing.
use Rattle.std.specs.Prelude.{List, [], ◌∷◌, ◌++◌, ℕ, ◌+◌, ◌-◌, ◌^◌, length, take, drop, map, replicate, flat_map}
use Rattle.torus.specs.Bytes.{bytes}
use Rattle.refusals.specs.Arguments.{Arguments}

-- The same arguments but for a few.
abbrev pub Change : Type 0
Change = Arguments → Arguments

-- A refusal: the number and the bound that are returned; the faults that it is for, each a change that makes arguments wrong whatever else is
-- wrong with them; and changes up to a limit, for which it is not.
pub record Refusal : Type 0 where
  pub number : ℕ
  pub bound : ℕ
  pub faults : List Change
  pub limits : List Change

-- Every refusal but 9 has the bound 0.
abbrev pub refused : (number : ℕ) (faults limits : List Change) → Refusal
refused number faults limits = record { number = number; bound = 0; faults = faults; limits = limits }

-- ---- numbers

-- "N is not a power of two from 1 to 1,024"
abbrev pub with_n : ℕ → Change
with_n N a = record a { N = N }

abbrev pub degree : Refusal
degree = refused 1 (map with_n (0 ∷ 3 ∷ 2048 ∷ [])) (map with_n (1 ∷ 1024 ∷ []))

-- "g not 1 to 16, L is 0, or g·L above 32"
abbrev pub with_gadget : (g L : ℕ) → Change
with_gadget g L a = record a { g = g; L = L }

abbrev pub gadget : Refusal
gadget = refused 2
    (with_gadget 0 2 ∷ with_gadget 17 1 ∷ with_gadget 8 0 ∷ with_gadget 11 3 ∷ [])
    (with_gadget 1 1 ∷ with_gadget 16 2 ∷ with_gadget 1 32 ∷ [])

-- "It refuses with 12, directly after 2, a W above N": just above it, and above every degree.
abbrev pub with_w : ℕ → Change
with_w W a = record a { W = W }

abbrev pub heavier : Change
heavier a = with_w (a.N + 1) a

abbrev pub heaviest : Change
heaviest a = with_w a.N a

abbrev pub weight : Refusal
weight = refused 12 (heavier ∷ with_w (2 ^ 32) ∷ []) (with_w 0 ∷ heaviest ∷ [])

-- What is told of a parameter set where there is a charge.
abbrev pub scheme : List Refusal
scheme = degree ∷ gadget ∷ weight ∷ []

-- "M not a power of two from 2 to 65,536"
abbrev pub with_m : ℕ → Change
with_m M a = record a { M = M }

abbrev pub class_number : Refusal
class_number = refused 3 (map with_m (0 ∷ 1 ∷ 3 ∷ 131072 ∷ [])) (map with_m (2 ∷ 65536 ∷ []))

-- "s is 0 or above N; d above 10; position p not below N"
abbrev pub with_s : ℕ → Change
with_s s a = record a { s = s }

abbrev pub with_d : ℕ → Change
with_d d a = record a { d = d }

abbrev pub many_classes : Change
many_classes a = with_s (a.N + 1) a

abbrev pub all_classes : Change
all_classes a = with_s a.N a

abbrev pub count : Refusal
count = refused 4 (with_s 0 ∷ many_classes ∷ []) (with_s 1 ∷ all_classes ∷ [])

abbrev pub horizontal : Refusal
horizontal = refused 4 (with_s 0 ∷ many_classes ∷ with_d 11 ∷ []) (with_s 1 ∷ all_classes ∷ with_d 0 ∷ with_d 10 ∷ [])

-- In the vertical packing "with 4 an s other than 1 or a d above 16".
abbrev pub vertical : Refusal
vertical = refused 4 (with_s 0 ∷ with_s 2 ∷ with_d 17 ∷ []) (with_s 1 ∷ with_d 0 ∷ with_d 16 ∷ [])

-- "A job file uses it when s is 1 and d is above 10": the vertical packing.
abbrev pub with_long : ℕ → Change
with_long d a = record a { s = 1; d = d }

abbrev pub of_file : Refusal
of_file = refused 4
    (with_s 0 ∷ many_classes ∷ with_d 11 ∷ with_long 17 ∷ [])
    (with_s 1 ∷ all_classes ∷ with_d 0 ∷ with_d 10 ∷ with_long 11 ∷ with_long 16 ∷ [])

abbrev pub with_position : ℕ → Change
with_position p a = record a { position = p }

abbrev pub past_end : Change
past_end a = with_position a.N a

abbrev pub last_position : Change
last_position a = with_position (a.N - 1) a

-- Just past the end, and past that of every degree.
abbrev pub position : Refusal
position = refused 4 (past_end ∷ with_position 65536 ∷ []) (with_position 0 ∷ last_position ∷ [])

-- ---- slices

-- A slice among the arguments, as the way to change it.
abbrev pub Slice : Type 0
Slice = (List ℕ → List ℕ) → Change

abbrev pub key : Slice
key f a = record a { key = f a.key }

abbrev pub masks : Slice
masks f a = record a { masks = f a.masks }

abbrev pub errors : Slice
errors f a = record a { errors = f a.errors }

abbrev pub classes : Slice
classes f a = record a { classes = f a.classes }

abbrev pub sample : Slice
sample f a = record a { sample = f a.sample }

abbrev pub sample₁ : Slice
sample₁ f a = record a { sample₁ = f a.sample₁ }

abbrev pub scalar : Slice
scalar f a = record a { scalar = f a.scalar }

abbrev pub out : Slice
out f a = record a { out = f a.out }

abbrev pub blocks : Slice
blocks f a = record a { blocks = f a.blocks }

abbrev pub amplitudes : Slice
amplitudes f a = record a { amplitudes = f a.amplitudes }

abbrev pub samples : Slice
samples f a = record a { samples = f a.samples }

abbrev pub entry_amplitudes : Slice
entry_amplitudes f a = record a { entry_amplitudes = f a.entry_amplitudes }

abbrev pub work : Slice
work f a = record a { work = f a.work }

-- A byte more, and a byte less. Neither touches the first of two words, so that a fault of that word stays.
abbrev pub longer : List ℕ → List ℕ
longer slice = slice ++ 0 ∷ []

abbrev pub shorter : List ℕ → List ℕ
shorter slice = take (length slice - 1) slice

-- "a slice's length differs from the exact one"
abbrev pub lengths : List Slice → Refusal
lengths slices = refused 5 (flat_map (λ (slice : Slice). slice longer ∷ slice shorter ∷ []) slices) []

-- ---- what is declared, and what is in the slices

-- Another first word.
abbrev pub beginning : (w : ℕ) (slice : List ℕ) → List ℕ
beginning w slice = bytes (w ∷ []) ++ drop 4 slice

-- "a declared amplitude above 2^31"
abbrev pub amplitude : List (ℕ → Change) → Refusal
amplitude declared = refused 6
    (map (λ (declare : ℕ → Change). declare (2 ^ 31 + 1)) declared)
    (map (λ (declare : ℕ → Change). declare (2 ^ 31)) declared)

abbrev pub of_block : ℕ → Change
of_block A a = record a { amplitude = A }

abbrev pub of_sample : ℕ → Change
of_sample A a = record a { amplitude₀ = A }

abbrev pub of_sample₁ : ℕ → Change
of_sample₁ A a = record a { amplitude₁ = A }

abbrev pub of_selector : ℕ → Change
of_selector A = amplitudes (beginning A)

abbrev pub of_entry : ℕ → Change
of_entry A = entry_amplitudes (beginning A)

-- "a class not below M, or a selector bit above 1"
abbrev pub class : Refusal
class = refused 7 ((λ a. classes (beginning a.M) a) ∷ []) ((λ a. classes (beginning (a.M - 1)) a) ∷ [])

abbrev pub with_bit : ℕ → Change
with_bit bit a = record a { bit = bit }

abbrev pub bit : Refusal
bit = refused 7 (with_bit 2 ∷ []) (map with_bit (0 ∷ 1 ∷ []))

-- "a key word above 1"
abbrev pub with_key_word : ℕ → Change
with_key_word w = key (beginning w)

abbrev pub key_word : Refusal
key_word = refused 8 (with_key_word 2 ∷ []) (map with_key_word (0 ∷ 1 ∷ []))

-- "the bound is 2^31/M or more". The bound is told.
abbrev pub noise : (bound : ℕ) (faults limits : List Change) → Refusal
noise bound faults limits = record { number = 9; bound = bound; faults = faults; limits = limits }

-- ---- job files

-- "A file under 28 or over 65,536 bytes, of a length not divisible by four, or whose first word is not 5 answers 5 before anything else."
abbrev pub damaged : (damage : List ℕ → List ℕ) → Change
damaged damage a = record a { damage = damage }

abbrev pub with_first : ℕ → Change
with_first w a = record a { first = w }

abbrev pub file_beginning : Refusal
file_beginning = refused 5
    (damaged (take 24) ∷ damaged (λ file. file ++ replicate 65536 0) ∷ damaged longer ∷ with_first 4 ∷ [])
    []

-- "then 5 for any other wrong length or section three count"
abbrev pub with_more : Change
with_more a = record a { count = a.count + 1 }

abbrev pub sections : Refusal
sections = refused 5
    (damaged (λ file. file ++ bytes (0 ∷ [])) ∷ damaged (λ file. take (length file - 4) file) ∷ with_more ∷ [])
    []
