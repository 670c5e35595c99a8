-- The table of refusals, call by call. Bounds and gates are those of the documents, worked out by hand. The theorems are `refusals` and
-- `limits`, in the proofs.
-- Assumes nothing.
use Rattle.std.specs.Prelude.{List, [], ◌∷◌, ◌++◌, ℕ, ◌^◌, map, replicate, flat_map}
use Rattle.torus.specs.Bytes.{bytes}
use Rattle.tables.specs.declared.Packing.TheVariants.{Horizontal, Vertical}
use Rattle.refusals.specs.Arguments.{Arguments}
use Rattle.refusals.specs.Definitions as Definition
use Rattle.refusals.specs.Faults as Fault
use Rattle.refusals.specs.Rows.{Row, Limit, Call, call_rows, call_limits}

-- n words 0, as bytes.
abbrev pub zeros : ℕ → List ℕ
zeros n = bytes (replicate n 0)

-- Arguments that most calls accept; the others change a few. g·L is 32, so that E is 0; and 2^31/M, at which 9 begins, is 134217728.
abbrev pub base : Arguments
base = record {
  N = 2;
  g = 16;
  L = 2;
  W = 1;
  M = 16;
  s = 2;
  d = 2;
  position = 1;
  bit = 1;
  amplitude = 3;
  amplitude₀ = 5;
  amplitude₁ = 2 ^ 31;
  key = bytes (1 ∷ 0 ∷ []);
  masks = zeros 2;
  errors = bytes (134217727 ∷ 4294967295 ∷ []);
  classes = bytes (15 ∷ 0 ∷ []);
  sample = zeros 4;
  sample₁ = zeros 4;
  scalar = zeros 3;
  out = zeros 4;
  blocks = zeros 16;
  amplitudes = bytes (255 ∷ 256 ∷ []);
  samples = [];
  entry_amplitudes = [];
  work = zeros 12;
  first = 5;
  count = 4;
  damage = λ file. file;
}

-- ---- samples

-- "It reports the greatest error magnitude as bound." 4160749568 reads as -134217728.
abbrev pub error : ℕ → Fault.Change
error w = Fault.errors (Fault.beginning w)

abbrev pub encrypt_classes : Call
encrypt_classes = record {
  answer = Definition.encrypt_classes;
  good = base;
  bound = 134217727;
  gates = 0;
  refusals =
      Fault.degree
      ∷ Fault.class_number
      ∷ Fault.count
      ∷ Fault.lengths (Fault.key ∷ Fault.masks ∷ Fault.errors ∷ Fault.classes ∷ Fault.sample ∷ [])
      ∷ Fault.class
      ∷ Fault.key_word
      ∷ Fault.noise 134217728 (map error (134217728 ∷ 4160749568 ∷ [])) (map error (134217727 ∷ 4160749569 ∷ []))
      ∷ [];
}

abbrev pub decrypt_classes : Call
decrypt_classes = record {
  answer = Definition.decrypt_classes;
  good = base;
  bound = 0;
  gates = 0;
  refusals =
      Fault.degree
      ∷ Fault.class_number
      ∷ Fault.count
      ∷ Fault.lengths (Fault.key ∷ Fault.sample ∷ Fault.classes ∷ [])
      ∷ Fault.key_word
      ∷ [];
}

abbrev pub decrypt_scalar : Call
decrypt_scalar = record {
  answer = Definition.decrypt_scalar;
  good = record base { classes = zeros 1 };
  bound = 0;
  gates = 0;
  refusals =
      Fault.degree
      ∷ Fault.class_number
      ∷ Fault.lengths (Fault.key ∷ Fault.scalar ∷ Fault.classes ∷ [])
      ∷ Fault.key_word
      ∷ [];
}

abbrev pub extract : Call
extract = record {
  answer = Definition.extract;
  good = base;
  bound = 0;
  gates = 0;
  refusals =
      Fault.degree
      ∷ Fault.position
      ∷ Fault.lengths (Fault.sample ∷ Fault.scalar ∷ [])
      ∷ [];
}

-- ---- blocks

-- The greatest error magnitude, which may be any: "Refusal 9 comes in no other call."
abbrev pub encrypt_selector : Call
encrypt_selector = record {
  answer = Definition.encrypt_selector;
  good = record base { masks = zeros 8; errors = bytes (1 ∷ 2147483648 ∷ replicate 6 0) };
  bound = 2147483648;
  gates = 0;
  refusals =
      Fault.degree
      ∷ Fault.gadget
      ∷ Fault.lengths (Fault.key ∷ Fault.masks ∷ Fault.errors ∷ Fault.blocks ∷ [])
      ∷ Fault.bit
      ∷ Fault.key_word
      ∷ [];
}

-- With g = 8 the charge is 2·2·2·2^7·3 + (1 + 1)·2^15 = 68608. "The external product reports the charge plus the input's declared
-- amplitude."
abbrev pub external_product : Call
external_product = record {
  answer = Definition.external_product;
  good = record base { g = 8 };
  bound = 68613;
  gates = 0;
  refusals =
      Fault.scheme
      ++ Fault.lengths (Fault.blocks ∷ Fault.sample ∷ Fault.out ∷ [])
      ∷ Fault.amplitude (Fault.of_block ∷ Fault.of_sample ∷ [])
      ∷ [];
}

-- "The gate reports max(A0, A1) of the declared amplitudes plus its charge, and 1 as gates." 2^31 is no amplitude above 2^31.
abbrev pub cmux : Call
cmux = record {
  answer = Definition.cmux;
  good = record base { g = 8 };
  bound = 2147552256;
  gates = 1;
  refusals =
      Fault.scheme
      ++ Fault.lengths (Fault.blocks ∷ Fault.sample ∷ Fault.sample₁ ∷ Fault.out ∷ [])
      ∷ Fault.amplitude (Fault.of_block ∷ Fault.of_sample ∷ Fault.of_sample₁ ∷ [])
      ∷ [];
}

-- ---- lookups

-- The charges of two selectors with the amplitudes 255 and 256 are 2·2·2·2^15·511 = 133955584; with 256 twice they are 134217728.
abbrev pub lookup_base : Arguments
lookup_base = record base { blocks = zeros 32 }

-- "the gates are 2^d - 1"
abbrev pub lookup : Call
lookup = record {
  answer = Definition.lookup Horizontal;
  good = record lookup_base { classes = bytes (15 ∷ replicate 7 0) };
  bound = 133955584;
  gates = 3;
  refusals =
      Fault.scheme
      ++ Fault.class_number
      ∷ Fault.horizontal
      ∷ Fault.lengths (Fault.blocks ∷ Fault.amplitudes ∷ Fault.classes ∷ Fault.sample ∷ Fault.work ∷ [])
      ∷ Fault.amplitude (Fault.of_selector ∷ [])
      ∷ Fault.class
      ∷ Fault.noise 134217728 (Fault.of_selector 256 ∷ []) (Fault.of_selector 255 ∷ [])
      ∷ [];
}

-- Gates are "2^(d - v) - 1 + v"; v is 1.
abbrev pub lookup_vertical : Call
lookup_vertical = record {
  answer = Definition.lookup Vertical;
  good = record lookup_base { s = 1; classes = bytes (15 ∷ replicate 3 0) };
  bound = 133955584;
  gates = 2;
  refusals =
      Fault.scheme
      ++ Fault.class_number
      ∷ Fault.vertical
      ∷ Fault.lengths (Fault.blocks ∷ Fault.amplitudes ∷ Fault.classes ∷ Fault.sample ∷ Fault.work ∷ [])
      ∷ Fault.amplitude (Fault.of_selector ∷ [])
      ∷ Fault.class
      ∷ Fault.noise 134217728 (Fault.of_selector 256 ∷ []) (Fault.of_selector 255 ∷ [])
      ∷ [];
}

-- "The bound of a lookup is the largest entry amplitude plus the charges": 262143 and 133955584.
abbrev pub lookup_hidden : Call
lookup_hidden = record {
  answer = Definition.lookup_hidden Horizontal;
  good = record lookup_base { samples = zeros 16; entry_amplitudes = bytes (7 ∷ 262143 ∷ 0 ∷ 1 ∷ []) };
  bound = 134217727;
  gates = 3;
  refusals =
      Fault.scheme
      ++ Fault.class_number
      ∷ Fault.horizontal
      ∷ Fault.lengths (Fault.blocks ∷ Fault.amplitudes ∷ Fault.samples ∷ Fault.entry_amplitudes ∷ Fault.sample ∷ Fault.work ∷ [])
      ∷ Fault.amplitude (Fault.of_selector ∷ Fault.of_entry ∷ [])
      ∷ Fault.noise 134217728 (Fault.of_entry 262144 ∷ []) (Fault.of_entry 262143 ∷ [])
      ∷ [];
}

abbrev pub lookup_hidden_vertical : Call
lookup_hidden_vertical = record {
  answer = Definition.lookup_hidden Vertical;
  good = record lookup_base { s = 1; samples = zeros 8; entry_amplitudes = bytes (7 ∷ 262143 ∷ []) };
  bound = 134217727;
  gates = 2;
  refusals =
      Fault.scheme
      ++ Fault.class_number
      ∷ Fault.vertical
      ∷ Fault.lengths (Fault.blocks ∷ Fault.amplitudes ∷ Fault.samples ∷ Fault.entry_amplitudes ∷ Fault.sample ∷ Fault.work ∷ [])
      ∷ Fault.amplitude (Fault.of_selector ∷ Fault.of_entry ∷ [])
      ∷ Fault.noise 134217728 (Fault.of_entry 262144 ∷ []) (Fault.of_entry 262143 ∷ [])
      ∷ [];
}

-- ---- job files

-- A file with one selector of the amplitude 511.
abbrev pub job_file : Call
job_file = record {
  answer = Definition.job_file;
  good = record base { d = 1; amplitudes = bytes (511 ∷ []); classes = bytes (15 ∷ replicate 3 0) };
  bound = 133955584;
  gates = 1;
  refusals =
      Fault.file_beginning
      ∷ Fault.degree
      ∷ Fault.gadget
      ∷ Fault.class_number
      ∷ Fault.of_file
      ∷ Fault.sections
      ∷ Fault.amplitude (Fault.of_selector ∷ [])
      ∷ Fault.class
      ∷ Fault.noise 134217728 (Fault.of_selector 512 ∷ []) (Fault.of_selector 511 ∷ [])
      ∷ [];
}

-- ---- the whole table

-- Calls in groups, so that each group's rows are computed in a test of their own.
abbrev pub samples : List Call
samples = encrypt_classes ∷ decrypt_classes ∷ decrypt_scalar ∷ extract ∷ []

abbrev pub blocks : List Call
blocks = encrypt_selector ∷ external_product ∷ cmux ∷ []

abbrev pub lookups : List Call
lookups = lookup ∷ lookup_vertical ∷ []

abbrev pub hidden_lookups : List Call
hidden_lookups = lookup_hidden ∷ lookup_hidden_vertical ∷ []

abbrev pub files : List Call
files = job_file ∷ []

abbrev pub groups : List (List Call)
groups = samples ∷ blocks ∷ lookups ∷ hidden_lookups ∷ files ∷ []

unfoldable pub group_rows : List Call → List Row
group_rows calls = flat_map call_rows calls

unfoldable pub group_limits : List Call → List Limit
group_limits calls = flat_map call_limits calls

-- All rows, and all limits.
unfoldable pub rows : List Row
rows = flat_map group_rows groups

unfoldable pub limit_rows : List Limit
limit_rows = flat_map group_limits groups
