-- The definitions of the calls, on these arguments: the one place where the table of refusals knows how each takes them.
-- Assumes nothing.
use Rattle.std.specs.Prelude.{List, ◌∷◌, ◌++◌, ℕ}
use Rattle.torus.specs.Bytes.{words, bytes}
use Rattle.answers.specs.Answers.{Answer}
use Rattle.trlwe.specs.Calls as Trlwe
use Rattle.lwe.specs.Calls as Lwe
use Rattle.trgsw.specs.declared.Scheme.{Scheme}
use Rattle.selectors.specs.Calls as Selectors
use Rattle.gates.specs.Calls as Gates
use Rattle.tables.specs.declared.Packing.{Packing}
use Rattle.tables.specs.declared.Visibility.{Visibility}
use Rattle.tables.specs.declared.Visibility.TheVariants.{Public, Hidden}
use Rattle.tables.specs.declared.Numbers.{Numbers}
use Rattle.lookup.specs.Job.{public_job}
use Rattle.lookup.specs.Calls as Lookup
use Rattle.jobfile.specs.Reader.{job_answer}
use Rattle.refusals.specs.Arguments.{Arguments}

-- ---- samples

abbrev pub encrypt_classes : Arguments → Answer
encrypt_classes a = Trlwe.encrypt_classes a.N a.M a.s a.key a.masks a.errors a.classes a.sample

abbrev pub decrypt_classes : Arguments → Answer
decrypt_classes a = Trlwe.decrypt_classes a.N a.M a.s a.key a.sample a.classes

abbrev pub decrypt_scalar : Arguments → Answer
decrypt_scalar a = Lwe.decrypt_scalar a.N a.M a.key a.scalar a.classes

abbrev pub extract : Arguments → Answer
extract a = Lwe.extract a.N a.position a.sample a.scalar

-- ---- blocks

abbrev pub scheme : Arguments → Scheme
scheme a = record { N = a.N; g = a.g; L = a.L; W = a.W }

abbrev pub encrypt_selector : Arguments → Answer
encrypt_selector a = Selectors.encrypt_selector (record {
  N = a.N;
  g = a.g;
  L = a.L;
  bit = a.bit;
  key = a.key;
  masks = a.masks;
  errors = a.errors;
  block = a.blocks;
})

abbrev pub external_product : Arguments → Answer
external_product a = Gates.external_product (record {
  scheme = scheme a;
  amplitude = a.amplitude;
  sample_amplitude = a.amplitude₀;
  block = a.blocks;
  sample = a.sample;
  out = a.out;
})

abbrev pub cmux : Arguments → Answer
cmux a = Gates.cmux (record {
  scheme = scheme a;
  amplitude = a.amplitude;
  amplitude₀ = a.amplitude₀;
  amplitude₁ = a.amplitude₁;
  block = a.blocks;
  sample₀ = a.sample;
  sample₁ = a.sample₁;
  out = a.out;
})

-- ---- lookups

abbrev pub numbers : (packing : Packing) (visibility : Visibility) (a : Arguments) → Numbers
numbers packing visibility a = record { packing = packing; visibility = visibility; scheme = scheme a; M = a.M; s = a.s; d = a.d }

-- In a public table, in either packing,
abbrev pub lookup : (packing : Packing) (a : Arguments) → Answer
lookup packing a = Lookup.lookup (public_job (numbers packing Public a) a.blocks a.amplitudes a.classes a.sample a.work)

-- and in a hidden one.
abbrev pub lookup_hidden : (packing : Packing) (a : Arguments) → Answer
lookup_hidden packing a = Lookup.lookup (record {
  numbers = numbers packing Hidden a;
  blocks = a.blocks;
  amplitudes = a.amplitudes;
  table = a.samples;
  entry_amplitudes = a.entry_amplitudes;
  sample = a.sample;
  work = a.work;
})

-- ---- job files

-- The words of a file with one selector: section one; section two, with the selector's amplitude and block; section three.
abbrev pub file_words : Arguments → List ℕ
file_words a =
    a.first ∷ a.N ∷ a.g ∷ a.L ∷ a.M ∷ a.s
    ∷ a.d ∷ words a.amplitudes ++ words a.blocks
    ++ a.count ∷ words a.classes

abbrev pub job_file : Arguments → Answer
job_file a = job_answer (a.damage (bytes (file_words a)))
