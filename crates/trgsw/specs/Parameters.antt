-- The parameter set of blocks, what a call is told of it, and the sizes that it gives. Parameters have k masks and keys of up to W ones;
-- k, which a call is not told, is shut here. What is quoted of the weight is from document 02, Paper 6.
-- Assumes nothing.
use Rattle.std.specs.Prelude.{cond, List, [], ◌∷◌, ℕ, suc, ◌+◌, ◌*◌, ◌≤◌, eqb}
use Rattle.torus.specs.Bytes.{words}
use Rattle.gadget.specs.Digits.{Lawful}
use Rattle.ring.specs.Polynomial.{Degree}
use Rattle.answers.specs.Checks.{Checked, ◌or_else◌}
use Rattle.answers.specs.Checks as Check
use Rattle.row_terms.specs.Rows as Rows
use Rattle.trlwe.specs.Sample.{Key}
use Rattle.trgsw.specs.declared.Parameters.{Parameters}
use Rattle.trgsw.specs.declared.Scheme.{Scheme}

-- ---- what a call is told

-- "A sample is a mask polynomial a, then a body polynomial b": one mask. Shut, so that what is proved of it holds for k masks.
unfoldable pub masks : Scheme → ℕ
masks x = 1

-- The most masks of a call. Rooms of the code are made for them.
abbrev pub most_masks : ℕ
most_masks = 1

-- The parameter set that it is told: "Every call that uses a charge takes a declared weight W".
abbrev pub parameters : Scheme → Parameters
parameters x = record { N = x.N; k = masks x; g = x.g; L = x.L; W = x.W }

-- Where no weight is declared, it is that of every key: "Job files mean W = N".
abbrev pub scheme_of : (N g L : ℕ) → Scheme
scheme_of N g L = record { N = N; g = g; L = L; W = N }

-- Numbers that pass refusals 1, 2 and 12.
pub record LawfulScheme (x : Scheme) : Type 0 where
  pub degree : Degree x.N
  pub gadget : Lawful x.g x.L
  pub weight : x.W ≤ x.N

-- The same as checks, of which the first that refuses does so. A call that is told no weight has 1 and 2,
abbrev pub unweighted_refusal : (N g L : ℕ) → Checked
unweighted_refusal N g L = Check.degree N or_else Check.gadget g L

-- and a call that is told one has 12 "directly after 2".
abbrev pub scheme_refusal : Scheme → Checked
scheme_refusal x = unweighted_refusal x.N x.g x.L or_else Check.weight x.N x.W

-- ---- its keys

-- The Hamming weight of a key: how many of its words are ones.
unfoldable pub hamming_weight : List ℕ → ℕ
hamming_weight [] = 0
hamming_weight (w ∷ ws) = cond (eqb w 1) 1 0 + hamming_weight ws

-- A key of a call that is told x: "A key K is N words, 0 or 1", for each mask, and "K has at most W ones".
pub record SchemeKey (x : Scheme) (key : List ℕ) : Type 0 where
  pub fits : Key x.N (masks x) key
  pub light : hamming_weight (words key) ≤ x.W

-- ---- sizes, in words

-- A key: "A key K is N words", for each mask.
abbrev pub key_size : Parameters → ℕ
key_size p = p.k * p.N

-- A sample: with one mask "sample 2·N".
abbrev pub sample_size : Parameters → ℕ
sample_size p = suc p.k * p.N

-- The rows of a block: with one mask "A selector block has 2·L samples as rows".
abbrev pub row_count : Parameters → ℕ
row_count p = suc p.k * p.L

-- A block: with one mask "block 4·L·N".
abbrev pub block_size : Parameters → ℕ
block_size p = Rows.block_size p.N p.k p.L

-- What the code asks of a parameter set, so that 64 bits hold its sizes and charges: up to four masks and keys of up to 4096 ones. Each set
-- that a call is told meets it.
pub record Sized (p : Parameters) : Type 0 where
  pub gadget : Lawful p.g p.L
  pub degree : p.N ≤ 1024
  pub masks : p.k ≤ 4
  pub weight : p.W ≤ 4096
