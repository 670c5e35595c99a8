-- A lookup on words, with k masks: its selectors, the CMux tree, the blind rotation and the noise bound, over entries of any samples. Of d
-- selectors the first r rotate and the others are the tree's. What is quoted of the rotation is from document 02, Paper 1, and of entries
-- and the bound from Paper 2.
-- Assumes nothing.
use Rattle.std.specs.Prelude.{List, ℕ, zero, suc, ◌+◌, ◌-◌, ◌^◌, max, get_or}
use Rattle.torus.specs.Sum.{sum, chunk}
use Rattle.trlwe.specs.Sample.{rotated_sample}
use Rattle.trgsw.specs.declared.Parameters.{Parameters}
use Rattle.trgsw.specs.Parameters.{block_size}
use Rattle.trgsw.specs.External.{cmux_sample, charge}
use Rattle.trees.specs.Tree.{tree}

-- ---- entries

-- "An entry becomes a record of its sample and its declared amplitude, 0 if public." In the vertical packing an entry of Paper 1 is one
-- of the 2^r classes in such a sample.
pub record Entry : Type 0 where
  pub sample : List ℕ
  pub amplitude : ℕ

-- ---- selectors

-- The block of selector i. A lookup has the blocks of its selectors one after another.
abbrev pub selector : (p : Parameters) (i : ℕ) (blocks : List ℕ) → List ℕ
selector p i blocks = chunk (block_size p) i blocks

-- ---- the tree and the rotation

-- The sample of run t of level d, whatever samples the leaves are. A selector joins two samples by its CMux; that of level i is
-- selector r + i, since the first r rotate.
unfoldable pub tree_sample : (p : Parameters) (blocks : List ℕ) (r : ℕ) (leaf : (t : ℕ) → List ℕ) (d t : ℕ) → List ℕ
tree_sample p blocks r leaf d t = tree (λ i. cmux_sample p (selector p (r + i) blocks)) leaf d t

-- "Rotation step i picks, by selector i, between the sample and the sample times X^(-2^i)",
unfoldable pub rotation_step : (p : Parameters) (blocks : List ℕ) (i : ℕ) (x : List ℕ) → List ℕ
rotation_step p blocks i x = cmux_sample p (selector p i blocks) x (rotated_sample p.N p.k (2 ^ i) x)

-- "lowest step first": the blind rotation by the first r selectors, the thesis's Algorithm 5 with the exponents -2^0 to -2^(r-1). (The
-- thesis multiplies by X^(+a_i) there, and has no sign where Algorithm 6 calls it; the paper's sign brings entry rho to the front.)
unfoldable pub blind_rotation : (p : Parameters) (blocks : List ℕ) (r : ℕ) (x : List ℕ) → List ℕ
blind_rotation p blocks zero x = x
blind_rotation p blocks (suc i) x = rotation_step p blocks i (blind_rotation p blocks i x)

-- The sample of a lookup with d selectors, of which the first r rotate: the tree's, of all 2^(d-r) entries, rotated. It is the thesis's
-- Algorithm 6 up to its last line, the extraction; with r = 0 it is the tree alone.
unfoldable pub looked_up : (p : Parameters) (blocks : List ℕ) (r : ℕ) (entry : (t : ℕ) → Entry) (d : ℕ) → List ℕ
looked_up p blocks r entry d = blind_rotation p blocks r (tree_sample p blocks r (λ t. (entry t).sample) (d - r) 0)

-- ---- the noise bound

-- "the sum of the d charges"
unfoldable pub charges : (p : Parameters) (amplitudes : List ℕ) (d : ℕ) → ℕ
charges p amplitudes d = sum d (λ i. charge p (get_or amplitudes i 0))

-- The largest of f 0 to f (n - 1), 0 if there is none.
unfoldable pub largest : (n : ℕ) (f : ℕ → ℕ) → ℕ
largest zero f = 0
largest (suc n) f = max (largest n f) (f n)

-- "The bound of a lookup is the largest entry amplitude plus the charges, in both packings and at d = 0 too".
abbrev pub looked_up_bound : (p : Parameters) (amplitudes : List ℕ) (r : ℕ) (entry : (t : ℕ) → Entry) (d : ℕ) → ℕ
looked_up_bound p amplitudes r entry d = largest (2 ^ (d - r)) (λ t. (entry t).amplitude) + charges p amplitudes d
