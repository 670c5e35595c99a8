-- What the tree does to the noise, on lists of words: for k masks, every lawful gadget, every key whose words add up to at most W,
-- and entries that are any samples of words. The sample is within the sum of the charges of the entry that the bits name, in every
-- coefficient of the phase.
-- Assumes nothing.
use mathlib.Core.Path.{◌≡◌}
use mathlib.Core.List.{List}
use Prim.Native.Nat.{ℕ, zero, suc, ◌+◌, ◌*◌, ◌^◌, ◌≤◌, ◌<◌}
use native.Mathlib.Omega.{arith}
use lib.ListN.{length, get_or}
use Rattle.torus.specs.Sum.{sum}
use Rattle.gadget.specs.Digits.{Lawful}
use Rattle.ring.specs.Polynomial.{coefficients}
use Rattle.ring.proofs.Close.{Close}
use Rattle.trlwe.specs.Sample.{phase}
use Rattle.trgsw.proofs.Noise.{cmux_near}
use Rattle.trgsw.proofs.Words.{cmux_below, length_cmux}
use Rattle.trees.specs.Tree.{tree, entry_number}
use Rattle.trgsw.specs.declared.Parameters.{Parameters}
use Rattle.trgsw.specs.Parameters.{sample_size}
use Rattle.trgsw.specs.Block.{Holds}
use Rattle.trgsw.specs.External.{charge, Selecting}
use Rattle.trees.specs.LookedUp.{selector, tree_sample}
use Rattle.trees.proofs.Trees.{tree_good, tree_near}

-- ---- the sample

-- It is of words if the entries are.
pub tree_sample_below : (p : Parameters) (blocks : List ℕ) (r : ℕ) (entry : (t : ℕ) → List ℕ) (d t : ℕ) → ((t u : ℕ) → get_or (entry t) u 0 < 2 ^ 32)
    → (u : ℕ) → get_or (tree_sample p blocks r entry d t) u 0 < 2 ^ 32
unfolding tree_sample
tree_sample_below p blocks r entry d t word =
    tree_good (λ x. (u : ℕ) → get_or x u 0 < 2 ^ 32) _ entry d t word (λ i l x₀ x₁ h₀ h₁. cmux_below p (selector p (r + i) blocks) x₀ x₁)

-- It has the length of a sample if its entry has, where no selector joins it.
pub length_tree_sample : (p : Parameters) (blocks : List ℕ) (r : ℕ) (entry : (t : ℕ) → List ℕ) (d t : ℕ) → length (entry t) ≡ sample_size p
    → length (tree_sample p blocks r entry d t) ≡ sample_size p
unfolding tree_sample tree
length_tree_sample p blocks r entry zero t size = size
length_tree_sample p blocks r entry (suc d) t size = length_cmux p (selector p (r + d) blocks) _ _

-- ---- its noise

-- Under the key K, whose words add up to at most W, the block of each of d selectors holds its bit within its amplitude.
pub record Selects (p : Parameters) (d : ℕ) (bits : ℕ → ℕ) (K blocks amplitudes : List ℕ) : Type 0 where
  pub gadget : Lawful p.g p.L
  pub light : sum (p.k * p.N) (coefficients K) ≤ p.W
  pub bit : (i : ℕ) → i < d → bits i ≤ 1
  pub holds : (i : ℕ) → i < d → Holds p (bits i) (get_or amplitudes i 0) K (selector p i blocks)

-- Each of them does.
pub selects_one : (p : Parameters) (d : ℕ) (bits : ℕ → ℕ) (K blocks amplitudes : List ℕ) → Selects p d bits K blocks amplitudes
    → (i : ℕ) → i < d → Selecting p (bits i) (get_or amplitudes i 0) K (selector p i blocks)
selects_one p d bits K blocks amplitudes given i l = record {
  gadget = given.gadget;
  light = given.light;
  bit = given.bit i l;
  holds = given.holds i l;
}

-- So do the first of them.
pub selects_fewer : (p : Parameters) (d e : ℕ) (bits : ℕ → ℕ) (K blocks amplitudes : List ℕ) → e ≤ d → Selects p d bits K blocks amplitudes
    → Selects p e bits K blocks amplitudes
selects_fewer p d e bits K blocks amplitudes l given = record {
  gadget = given.gadget;
  light = given.light;
  bit = λ i m. given.bit i (omega arith);
  holds = λ i m. given.holds i (omega arith);
}

-- The sample's phase is within the charges of its selectors, from r up, of that of the entry that their bits name. Entries are any
-- samples of words.
pub tree_sample_near : (p : Parameters) (r d t : ℕ) (bits : ℕ → ℕ) (K blocks amplitudes : List ℕ) → Selects p (r + d) bits K blocks amplitudes
    → (entry : (t : ℕ) → List ℕ) → ((t u : ℕ) → get_or (entry t) u 0 < 2 ^ 32)
    → Close (2 ^ 32) p.N (sum d (λ i. charge p (get_or amplitudes (r + i) 0))) (phase p.N p.k K (tree_sample p blocks r entry d t))
    (phase p.N p.k K (entry (t * 2 ^ d + entry_number (λ i. bits (r + i)) d)))
unfolding tree_sample
tree_sample_near p r d t bits K blocks amplitudes given entry word =
    tree_near p.N (phase p.N p.k K) (λ x. (u : ℕ) → get_or x u 0 < 2 ^ 32) _ entry (λ i. bits (r + i)) (λ i. charge p (get_or amplitudes (r + i) 0)) d t word
    (λ i l x₀ x₁ h₀ h₁. cmux_below p (selector p (r + i) blocks) x₀ x₁) (λ i l. given.bit (r + i) (omega arith))
    (λ i l x₀ x₁ h₀. cmux_near p (bits (r + i)) (get_or amplitudes (r + i) 0) K (selector p (r + i) blocks) x₀ x₁
    (selects_one p (r + d) bits K blocks amplitudes given (r + i) (omega arith)) h₀)
