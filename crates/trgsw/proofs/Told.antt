-- How large the parameter set is that a call is told: the code's limits hold it; and which keys it is for. Here, and where document 01's
-- wording is shown, masks are opened; above this crate where a sample meets the calls of `trlwe`, which have one mask.
-- Assumes nothing.
use mathlib.Core.Path.{◌≡◌, subst}
use mathlib.Core.List.{List}
use Prim.Native.Nat.{ℕ, suc, ◌*◌, ◌≤◌}
use native.Mathlib.Nat.{le_refl, mul-le-mul}
use native.Mathlib.Omega.{arith}
use lib.ListN.{length}
use Rattle.torus.specs.Sum.{sum}
use Rattle.torus.specs.Bytes.{words}
use Rattle.torus.proofs.Parts.{length_words}
use Rattle.ring.specs.Polynomial.{coefficients}
use Rattle.trlwe.specs.Sample.{Key}
use Rattle.trgsw.specs.declared.Scheme.{Scheme}
use Rattle.trgsw.specs.Parameters.{LawfulScheme, SchemeKey, scheme_of, hamming_weight, masks, most_masks, parameters, Sized, sample_size}
use Rattle.trgsw.specs.Block.{row_phase, Holds}
use Rattle.trgsw.proofs.Noise.{key_weight}
use Rattle.trgsw.proofs.Weight.{weight_sum}

pub masks_most : (x : Scheme) → masks x ≤ most_masks
unfolding masks
masks_most x = le_refl 1

pub masks_le : (x : Scheme) → masks x ≤ 4
masks_le x = omega (arith, masks_most x)

pub told_sized : (x : Scheme) → LawfulScheme x → Sized (parameters x)
told_sized x ok = record {
  gadget = ok.gadget;
  degree = ok.degree.most;
  masks = masks_le x;
  weight = omega (arith, ok.weight, ok.degree.most);
}

-- A room for samples of degree n holds those of each degree up to n.
pub sample_fits : (x : Scheme) (n : ℕ) → x.N ≤ n → sample_size (parameters x) ≤ suc most_masks * n
sample_fits x n l = let few : suc (masks x) ≤ suc most_masks = omega (arith, masks_most x) in mul-le-mul few l

-- ---- its keys

-- The words of a key add up to its Hamming weight.
key_sum : (N k : ℕ) (key : List ℕ) → Key N k key → hamming_weight (words key) ≡ sum (k * N) (coefficients (words key))
key_sum N k key ok =
    let size : length (words key) ≡ k * N = omega (arith, length_words key, ok.size) in
    subst (λ n. hamming_weight (words key) ≡ sum n (coefficients (words key))) size (weight_sum (words key) (λ i l. ok.bits i (omega arith)))

-- Those of a key that a call is given add up to at most the declared weight.
pub told_light : (x : Scheme) (key : List ℕ) → SchemeKey x key → sum (masks x * x.N) (coefficients (words key)) ≤ x.W
told_light x key ok = omega (arith, key_sum x.N (masks x) key ok.fits, ok.light)

-- A key has no more ones than words, so with W = N every key is one of the call's.
pub every_key : (x : Scheme) (key : List ℕ) → x.N ≤ x.W → Key x.N (masks x) key → SchemeKey x key
unfolding masks
every_key x key full ok = record {
  fits = ok;
  light = omega (arith, key_sum x.N 1 key ok, key_weight x.N 1 (words key) ok.bits);
}

-- ---- blocks

-- Whether a block holds a bit does not go by the weight.
pub holds_told : (x : Scheme) (m A : ℕ) (K block : List ℕ) → Holds (parameters (scheme_of x.N x.g x.L)) m A K block → Holds (parameters x) m A K block
unfolding masks row_phase
holds_told x m A K block h = h
