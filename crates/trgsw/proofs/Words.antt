-- External products and CMuxes are of words, and have the length of a sample.
-- Assumes nothing.
use mathlib.Core.Path.{◌≡◌, refl}
use mathlib.Core.List.{List}
use Prim.Native.Nat.{ℕ, suc, ◌^◌, ◌<◌}
use native.Mathlib.Nat.{mod-lt}
use lib.Dec.{lit<}
use lib.ListN.{length, get_or}
use Rattle.trlwe.proofs.Polynomials.{length_polynomials, polynomials_below}
use Rattle.trgsw.specs.declared.Parameters.{Parameters}
use Rattle.trgsw.specs.Parameters.{sample_size}
use Rattle.trgsw.specs.External.{external, external_sample, cmux_sample}

pub external_below : (p : Parameters) (block x : List ℕ) (t : ℕ) → get_or (external_sample p block x) t 0 < 2 ^ 32
unfolding external_sample external
external_below p block x = polynomials_below (2 ^ 32) _ _ _ (lit< tt) (λ c i. mod-lt _ (lit< tt))

pub cmux_below : (p : Parameters) (block x₀ x₁ : List ℕ) (t : ℕ) → get_or (cmux_sample p block x₀ x₁) t 0 < 2 ^ 32
unfolding cmux_sample
cmux_below p block x₀ x₁ = polynomials_below (2 ^ 32) _ _ _ (lit< tt) (λ c i. mod-lt _ (lit< tt))

pub length_cmux : (p : Parameters) (block x₀ x₁ : List ℕ) → length (cmux_sample p block x₀ x₁) ≡ sample_size p
unfolding cmux_sample
length_cmux p block x₀ x₁ = length_polynomials p.N (suc p.k) _

-- Which words they have does not go by the weight.
pub external_any : (p : Parameters) (W : ℕ) (block x : List ℕ) → external_sample (record p { W = W }) block x ≡ external_sample p block x
unfolding external_sample external
external_any p W block x = refl

pub cmux_any : (p : Parameters) (W : ℕ) (block x₀ x₁ : List ℕ) → cmux_sample (record p { W = W }) block x₀ x₁ ≡ cmux_sample p block x₀ x₁
unfolding cmux_sample external
cmux_any p W block x₀ x₁ = refl
