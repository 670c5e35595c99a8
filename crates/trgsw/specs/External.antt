-- The external product of a block with a sample, the CMux ("gate"), and what they do to the noise.
-- Assumes nothing.
use Rattle.std.specs.Prelude.{cond, List, ℕ, suc, ◌+◌, ◌*◌, ◌%◌, ◌^◌, ◌≤◌, eqb, get_or}
use Rattle.torus.specs.Sum.{sum, tabulate}
use Rattle.torus.specs.Word.{add, sub}
use Rattle.gadget.specs.Digits.{Lawful, half, precision}
use Rattle.ring.specs.Polynomial.{product, coefficients}
use Rattle.row_terms.specs.Rows as Rows
use Rattle.trlwe.specs.Sample.{part, polynomials}
use Rattle.trgsw.specs.declared.Parameters.{Parameters}
use Rattle.trgsw.specs.Parameters.{sample_size, row_count}
use Rattle.trgsw.specs.Block.{row, Holds}

-- The digit polynomial of a sample that goes with row r.
abbrev pub row_digits : (p : Parameters) (x : List ℕ) (r i : ℕ) → ℕ
row_digits p x r i = Rows.row_digits p.N p.g p.L x r i

-- Coefficient i of polynomial c of the external product: "the sum over rows of digit polynomial times row".
unfoldable pub external : (p : Parameters) (block x : List ℕ) (c i : ℕ) → ℕ
external p block x c i =
    sum (row_count p) (λ r. product p.N (row_digits p x r) (part p.N (row p r block) c) i) % 2 ^ 32

-- Its words.
unfoldable pub external_sample : (p : Parameters) (block x : List ℕ) → List ℕ
external_sample p block x = polynomials p.N (suc p.k) (external p block x)

-- The difference of two samples of n words.
unfoldable pub difference : (n : ℕ) (x₁ x₀ : List ℕ) → List ℕ
difference n x₁ x₀ = tabulate n (λ t. sub (get_or x₁ t 0) (get_or x₀ t 0))

-- "The gate picks: sample0 plus the external product of the block with (sample1 - sample0)."
unfoldable pub cmux_sample : (p : Parameters) (block x₀ x₁ : List ℕ) → List ℕ
cmux_sample p block x₀ x₁ =
    polynomials p.N (suc p.k) (λ c i. add (part p.N x₀ c i) (external p block (difference (sample_size p) x₁ x₀) c i))

-- The one of two samples, or messages, that the bit m names.
abbrev pub picked {ℓ} : {S : Type ℓ} (m : ℕ) (x₀ x₁ : S) → S
picked m x₀ x₁ = cond (eqb m 0) x₀ x₁

-- "Its charge is 2·L·N·2^(g-1)·A + (1 + N)·E", and where a weight is declared "the charge's second term becomes (1 + W)·E". This is for k = 1;
-- here for k masks.
-- In the thesis (Lemma 3.2.2) it is the noise that a CMux adds to the greater of its inputs'.
unfoldable pub charge : (p : Parameters) (A : ℕ) → ℕ
charge p A = row_count p * p.N * half p.g * A + (1 + p.W) * precision p.g p.L

-- What the theorems on noise ask of a selector's block: it holds the bit m within A under the key K, whose words add up to at most W.
pub record Selecting (p : Parameters) (m A : ℕ) (K block : List ℕ) : Type 0 where
  pub gadget : Lawful p.g p.L
  pub light : sum (p.k * p.N) (coefficients K) ≤ p.W
  pub bit : m ≤ 1
  pub holds : Holds p m A K block
