-- Sums of products whose residues modulo two primes tell their words.
-- Assumes nothing.
use Rattle.std.specs.Prelude.{List, ℕ, suc, ◌+◌, ◌*◌, ◌%◌, ◌^◌, ◌≤◌, ◌<◌, get_or}
use Rattle.torus.specs.Sum.{sum, tabulate, joined}
use Rattle.torus.specs.Word.{add, magnitude}
use Rattle.ring.specs.Polynomial.{coefficients, product}
use Rattle.twiddles.specs.declared.Prime.{Prime}
use Rattle.held_sums.specs.Sums.{Told}

-- The residues of one product.
abbrev pub Product : (prime : Prime) (N : ℕ) (small row a : List ℕ) → Type 0
Product prime N small row = Told prime N 0 1 (λ r. coefficients small) (λ r c. coefficients row)

-- Rows whose sums two primes tell exactly: words all, those of y of a magnitude up to D. A sum is then of a size up to R·N·D·2^31, since
-- words are read centred, and the half of P1·P2 is at least 268415999·2^31.
pub record Exact (N k R D : ℕ) (y : ℕ → ℕ → ℕ) (b : ℕ → ℕ → ℕ → ℕ) : Type 0 where
  pub room : R * (N * D) ≤ 268415999
  pub small : (r i : ℕ) → r < R → i < N → magnitude (y r i) ≤ D
  pub y_words : (r i : ℕ) → r < R → i < N → y r i < 2 ^ 32
  pub b_words : (r c i : ℕ) → r < R → c ≤ k → i < N → b r c i < 2 ^ 32

-- The words of k + 1 polynomials to which the sums over R rows are added.
unfoldable pub add_rows : (N k R : ℕ) (y : ℕ → ℕ → ℕ) (b : ℕ → ℕ → ℕ → ℕ) (out : List ℕ) → List ℕ
add_rows N k R y b out =
    joined (suc k) (λ c. tabulate N (λ i. add (get_or out (c * N + i) 0) (sum R (λ r. product N (y r) (b r c) i) % 2 ^ 32)))
