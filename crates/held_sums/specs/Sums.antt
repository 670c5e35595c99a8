-- Sums of products of polynomials, held in the transform domain modulo a prime: a product is made there place by place, and one way back
-- serves for the whole sum.
-- Assumes nothing.
use Rattle.std.specs.Prelude.{◌≡◌, List, ℕ, suc, ◌+◌, ◌*◌, ◌-◌, ◌^◌, ◌≤◌, ◌<◌, get_or, length}
use Rattle.torus.specs.Sum.{sum, chunk}
use Rattle.ring.specs.Polynomial.{Degree, Agree, coefficients, inside, passed}
use Rattle.butterflies.specs.Same.{Same, Cong}
use Rattle.butterflies.specs.Butterflies.{Below}
use Rattle.ntt.specs.Transforms.{Leaves}
use Rattle.twiddles.specs.declared.Prime.{Prime}
use Rattle.twiddles.specs.Primes.{modulus}
use Rattle.twiddles.specs.Tables.{roots_of}
use Rattle.residues.specs.Residues.{residues, Within}

-- Coefficient i of the product of y and b modulo X^N + 1 and modulo p.
unfoldable pub product_modulo : (p N : ℕ) (y b : ℕ → ℕ) (i : ℕ) → ℕ
product_modulo p N y b i = inside y b i + (p - 1) * passed N y b i

-- One product more: c holds the leaves of S + Y·b where a holds those of S, and f those of Y. b has words. Sums that were of R products
-- are of R + 1.
pub record More (p n : ℕ) (t f b a c : List ℕ) : Type 0 where
  pub leaves : (S Y : ℕ → ℕ) → Leaves p n t Y f → Leaves p n t S a
      → Leaves p n t (λ i. S i + product_modulo p (2 ^ n) Y (residues p (coefficients b)) i) c
  pub within : (R : ℕ) → Within R a → Within (suc R) c

-- The same, with the words y for Y.
pub record MoreRow (p n : ℕ) (t y b a c : List ℕ) : Type 0 where
  pub leaves : (S : ℕ → ℕ) → Leaves p n t S a
      → Leaves p n t (λ i. S i + product_modulo p (2 ^ n) (residues p (coefficients y)) (residues p (coefficients b)) i) c
  pub within : (R : ℕ) → Within R a → Within (suc R) c

-- The way back: c is that of which a holds the leaves, below p.
pub record Back (p n : ℕ) (t a c : List ℕ) : Type 0 where
  pub is : (S : ℕ → ℕ) → Leaves p n t S a → Cong p (2 ^ n) (coefficients c) S
  pub below : Below p c

-- Of k + 1 polynomials one after another, R holds of each.
abbrev pub Columns : (n k : ℕ) (R : ℕ → List ℕ → List ℕ → Type 0) (a c : List ℕ) → Type 0
Columns n k R a c = (d : ℕ) → d ≤ k → R d (chunk (2 ^ n) d a) (chunk (2 ^ n) d c)

-- ---- rows

-- The sum of the first R products y_r·b_r modulo X^N + 1 and modulo p.
unfoldable pub row_sums : (p N R : ℕ) (y b : ℕ → ℕ → ℕ) (i : ℕ) → ℕ
row_sums p N R y b i = sum R (λ r. product_modulo p N (residues p (y r)) (residues p (b r)) i)

-- What the code asks of a list of k + 1 sums.
pub record Places (N k : ℕ) (sums : List ℕ) : Type 0 where
  pub degree : Degree N
  pub size : length sums ≡ suc k * N

-- A list holds, modulo a prime, the leaves of the sums of the first R rows: in polynomial c stands the sum of y_r·b_(r,c). n is the
-- exponent of N.
pub record Held (prime : Prime) (n N k R : ℕ) (y : ℕ → ℕ → ℕ) (b : ℕ → ℕ → ℕ → ℕ) (sums : List ℕ) : Type 0 where
  pub leaves : (c : ℕ) → c ≤ k → Leaves (modulus prime) n (roots_of prime) (row_sums (modulus prime) N R y (λ r. b r c)) (chunk N c sums)
  pub within : Within R sums

-- A list of 0s, which holds the sums over no row.
abbrev pub Zeros : List ℕ → Type 0
Zeros l = (i : ℕ) → get_or l i 0 ≡ 0

-- One row more: y_R are the words of small, and b_(R,c) those of polynomial c of row.
unfoldable pub OneMore : (prime : Prime) (n N k : ℕ) (small row sums sums' : List ℕ) → Type 0
OneMore prime n N k small row sums sums' =
    (R : ℕ) (y : ℕ → ℕ → ℕ) (b : ℕ → ℕ → ℕ → ℕ)
    → Agree N (y R) (coefficients small) → ((c : ℕ) → c ≤ k → Agree N (b R c) (coefficients (chunk N c row)))
    → Held prime n N k R y b sums → Held prime n N k (suc R) y b sums'

-- The residues of the sums of the first R rows.
abbrev pub Told : (prime : Prime) (N k R : ℕ) (y : ℕ → ℕ → ℕ) (b : ℕ → ℕ → ℕ → ℕ) (a : List ℕ) → Type 0
Told prime N k R y b a =
    (c i : ℕ) → c ≤ k → i < N → Same (modulus prime) (get_or a (c * N + i) 0) (row_sums (modulus prime) N R y (λ r. b r c) i)

-- Whatever rows the list holds the sums of, a has the residues of these.
unfoldable pub ReadBack : (prime : Prime) (n N k : ℕ) (sums a : List ℕ) → Type 0
ReadBack prime n N k sums a = (R : ℕ) (y : ℕ → ℕ → ℕ) (b : ℕ → ℕ → ℕ → ℕ) → Held prime n N k R y b sums → Told prime N k R y b a
