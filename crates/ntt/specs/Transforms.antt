-- The transforms: all levels down to the leaves, and back.
-- Assumes nothing.
use Rattle.std.specs.Prelude.{List, ℕ, suc, ◌+◌, ◌*◌, ◌-◌, ◌^◌, ◌≤◌, ◌<◌, get_or, length}
use Rattle.ring.specs.Polynomial.{coefficients}
use Rattle.butterflies.specs.Same.{Same, Cong}
use Rattle.ntt.specs.Nodes.{At, Rooted}
use Rattle.butterflies.specs.Butterflies.{Ready}

-- A table of factors and that of their quotients, from entry 1 on, for 2^n leaves.
pub record Table (p n : ℕ) (t q : List ℕ) : Type 0 where
  pub long : 2 ^ n ≤ length t
  pub longq : 2 ^ n ≤ length q
  pub small : p < 1073741824
  pub pos : 0 < p
  pub ready : (i : ℕ) → 0 < i → i < 2 ^ n → Ready p (get_or t i 0) (get_or q i 0)

-- Twiddle factors for 2^n coefficients: roots that follow the rule of the tree, with their quotients. In each level of nodes, root j and
-- the root that mirrors it multiply to minus one, so that the mirrored one is minus the inverse: one table serves both ways.
pub record Twiddles (p n : ℕ) (t q : List ℕ) : Type 0 where
  pub table : Table p n t q
  pub rooted : Rooted p (p - 1) n (coefficients t)
  pub mirrored : (d j : ℕ) → d < n → j < 2 ^ d → Same p (get_or t (2 ^ d + (2 ^ d - suc j)) 0 * get_or t (2 ^ d + j) 0) (p - 1)

-- b holds the leaves of the polynomial c, modulo p, with the roots t.
abbrev pub Leaves : (p n : ℕ) (t : List ℕ) (c : ℕ → ℕ) (b : List ℕ) → Type 0
Leaves p n t c b = At p (p - 1) n (coefficients t) 1 n c (coefficients b)

-- b holds level d of whatever a holds.
unfoldable pub Down : (p n : ℕ) (t : List ℕ) (d : ℕ) (a b : List ℕ) → Type 0
Down p n t d a b =
    (c : ℕ → ℕ) → Cong p (2 ^ n) (coefficients a) c → At p (p - 1) n (coefficients t) 1 d c (coefficients b)

-- b holds level d, times 2^(n - d), of that of which a holds the leaves.
unfoldable pub Up : (p n : ℕ) (t : List ℕ) (d : ℕ) (a b : List ℕ) → Type 0
Up p n t d a b =
    (c : ℕ → ℕ) → Leaves p n t c a → At p (p - 1) n (coefficients t) (2 ^ (n - d)) d c (coefficients b)
