-- Numbers that are the same modulo p.
-- Assumes nothing.
use Rattle.std.specs.Prelude.{◌≡◌, ℕ, ◌+◌, ◌*◌, ◌<◌}

pub record Same (p x y : ℕ) : Type 0 where
  pub s : ℕ
  pub t : ℕ
  pub same : x + s * p ≡ y + t * p

-- Polynomials whose first N coefficients are the same modulo p.
abbrev pub Cong : (p N : ℕ) (a b : ℕ → ℕ) → Type 0
Cong p N a b = (k : ℕ) → k < N → Same p (a k) (b k)
