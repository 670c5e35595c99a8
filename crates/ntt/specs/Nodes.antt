-- The tree of a number-theoretic transform. At the top stands a polynomial modulo X^(2^n) + 1. Modulo X^(2h) - w^2 = (X^h - w)·(X^h + w)
-- a polynomial splits into what is left of it modulo X^h - w and modulo X^h + w: these are the two nodes below. After n levels
-- there are 2^n nodes of one coefficient each, the leaves.
-- Assumes nothing.
use Rattle.std.specs.Prelude.{ℕ, zero, suc, ◌+◌, ◌*◌, ◌-◌, ◌/◌, ◌%◌, ◌^◌, ◌<◌}
use Rattle.butterflies.specs.Same.{Same}

-- What is left of a polynomial of 2h coefficients modulo X^h - w.
unfoldable pub part : (w h : ℕ) (a : ℕ → ℕ) → ℕ → ℕ
part w h a k = a k + w * a (h + k)

-- w at an even place, and minus w at an odd one. z is minus one.
unfoldable pub signed : (z place w : ℕ) → ℕ
signed z zero w = w
signed z (suc b) w = z * w

-- Node j of level d of the polynomial a, with the roots t.
unfoldable pub node : (z n : ℕ) (t : ℕ → ℕ) (a : ℕ → ℕ) (d j : ℕ) → ℕ → ℕ
node z n t a zero j = a
node z n t a (suc d) j = part (signed z (j % 2) (t (2 ^ d + j / 2))) (2 ^ (n - suc d)) (node z n t a d (j / 2))

-- A holds level d of a, times m, modulo p.
unfoldable pub At : (p z n : ℕ) (t : ℕ → ℕ) (m d : ℕ) (a A : ℕ → ℕ) → Type 0
At p z n t m d a A =
    (j k : ℕ) → j < 2 ^ d → k < 2 ^ (n - d) → Same p (A (j * 2 ^ (n - d) + k)) (m * node z n t a d j k)

-- The rule of the roots: root 1 is a root of minus one, and root i one of root i / 2, or of minus that at an odd i.
pub record Rooted (p z n : ℕ) (t : ℕ → ℕ) : Type 0 where
  pub first : 0 < n → Same p (t 1 * t 1) z
  pub next : (i : ℕ) → 1 < i → i < 2 ^ n → Same p (t i * t i) (signed z (i % 2) (t (i / 2)))
