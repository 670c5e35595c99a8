-- The smaller of x and x - m, where a word's difference wraps.
-- Assumes nothing.
use mathlib.Core.Path.{◌≡◌}
use mathlib.Core.Logic.{⊎_elim}
use Prim.Native.Nat.{ℕ, ◌+◌, ◌*◌, ◌-◌, ◌%◌, ◌≤◌, ◌<◌, min}
use native.Mathlib.Omega.{arith}
use Rattle.std.proofs.lemmas.Bool.{cases_lt}
use Rattle.butterflies.specs.Same.{Same}

-- m is a multiple of p.
pub folded : (p k m x r : ℕ) → m ≡ k * p → m ≤ 4294967296 → x < 4294967296 → x < m + m → r ≡ min x ((x + (4294967296 - m)) % 4294967296) → (r < m) × Same p r x
folded p k m x r e lm lx l h =
    ⊎_elim
    (λ g. let f : r ≡ x = omega arith in (omega arith, record { s = 0; t = 0; same = omega arith }))
    (λ g. let f : r + m ≡ x = omega arith in (omega arith, record { s = k; t = 0; same = omega (arith, e, f) }))
    (cases_lt x m)
