-- Finite sums, lists given by their elements, and lists made up of parts. Every layer's formulas are written with these.
-- Assumes nothing.
use Rattle.std.specs.Prelude.{ℕ, zero, suc, ◌+◌, ◌*◌, List, [], ◌∷◌, ◌++◌, take, drop}

-- f 0 + f 1 + .. + f (n - 1)
unfoldable pub sum : ℕ → (ℕ → ℕ) → ℕ
sum zero f = 0
sum (suc n) f = sum n f + f n

-- f 0, f 1, .., f (n - 1)
unfoldable pub tabulate : ℕ → (ℕ → ℕ) → List ℕ
tabulate zero f = []
tabulate (suc n) f = f 0 ∷ tabulate n (λ i. f (suc i))

-- The lists f 0, f 1, .., f (n - 1), one after another.
unfoldable pub joined : ℕ → (ℕ → List ℕ) → List ℕ
joined zero f = []
joined (suc n) f = joined n f ++ f n

-- Part c of a list that is cut into parts of n elements each.
abbrev pub chunk : (n c : ℕ) → List ℕ → List ℕ
chunk n c l = take n (drop (c * n) l)
