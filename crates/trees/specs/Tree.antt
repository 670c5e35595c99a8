-- The tree of a lookup, and the number of the entry that it picks. Entries are of any kind.
-- Assumes nothing.
use Rattle.std.specs.Prelude.{ℕ, zero, suc, ◌+◌, ◌*◌, ◌^◌}
use Rattle.torus.specs.Sum.{sum}

-- Run t of level d: what the 2^d entries from t·2^d on are joined to. "Selector 0 joins entries 2t and 2t + 1, selector 1 joins
-- those results, and so on."
unfoldable pub tree : {S : Type 0} (join : (i : ℕ) (x₀ x₁ : S) → S) (entry : (h : ℕ) → S) (d t : ℕ) → S
tree join entry zero t = entry t
tree join entry (suc d) t = join d (tree join entry d (2 * t)) (tree join entry d (2 * t + 1))

-- "Entry number h has binary digit i equal to the bit of selector i, selector 0 lowest."
unfoldable pub entry_number : (bits : ℕ → ℕ) (d : ℕ) → ℕ
entry_number bits d = sum d (λ i. bits i * 2 ^ i)
