-- The weight of a key of 0s and 1s, counted one by one, is the sum of its words, which is what the theorems on noise ask of it.
-- Assumes nothing.
use mathlib.Core.Path.{◌≡◌, refl}
use mathlib.Core.Bool.{cond}
use mathlib.Core.List.{List, [], ◌∷◌}
use Prim.Native.Nat.{ℕ, zero, suc, ◌+◌, ◌≤◌, ◌<◌}
use native.Mathlib.Omega.{arith}
use lib.Dec.{eqb}
use lib.ListN.{length, get_or}
use Rattle.torus.specs.Sum.{sum}
use Rattle.ring.specs.Polynomial.{coefficients}
use Rattle.trgsw.specs.Parameters.{hamming_weight}

-- A word that is 0 or 1 counts as much as it is.
weight_word : (w : ℕ) → w ≤ 1 → cond (eqb w 1) 1 0 ≡ w
weight_word zero l = refl
weight_word (suc zero) l = refl
weight_word (suc (suc w)) l = absurd (omega arith)

-- The first element's part of a sum over a list.
sum_first : (n w : ℕ) (ws : List ℕ) → sum (suc n) (coefficients (w ∷ ws)) ≡ w + sum n (coefficients ws)
unfolding sum
sum_first zero w ws = omega arith
sum_first (suc n) w ws = omega (arith, sum_first n w ws)

pub weight_sum : (ws : List ℕ) → ((i : ℕ) → i < length ws → get_or ws i 0 ≤ 1) → hamming_weight ws ≡ sum (length ws) (coefficients ws)
unfolding hamming_weight sum
weight_sum [] h = refl
weight_sum (w ∷ ws) h =
    let front : cond (eqb w 1) 1 0 ≡ w = weight_word w (h 0 (omega arith)) in
    let rest : hamming_weight ws ≡ sum (length ws) (coefficients ws) = weight_sum ws (λ i l. h (suc i) (omega arith)) in
    omega (arith, front, rest, sum_first (length ws) w ws)
