-- Each row of the exercise table is right, by one test that is computed over the whole table. Assumes nothing.
use mathlib.Core.Path.{◌≡◌, refl}
use mathlib.Core.List.{List, [], ◌∷◌, map, Memᴰ}
use Rattle.torus.specs.Sum.{sum, tabulate}
use Rattle.gadget.specs.Digits as Digits
use Rattle.gadget.specs.Decomposition as Decomposition
use Rattle.ring.specs.Polynomial.{product}
use Rattle.trlwe.specs.Classes.{decode}
use Rattle.lwe.specs.Scalar.{extracted, extracted_word}
use Rattle.exercises.specs.Table.{Case, cases}

-- The test: over all rows, the words given are the words wanted.
abbrev Test : List Case → Type 0
Test cs = map (λ (c : Case). c.got) cs ≡ map (λ (c : Case). c.want) cs

-- A table that passes the test is right at each row.
each : (cs : List Case) → Test cs → (c : Case) → Memᴰ c cs → c.got ≡ c.want
each [] t c m = elim m [ ]
each (d ∷ ds) t c (Memᴰ.head e) = cc
each (d ∷ ds) t c (Memᴰ.tail m) = each ds (cc) c m

computed : Test cases
unfolding cases sum tabulate Digits.digits Digits.digit Digits.rounded Digits.precision Decomposition.digits Decomposition.digit Decomposition.closest_multiple Decomposition.left_after Decomposition.left_over Decomposition.centred_remainder Decomposition.carry product decode extracted extracted_word
computed = refl

pub exercises : (c : Case) → Memᴰ c cases → c.got ≡ c.want
exercises = each cases computed
