-- The answer of a call, and the number, the bound and the gates that it and its sisters return for it.
-- Assumes nothing.
use Rattle.std.specs.Prelude.{cond, Result, Ok, Err, List, [], ◌∷◌, ℕ, ◌/◌, ◌^◌, max, ltb}
use Rattle.torus.specs.Word.{magnitude}
use Rattle.answers.specs.declared.Ledger.{Ledger}
use Rattle.answers.specs.declared.Refusal.{Refusal}
use Rattle.answers.specs.declared.Refusal.TheVariants.{Degree, Gadget, Weight, ClassNumber, Count, Depth, Position, Length, Amplitude, Class, Bit, Key, Noise}

-- What a call reports, or why it refuses.
abbrev pub Answer : Type 0
Answer = Result Ledger Refusal

-- The numbers of document 01's table, and those that later papers give.
abbrev pub refusal_number : Refusal → ℕ
refusal_number Degree = 1
refusal_number Gadget = 2
refusal_number Weight = 12
refusal_number ClassNumber = 3
refusal_number Count = 4
refusal_number Depth = 4
refusal_number Position = 4
refusal_number Length = 5
refusal_number Amplitude = 6
refusal_number Class = 7
refusal_number Bit = 7
refusal_number Key = 8
refusal_number (Noise b) = 9

-- "the bound is 0 in every one but 9"
abbrev pub refusal_bound : Refusal → ℕ
refusal_bound Degree = 0
refusal_bound Gadget = 0
refusal_bound Weight = 0
refusal_bound ClassNumber = 0
refusal_bound Count = 0
refusal_bound Depth = 0
refusal_bound Position = 0
refusal_bound Length = 0
refusal_bound Amplitude = 0
refusal_bound Class = 0
refusal_bound Bit = 0
refusal_bound Key = 0
refusal_bound (Noise b) = b

-- "Returned": 0 where the call is accepted, or a check passes.
abbrev pub number : {T : Type 0} → Result T Refusal → ℕ
number (Ok x) = 0
number (Err r) = refusal_number r

-- "Bound"
abbrev pub bound : Answer → ℕ
bound (Ok ledger) = ledger.bound
bound (Err r) = refusal_bound r

-- "Gates are 0 in every refusal".
abbrev pub gates : Answer → ℕ
gates (Ok ledger) = ledger.gates
gates (Err r) = 0

-- "an accepted call reports bound 0 and gates 0" where nothing else is said of it
abbrev pub accepted : Answer
accepted = Ok (record { bound = 0; gates = 0 })

-- 9: "the bound is 2^31/M or more"
abbrev pub noise : (M bound gates : ℕ) → Answer
noise M bound gates = cond (ltb bound (2 ^ 31 / M)) (Ok (record { bound = bound; gates = gates })) (Err (Noise bound))

-- "the greatest error magnitude"
unfoldable pub greatest_magnitude : List ℕ → ℕ
greatest_magnitude [] = 0
greatest_magnitude (w ∷ ws) = max (magnitude w) (greatest_magnitude ws)

-- What a slice that a call writes holds after it. "A refusal changes no lent slice."
unfoldable pub after : {T : Type 0} (answer : Result T Refusal) (written before : List ℕ) → List ℕ
after (Ok x) written before = written
after (Err r) written before = before
