-- What the program reads and prints, of sources whose bytes are known.
-- Assumes nothing.
use Rattle.std.specs.Prelude.{◌≡◌, Bool, cond, Option, Some, None, ⊤, List, [], ℕ, ◌<◌, min, length, take, drop}
use Rattle.jobfile.specs.Output.{output, Shows}

-- A read takes what a source has left, as much as the buffer has room for, to the buffer's front.
abbrev pub Fills : (left after : Option (List ℕ)) (size : ℕ) (buffer : List ℕ) → Type 0
Fills None after size buffer = ⊤
Fills (Some bs) after size buffer = (size ≡ min (length buffer) (length bs)) × (take size buffer ≡ take size bs) × (after ≡ Some (drop size bs))

-- Whether a source has anything left.
abbrev pub GoesOn : (left : Option (List ℕ)) (more : Bool) → Type 0
GoesOn None more = ⊤
GoesOn (Some bs) more = cond more (0 < length bs) (bs ≡ [])

-- A text that the code has made is the output for all that a source had left.
abbrev pub Answers : (left : Option (List ℕ)) (room : List ℕ) (size : ℕ) → Type 0
Answers None room size = ⊤
Answers (Some bs) room size = Shows room size (output bs)

-- The same of a text by itself.
abbrev pub IsOutput : (left : Option (List ℕ)) (text : List ℕ) → Type 0
IsOutput None text = ⊤
IsOutput (Some bs) text = text ≡ output bs
