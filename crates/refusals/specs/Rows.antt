-- The form of the table of refusals: a row, and the rows of a call. From arguments that are accepted it makes a row for each fault, and one
-- for each two faults of neighbouring refusals, which returns the earlier number: document 01 has "Each call checks what applies to it, in
-- rising number", and a later paper's number stands where it says. It makes another kind of row for each change up to a limit.
-- Assumes nothing.
use Rattle.std.specs.Prelude.{List, [], ◌∷◌, ◌++◌, ℕ, map, flat_map}
use Rattle.answers.specs.Answers as Answers
use Rattle.answers.specs.Answers.{Answer}
use Rattle.refusals.specs.Arguments.{Arguments}
use Rattle.refusals.specs.Faults.{Change, Refusal}

-- What a call returns, and what its sisters return.
pub record Returned : Type 0 where
  pub number : ℕ
  pub bound : ℕ
  pub gates : ℕ

abbrev pub returned : Answer → Returned
returned a = record { number = Answers.number a; bound = Answers.bound a; gates = Answers.gates a }

-- A row: what a definition gives, and what the documents want.
pub record Row : Type 0 where
  pub got : Returned
  pub want : Returned

-- A number that a definition gives, and one that the documents do not want.
pub record Limit : Type 0 where
  pub got : ℕ
  pub unwanted : ℕ

-- A call: its definition, arguments that it accepts, with the bound and the gates that it reports of them, and its refusals in the order of
-- the checks. A later call is one more of these, and a later check one more refusal at its place.
pub record Call : Type 0 where
  pub answer : Arguments → Answer
  pub good : Arguments
  pub bound : ℕ
  pub gates : ℕ
  pub refusals : List Refusal

-- ---- the rows of a call

-- A refusal that is wanted of some arguments: its number and bound, and gates 0.
abbrev pub refusing : (answer : Arguments → Answer) (r : Refusal) (a : Arguments) → Row
refusing answer r a = record { got = returned (answer a); want = record { number = r.number; bound = r.bound; gates = 0 } }

-- Each fault of a refusal alone.
abbrev pub alone : (answer : Arguments → Answer) (good : Arguments) (r : Refusal) → List Row
alone answer good r = map (λ (fault : Change). refusing answer r (fault good)) r.faults

-- Each fault of a refusal where there is also one of the next: the earlier number is returned.
abbrev pub both : (answer : Arguments → Answer) (good : Arguments) (r next : Refusal) → List Row
both answer good r next = flat_map (λ (fault : Change). alone answer (fault good) r) next.faults

unfoldable pub refusal_rows : (answer : Arguments → Answer) (good : Arguments) (refusals : List Refusal) → List Row
refusal_rows answer good [] = []
refusal_rows answer good (r ∷ []) = alone answer good r
refusal_rows answer good (r ∷ next ∷ later) = alone answer good r ++ both answer good r next ++ refusal_rows answer good (next ∷ later)

-- The good arguments are accepted, with the bound and the gates of the documents; then the refusals.
abbrev pub call_rows : Call → List Row
call_rows c =
    record { got = returned (c.answer c.good); want = record { number = 0; bound = c.bound; gates = c.gates } }
    ∷ refusal_rows c.answer c.good c.refusals

-- No change up to a limit is refused with its number. It may be refused with a later one: a larger N asks for longer slices.
abbrev pub call_limits : Call → List Limit
call_limits c =
    flat_map (λ (r : Refusal). map (λ (change : Change). record { got = Answers.number (c.answer (change c.good)); unwanted = r.number }) r.limits)
    c.refusals
