-- What the inner functions hand on. No promise rests on this: `run` has no premise.
-- Assumes nothing.
use Rattle.std.specs.Prelude.{List, [], ℕ}
use Rattle.answers.specs.Answers.{after}
use Rattle.lookup.specs.Job.{Job}
use Rattle.lookup.specs.Calls.{lookup, lookup_sample}

-- The sample of a job: its bytes, none where it is refused.
abbrev pub sample : Job → List ℕ
sample j = after (lookup j) (lookup_sample j) []
