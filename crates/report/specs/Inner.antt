-- What the inner functions hand on. No promise rests on this.
-- Assumes nothing.
use Rattle.std.specs.Prelude.{◌≡◌, List, ℕ, ◌+◌, ◌≤◌, length}
use Rattle.report.specs.Report.{Put}
use Rattle.report.specs.declared.Writer.{Writer}

-- There is room for n bytes more.
abbrev pub Fits : Writer → ℕ → Type 0
Fits w n = w.at + n ≤ length w.room.now

-- A text is written in the same slice.
pub record Writes (w : Writer) (text : List ℕ) (v : Writer) : Type 0 where
  pub put : Put w.room.now w.at text v.room.now v.at
  pub room : length v.room.now ≡ length w.room.now
  pub lent : v.room.ghost_name ≡ w.room.ghost_name
