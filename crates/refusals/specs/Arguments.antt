-- The arguments of calls, all in one record, so that a fault is one change of it in whatever call it is.
-- Assumes nothing.
use Rattle.std.specs.Prelude.{List, ℕ}

-- A call looks at those that it has.
pub record Arguments : Type 0 where
  pub N : ℕ
  pub g : ℕ
  pub L : ℕ
  pub W : ℕ
  pub M : ℕ
  pub s : ℕ
  pub d : ℕ
  pub position : ℕ
  pub bit : ℕ
  -- the declared amplitudes of a block and of two samples
  pub amplitude : ℕ
  pub amplitude₀ : ℕ
  pub amplitude₁ : ℕ
  -- slices, as lists of bytes
  pub key : List ℕ
  pub masks : List ℕ
  pub errors : List ℕ
  pub classes : List ℕ
  pub sample : List ℕ
  pub sample₁ : List ℕ
  pub scalar : List ℕ
  pub out : List ℕ
  pub blocks : List ℕ
  pub amplitudes : List ℕ
  pub samples : List ℕ
  pub entry_amplitudes : List ℕ
  pub work : List ℕ
  -- of a job file its first word, the count of section three, and what became of its bytes
  pub first : ℕ
  pub count : ℕ
  pub damage : List ℕ → List ℕ
