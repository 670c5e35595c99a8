-- A plan's fact, and the fact itself.
-- Assumes nothing.
use mathlib.Core.List.{List}
use mathlib.Core.Logic.{∥∥₁_elim}
use Prim.Native.Nat.{ℕ}
use native.Mathlib.Nat.{ℕ_set}
use Rattle.butterflies.specs.Same.{Same}
use Rattle.butterflies.proofs.SameLaws.{same_eq, eq_same}
use Rattle.ntt.specs.Transforms.{Table, Twiddles}

-- Of numbers that are the same modulo p one may forget how: it can be found again.
told : {A : Type 0} {p x y : ℕ} → (A → Same p x y) → ∥ A ∥₁ → Same p x y
told f h = eq_same (∥∥₁_elim h (ℕ_set _ _) (λ a. same_eq (f a)))

-- What a plan says of its tables.
pub plain : {p n : ℕ} {t q : List ℕ} → Table p n t q → ∥ Twiddles p n t q ∥₁ → Twiddles p n t q
plain T h = record {
  table = T;
  rooted = record { first = λ l. told (λ w. w.rooted.first l) h; next = λ i l m. told (λ w. w.rooted.next i l m) h };
  mirrored = λ d j l m. told (λ w. w.mirrored d j l m) h;
}
