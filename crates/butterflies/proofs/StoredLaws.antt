-- A turn of a loop that stores one element.
-- Assumes nothing.
use mathlib.Core.Path.{◌≡◌, refl, ◌∙◌}
use mathlib.Core.List.{List}
use mathlib.Core.Logic.{◌⊎◌, inl, inr}
use Prim.Native.Nat.{ℕ, ◌+◌, ◌<◌}
use native.Mathlib.Nat.{le_of_suc-le-suc, eq-or-lt_of_le}
use native.Mathlib.Numerals.{add-one}
use native.Mathlib.Omega.{arith}
use lib.ListN.{get_or, length, set, length-set}
use lib.Seq.{get_or-set_same, get_or-set_other}
use Rattle.butterflies.specs.Butterflies.{Below, Stored}

pub stored_none : (R : ℕ → ℕ → Type 0) (a : List ℕ) → Stored R 0 a a
stored_none R a = record { len = refl; done = λ k l. let f : ⊥ = omega arith in absurd f; rest = λ k l. refl }

module _ (R : ℕ → ℕ → Type 0) (j : ℕ) (a b : List ℕ) (H : Stored R j a b) (l : j < length a) (v : ℕ) (r : R j v) where
  go : (k : ℕ) → (k ≡ j) ⊎ (k < j) → R k (get_or (set b j v) k 0)
  go k (inl e) = rw e (rw (get_or-set_same b j v 0 (rw H.len l)) r)
  go k (inr g) = rw (get_or-set_other b j k v 0 (omega arith)) (H.done k g)

  pub stored_more : Stored R (j + 1) a (set b j v)
  stored_more = record {
    len = length-set b j v ∙ H.len;
    done = λ k g. go k (eq-or-lt_of_le (le_of_suc-le-suc (rw (add-one j) at g)));
    rest = λ k g. get_or-set_other b j k v 0 (omega arith) ∙ H.rest k (omega arith);
  }

-- All elements are stored, and each of them is below B.
pub stored_below : {R : ℕ → ℕ → Type 0} {B : ℕ} {a b : List ℕ} → Stored R (length a) a b → ((k v : ℕ) → R k v → v < B) → Below B b
stored_below H f k l = f k _ (H.done k (rw H.len at l))
