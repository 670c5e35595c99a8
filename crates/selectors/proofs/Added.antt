-- What the code writes in a row: one word is added.
-- Assumes nothing.
use mathlib.Core.Path.{◌≡◌, ap, sym, ◌∙◌, subst}
use mathlib.Core.Bool.{cond}
use mathlib.Core.List.{List}
use Prim.Native.Nat.{ℕ, ◌%◌, ◌^◌, ◌<◌}
use native.Mathlib.Nat.{add-zero, mod-eq_of_lt}
use native.Mathlib.Decide.{ℕ_discrete}
use native.Mathlib.Omega.{arith}
use lib.Dec.{eqb}
use lib.ListN.{length, get_or, set, length-set}
use lib.Seq.{ext_get_or, get_or-set_same, get_or-set_other}
use borrow.Author.Tests.{eq-eqb, ne_eqb}
use Rattle.torus.specs.Sum.{tabulate}
use Rattle.torus.specs.Word.{add}
use Rattle.torus.proofs.Lists.{length_tabulate, tabulate_at}

-- w added to word number `at` of n words.
pub added_at : (n at w : ℕ) (l : List ℕ) → length l ≡ n → at < n → ((t : ℕ) → get_or l t 0 < 2 ^ 32)
    → set l at (add (get_or l at 0) w) ≡ tabulate n (λ t. add (get_or l t 0) (cond (eqb t at) w 0))
added_at n at w l size inside word =
    ext_get_or 0 _ _ (length-set l at _ ∙ size ∙ sym (length_tabulate n _))
    (λ t h. let lt : t < n = omega (arith, length-set l at (add (get_or l at 0) w)) in go t (ℕ_discrete t at) ∙ sym (tabulate_at n _ t lt))
  where
    go : (t : ℕ) → Dec (t ≡ at) → get_or (set l at (add (get_or l at 0) w)) t 0 ≡ add (get_or l t 0) (cond (eqb t at) w 0)
    go t (yes e) = rw (eq-eqb t at e, e) (get_or-set_same l at _ 0 (omega arith))
    go t (no ne) = rw (ne_eqb t at ne) (get_or-set_other l at t _ 0 ne ∙ sym (ap (λ x. x % 2 ^ 32) (add-zero (get_or l t 0)) ∙ mod-eq_of_lt (word t)))

-- A list is of words if it is after one of them has been written, and that one was a word.
pub words_before : (at v : ℕ) (l : List ℕ) → ((t : ℕ) → get_or (set l at v) t 0 < 2 ^ 32) → get_or l at 0 < 2 ^ 32 → (t : ℕ) → get_or l t 0 < 2 ^ 32
words_before at v l after one t = go (ℕ_discrete t at)
  where
    go : Dec (t ≡ at) → get_or l t 0 < 2 ^ 32
    go (yes e) = rw e one
    go (no ne) = subst (λ x. x < 2 ^ 32) (get_or-set_other l at t v 0 ne) (after t)
