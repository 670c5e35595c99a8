-- The terms of rows added one after another, by schoolbook.
-- Assumes nothing.
use mathlib.Core.Path.{◌≡◌, ap, ap₂, sym, ◌∙◌}
use mathlib.Core.List.{List}
use Prim.Native.Nat.{ℕ, suc, ◌+◌, ◌*◌, ◌%◌, ◌^◌, ◌≤◌, ◌<◌}
use native.Mathlib.Nat.{le_trans}
use native.Mathlib.Numerals.{add-one}
use lib.ListN.{get_or}
use Rattle.torus.specs.Sum.{sum, tabulate, joined, chunk}
use Rattle.torus.specs.Word.{add, magnitude}
use Rattle.torus.proofs.Sums.{add_add}
use Rattle.torus.proofs.Lists.{length_tabulate, tabulate_at, tabulate_cong}
use Rattle.torus.proofs.Joined.{joined_cong, joined_at, chunk_at}
use Rattle.gadget.specs.Digits.{Lawful}
use Rattle.gadget.proofs.Laws.{digit_magnitude, half_le}
use Rattle.ring.specs.Polynomial.{coefficients, product, add_product}
use Rattle.ring.proofs.Terms.{product_agree}
use Rattle.rns.specs.Exact.{add_rows}
use Rattle.row_terms.specs.Rows.{row, row_part, row_digits}
use Rattle.row_sums.proofs.Batches.{Accumulated}

-- The digits that go with a row are small enough for the product kernel.
pub row_digits_small : (N g L : ℕ) (x : List ℕ) (r : ℕ) → Lawful g L → (i : ℕ) → i < N
    → magnitude (get_or (tabulate N (row_digits N g L x r)) i 0) ≤ 2 ^ 15
row_digits_small N g L x r ok i l =
    rw (tabulate_at N (row_digits N g L x r) i l) (le_trans (digit_magnitude g L _ _ ok) (half_le g ok.high))

-- One row more.
pub accumulated_more : (N k g L : ℕ) (block x : List ℕ) (r : ℕ) (o out out' : List ℕ) → Accumulated N k g L block x r o out
    → out' ≡ joined (suc k) (λ c. add_product N (chunk N c out) (tabulate N (row_digits N g L x r)) (chunk N c (row N k r block)))
    → Accumulated N k g L block x (r + 1) o out'
unfolding add_product add_rows sum
accumulated_more N k g L block x r o out out' h e =
    e ∙ joined_cong (suc k) _ _ (λ c lc. tabulate_cong N _ _ (λ i li. turn c i lc li))
  where
    terms : (c i q : ℕ) → ℕ
    terms c i q = product N (row_digits N g L x q) (row_part N k block q c) i

    was : (c i : ℕ) → c < suc k → i < N → get_or (chunk N c out) i 0 ≡ add (get_or o (c * N + i) 0) (sum r (terms c i) % 2 ^ 32)
    was c i lc li =
        chunk_at N c out i li ∙ ap (λ l. get_or l (c * N + i) 0) h ∙ joined_at (suc k) N _ (λ d ld. length_tabulate N _) c i lc li ∙ tabulate_at N _ i li

    turn : (c i : ℕ) → c < suc k → i < N
        → add (get_or (chunk N c out) i 0) (product N (coefficients (tabulate N (row_digits N g L x r))) (coefficients (chunk N c (row N k r block))) i)
        ≡ add (get_or o (c * N + i) 0) (sum (r + 1) (terms c i) % 2 ^ 32)
    turn c i lc li =
        ap₂ add (was c i lc li)
        (product_agree N (λ t lt. tabulate_at N (row_digits N g L x r) t lt) (λ t lt. chunk_at N c (row N k r block) t lt) i li)
        ∙ add_add (get_or o (c * N + i) 0) (sum r (terms c i)) (terms c i r)
        ∙ ap (λ n. add (get_or o (c * N + i) 0) (sum n (terms c i) % 2 ^ 32)) (sym (add-one r))
