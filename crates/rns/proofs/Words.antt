-- The words of sums, from their residues modulo two primes.
-- Assumes nothing.
use mathlib.Core.Path.{◌≡◌, refl, ap, ap₂, sym, ◌∙◌}
use mathlib.Core.List.{List}
use Prim.Native.Nat.{ℕ, suc, ◌+◌, ◌*◌, ◌/◌, ◌%◌, ◌^◌, ◌≤◌, ◌<◌}
use native.Mathlib.Nat.{add-mod-mod, mod-lt, mod-add-div', div-lt_iff_lt-mul, zero-add, mod-mod}
use native.Mathlib.Omega.{arith}
use lib.ListN.{get_or, length}
use lib.Seq.{ext_get_or}
use Rattle.torus.specs.Sum.{sum, tabulate, joined}
use Rattle.torus.specs.Word.{add, magnitude}
use Rattle.torus.proofs.Lists.{length_tabulate, tabulate_at, tabulate_cong}
use Rattle.torus.proofs.Joined.{chunk_at, chunk_inside, length_joined, joined_at}
use Rattle.ring.specs.Polynomial.{Agree, coefficients, product, add_product}
use Rattle.ring.proofs.Poly.{Poly}
use Rattle.ring.proofs.Terms.{product_agree, product_mul}
use Rattle.butterflies.specs.Same.{Same}
use Rattle.butterflies.proofs.SameLaws.{same_refl, same_add, same_eq}
use Rattle.butterflies.specs.Butterflies.{Stored}
use Rattle.twiddles.specs.declared.Prime.{Prime}
use Rattle.twiddles.specs.declared.Prime.TheVariants.{First, Second}
use Rattle.residues.specs.Residues.{Added}
use Rattle.held_sums.specs.Sums.{Zeros, OneMore, Told, ReadBack}
use Rattle.rns.specs.Exact.{Product, Exact, add_rows}
use Rattle.held_sums.proofs.HeldLaws.{held_none}
use Rattle.rns.proofs.ExactSums.{exact_word}

-- Lists of polynomials that agree everywhere.
pub polynomials_ext : (N k : ℕ) (out : List ℕ) (f : ℕ → ℕ → ℕ) → 0 < N → length out ≡ suc k * N
    → ((c i : ℕ) → c ≤ k → i < N → get_or out (c * N + i) 0 ≡ f c i) → out ≡ joined (suc k) (λ c. tabulate N (f c))
polynomials_ext N k out f pos size h = ext_get_or 0 _ _ (size ∙ sym (length_joined (suc k) N _ (λ c l. length_tabulate N (f c)))) go
  where
    go : (j : ℕ) → j < length out → get_or out j 0 ≡ get_or (joined (suc k) (λ c. tabulate N (f c))) j 0
    go j l =
        let e : j ≡ j / N * N + j % N = omega (arith, mod-add-div' j N) in
        let li : j % N < N = mod-lt j pos in
        let lc : j / N < suc k = (div-lt_iff_lt-mul pos).1 (omega arith) in
        let x : get_or out (j / N * N + j % N) 0 ≡ f (j / N) (j % N) = h (j / N) (j % N) (omega arith) li in
        ap (λ m. get_or out m 0) e ∙ x ∙ sym (tabulate_at N (f (j / N)) (j % N) li)
        ∙ sym (joined_at (suc k) N (λ c. tabulate N (f c)) (λ c l. length_tabulate N (f c)) (j / N) (j % N) lc li)
        ∙ ap (λ m. get_or (joined (suc k) (λ c. tabulate N (f c))) m 0) (sym e)

-- The words of sums whose residues are known are added.
module _ (N k R D : ℕ) (y : ℕ → Poly) (b : ℕ → ℕ → Poly) (first second out out' : List ℕ) (E : Exact N k R D y b)
    (h₁ : Told First N k R y b first) (h₂ : Told Second N k R y b second) (size : length out ≡ suc k * N)
    (S : Stored (Added first second out) (suc k * N) out out') where
  word_at : (c i : ℕ) → c ≤ k → i < N → get_or out' (c * N + i) 0 ≡ add (get_or out (c * N + i) 0) (sum R (λ r. product N (y r) (b r c) i) % 2 ^ 32)
  word_at c i lc li =
      let at = S.done (c * N + i) (omega (arith, chunk_inside c (suc k) N (let l : c < suc k = omega arith in l))) in
      let w : Same 4294967296 at.word (sum R (λ r. product N (y r) (b r c) i)) =
      exact_word N R D y (λ r. b r c) E.room E.small E.y_words (λ r j lr lj. E.b_words r c j lr lc lj) i li _ _ at.word at.known
      (h₁ c i lc li) (h₂ c i lc li) in
      at.is ∙ same_eq (same_add (same_refl (get_or out (c * N + i) 0)) w)
      ∙ sym (add-mod-mod (get_or out (c * N + i) 0) (sum R (λ r. product N (y r) (b r c) i)) 4294967296)

  pub added_rows : 0 < N → out' ≡ add_rows N k R y b out
  unfolding add_rows
  added_rows pos = polynomials_ext N k out' (λ c i. add (get_or out (c * N + i) 0) (sum R (λ r. product N (y r) (b r c) i) % 2 ^ 32)) pos (S.len ∙ size) word_at

-- ---- one product

-- The sum of one row is the product of the ring.
pub one_row : (N : ℕ) (y b : Poly) (out : List ℕ) (small row : List ℕ) → Agree N y (coefficients small) → Agree N b (coefficients row)
    → add_rows N 0 1 (λ r. y) (λ r c. b) out ≡ add_product N out small row
unfolding add_rows add_product joined sum
one_row N y b out small row hy hb =
    tabulate_cong N _ _ (λ i l. ap₂ add (ap (λ j. get_or out j 0) (omega arith))
    (ap (λ x. x % 2 ^ 32) (zero-add (product N y b i) ∙ product_agree N hy hb i l) ∙ product_word N (coefficients small) (coefficients row) i l))
  where
    product_word : (N : ℕ) (y b : Poly) (i : ℕ) → i < N → product N y b i % 2 ^ 32 ≡ product N y b i
    product_word N y b i l = ap (λ x. x % 2 ^ 32) (product_mul N y b i l) ∙ mod-mod _ (2 ^ 32) ∙ sym (product_mul N y b i l)

pub one_product : (prime : Prime) (n N : ℕ) (small row sums sums' a : List ℕ) → Zeros sums → OneMore prime n N 0 small row sums sums'
    → ReadBack prime n N 0 sums' a → Product prime N small row a
unfolding OneMore ReadBack
one_product prime n N small row sums sums' a z more read =
    let y : ℕ → Poly = λ r. coefficients small in
    let b : ℕ → ℕ → Poly = λ r c. coefficients row in
    read 1 y b (more 0 y b (λ i l. refl)
    (λ c lc i li. let e : i ≡ c * N + i = (let g : c ≡ 0 = omega arith in rw g (omega arith)) in ap (λ j. get_or row j 0) e ∙ sym (chunk_at N c row i li))
    (held_none prime n N 0 y b sums z))

pub product_added : (N : ℕ) (small row first second out out' : List ℕ) → 0 < N → N ≤ 1024
    → ((i : ℕ) → i < N → magnitude (coefficients small i) ≤ 2 ^ 15) → ((i : ℕ) → get_or small i 0 < 2 ^ 32) → ((i : ℕ) → get_or row i 0 < 2 ^ 32)
    → Product First N small row first → Product Second N small row second → length out ≡ N → Stored (Added first second out) N out out'
    → out' ≡ add_product N out small row
product_added N small row first second out out' pos few low ws wr h₁ h₂ size S =
    let one : 1 * N ≡ N = omega arith in
    added_rows N 0 1 32768 (λ r. coefficients small) (λ r c. coefficients row) first second out out'
    (record { room = omega arith; small = λ r i lr li. low i li; y_words = λ r i lr li. ws i; b_words = λ r c i lr lc li. wr i })
    h₁ h₂ (rw one size) (rw one S) pos
    ∙ one_row N (coefficients small) (coefficients row) out small row (λ i l. refl) (λ i l. refl)
