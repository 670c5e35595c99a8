-- Sums over rows that are made in batches, by transforms.
-- Assumes nothing.
use mathlib.Core.Path.{◌≡◌, ap, sym, ◌∙◌}
use mathlib.Core.List.{List}
use Prim.Native.Nat.{ℕ, suc, ◌+◌, ◌*◌, ◌-◌, ◌/◌, ◌%◌, ◌^◌, ◌≤◌, ◌<◌}
use native.Mathlib.Nat.{add-mod-mod, mul-le-mul, lt_of_not-le, div-mul-le_self, lt-div-mul-add, add-zero, mod-eq_of_lt}
use native.Mathlib.Omega.{arith}
use lib.ListN.{get_or, length}
use Rattle.torus.specs.Sum.{sum}
use Rattle.torus.specs.Word.{add}
use Rattle.torus.proofs.Sums.{sum_append, add_add}
use Rattle.torus.proofs.Lists.{length_tabulate, tabulate_at, tabulate_cong}
use Rattle.torus.proofs.Joined.{joined_cong, joined_at, chunk_below}
use Rattle.gadget.specs.Digits.{Lawful, half}
use lib.Pow.{pow_pos}
use Rattle.gadget.proofs.Laws.{half_le, digit_magnitude, digit_word}
use Rattle.ring.specs.Polynomial.{product}
use Rattle.rns.proofs.Words.{polynomials_ext, added_rows}
use Rattle.twiddles.specs.declared.Prime.TheVariants.{First, Second}
use Rattle.butterflies.specs.Butterflies.{Stored}
use Rattle.residues.specs.Residues.{Added}
use Rattle.held_sums.specs.Sums.{Told}
use Rattle.rns.specs.Exact.{Exact, add_rows}
use Rattle.row_terms.specs.Rows.{row_part, row_digits, digits_from, rows_from}

-- The sums of a batch are exact.
pub batch_exact : (N k g L : ℕ) (block x : List ℕ) (r m : ℕ) → Lawful g L → ((t : ℕ) → get_or block t 0 < 2 ^ 32) → m * (N * half g) ≤ 268415999
    → Exact N k m (half g) (digits_from N g L x r) (rows_from N k block r)
batch_exact N k g L block x r m ok word room = record {
  room = room;
  small = λ j i lj li. digit_magnitude g L _ _ ok;
  y_words = λ j i lj li. digit_word g L _ _ ok;
  b_words = λ j c i lj lc li. chunk_below (2 ^ 32) (suc k * N) (r + j) block (omega arith) word (c * N + i);
}

pub terms_added : (N k g L : ℕ) (block x first second out out' : List ℕ) (r m : ℕ) → Lawful g L → ((t : ℕ) → get_or block t 0 < 2 ^ 32)
    → m * (N * half g) ≤ 268415999 → Told First N k m (digits_from N g L x r) (rows_from N k block r) first
    → Told Second N k m (digits_from N g L x r) (rows_from N k block r) second → 0 < N → length out ≡ suc k * N
    → Stored (Added first second out) (suc k * N) out out' → out' ≡ add_rows N k m (digits_from N g L x r) (rows_from N k block r) out
terms_added N k g L block x first second out out' r m ok word room h₁ h₂ pos size S =
    added_rows N k m (half g) (digits_from N g L x r) (rows_from N k block r) first second out out' (batch_exact N k g L block x r m ok word room) h₁ h₂ size S pos

-- Two sums added to a word, one after the other.
add_sums : (o s p : ℕ) → add (add o (s % 2 ^ 32)) (p % 2 ^ 32) ≡ add o ((s + p) % 2 ^ 32)
add_sums o s p = add_add o s (p % 2 ^ 32) ∙ ap (λ w. add o w) (add-mod-mod s p (2 ^ 32))

-- The terms of the first r rows, added to the words o.
abbrev pub Accumulated : (N k g L : ℕ) (block x : List ℕ) (r : ℕ) (o out : List ℕ) → Type 0
Accumulated N k g L block x r o out = out ≡ add_rows N k r (row_digits N g L x) (row_part N k block) o

pub accumulated_none : (N k g L : ℕ) (block x o : List ℕ) → 0 < N → length o ≡ suc k * N → ((t : ℕ) → get_or o t 0 < 2 ^ 32) → Accumulated N k g L block x 0 o o
unfolding add_rows sum
accumulated_none N k g L block x o pos size word =
    polynomials_ext N k o _ pos size (λ c i lc li. sym (ap (λ w. w % 2 ^ 32) (add-zero (get_or o (c * N + i) 0)) ∙ mod-eq_of_lt (word (c * N + i))))

-- One batch more.
pub accumulated_batch : (N k g L : ℕ) (block x : List ℕ) (r m : ℕ) (o out out' : List ℕ) → Accumulated N k g L block x r o out
    → out' ≡ add_rows N k m (digits_from N g L x r) (rows_from N k block r) out → Accumulated N k g L block x (r + m) o out'
unfolding add_rows
accumulated_batch N k g L block x r m o out out' h e =
    e ∙ joined_cong (suc k) _ _ (λ c lc. tabulate_cong N _ _ (λ i li.
    ap (λ w. add w (sum m (λ j. terms c i (r + j)) % 2 ^ 32)) (was c i lc li)
    ∙ add_sums (get_or o (c * N + i) 0) (sum r (terms c i)) (sum m (λ j. terms c i (r + j)))
    ∙ ap (λ s. add (get_or o (c * N + i) 0) (s % 2 ^ 32)) (sym (sum_append r m (terms c i)))))
  where
    terms : (c i q : ℕ) → ℕ
    terms c i q = product N (row_digits N g L x q) (row_part N k block q c) i

    was : (c i : ℕ) → c < suc k → i < N → get_or out (c * N + i) 0 ≡ add (get_or o (c * N + i) 0) (sum r (terms c i) % 2 ^ 32)
    was c i lc li =
        ap (λ l. get_or l (c * N + i) 0) h ∙ joined_at (suc k) N _ (λ d ld. length_tabulate N _) c i lc li ∙ tabulate_at N _ i li

-- As many rows of d as the room has, and one at least.
pub most_fits : (d : ℕ) → 0 < d → d ≤ 33554432 → (0 < 268415999 / d) × (268415999 / d * d ≤ 268415999)
most_fits d pos few = (lt_of_not-le none, div-mul-le_self 268415999 d)
  where
    none : 268415999 / d ≤ 0 → ⊥
    none g =
        let e : 268415999 / d ≡ 0 = omega arith in
        let l : 268415999 < 0 * d + d = rw e at (lt-div-mul-add {a = 268415999} {b = d} pos) in
        omega arith

-- A degree times half of a base.
pub row_room : (n g : ℕ) → 0 < n → n ≤ 1024 → g ≤ 16 → (0 < n * half g) × (n * half g ≤ 33554432)
row_room n g pos few h =
    let low : 1 * 1 ≤ n * half g = mul-le-mul pos (pow_pos (g - 1)) in
    let high : n * half g ≤ 1024 * 32768 = mul-le-mul few (half_le g h) in
    (omega arith, omega arith)
