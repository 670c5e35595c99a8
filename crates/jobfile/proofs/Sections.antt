-- Laws of the sections of a file: the part of a selector, and how a loop reads it.
-- Assumes nothing.
use mathlib.Core.Path.{◌≡◌, refl, ap, sym, ◌∙◌}
use mathlib.Core.List.{List, [], ◌∷◌}
use Prim.Native.Nat.{ℕ, zero, suc, ◌+◌, ◌*◌, ◌≤◌}
use native.Mathlib.Omega.{arith}
use lib.ListN.{length, get_or, take, drop, length-drop}
use lib.Seq.{drop-drop, get_or-drop, length-take-le}
use Rattle.torus.specs.Bytes.{words}
use Rattle.torus.proofs.Joined.{Each, chunk_at, chunk_inside}
use Rattle.torus.proofs.Parts.{words_lent}
use Rattle.jobfile.specs.Reader.{selector_part, table_part}

-- The amplitude of selector i is the first word of its part.
pub amplitude_at : (b i : ℕ) (ws : List ℕ) → get_or (selector_part b i ws) 0 0 ≡ get_or ws (i * (1 + b)) 0
amplitude_at b i ws = chunk_at (1 + b) i ws 0 (omega arith) ∙ ap (λ k. get_or ws k 0) (omega arith)

-- Behind the first of a list's first words.
drop_take : (b : ℕ) (l : List ℕ) → drop 1 (take (suc b) l) ≡ take b (drop 1 l)
drop_take zero [] = refl
drop_take (suc b) [] = refl
drop_take b (x ∷ l) = refl

-- Its block is the rest of its part.
block_at : (b i : ℕ) (ws : List ℕ) → drop 1 (selector_part b i ws) ≡ take b (drop (i * (1 + b) + 1) ws)
block_at b i ws =
    let one : 1 + b ≡ suc b = omega arith in
    ap (λ m. drop 1 (take m (drop (i * (1 + b)) ws))) one
    ∙ drop_take b (drop (i * (1 + b)) ws) ∙ ap (take b) (drop-drop 1 (i * (1 + b)) ws)

-- The same, lent as bytes.
pub block_lent : (b i p q : ℕ) (rest : List ℕ) → p ≡ 4 * (i * (1 + b) + 1) → q ≡ 4 * b
    → words (take q (drop p rest)) ≡ drop 1 (selector_part b i (words rest))
block_lent b i p q rest ep eq = words_lent (i * (1 + b) + 1) b p q rest ep eq ∙ sym (block_at b i (words rest))

-- Each block has b words, if section two is there.
pub blocks_each : (b d : ℕ) (ws : List ℕ) → d * (1 + b) ≤ length ws → Each d b (λ i. drop 1 (selector_part b i ws))
blocks_each b d ws h i l =
    let inside : i * (1 + b) + (1 + b) ≤ length ws = omega (arith, chunk_inside i d (1 + b) l) in
    ap length (block_at b i ws) ∙ length-take-le b _ (length_behind i inside)
  where
    length_behind : (i : ℕ) → i * (1 + b) + (1 + b) ≤ length ws → b ≤ length (drop (i * (1 + b) + 1) ws)
    length_behind i inside = simp length-drop (omega arith)

-- The count of section three is the word behind section two, with a header of h words.
pub count_at : (h b d : ℕ) (ws : List ℕ) → get_or (table_part b d (drop h ws)) 0 0 ≡ get_or ws (h + d * (1 + b)) 0
count_at h b d ws =
    ap (λ l. get_or l 0 0) (drop-drop (d * (1 + b)) h ws) ∙ get_or-drop (h + d * (1 + b)) ws 0 0
    ∙ ap (λ k. get_or ws k 0) (omega arith)
