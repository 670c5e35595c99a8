-- `report::Writer::sample` meets its contract. Assumes nothing.
use Rattle.std.proofs.Common.{◌≡◌, ℕ, ◌*◌, ◌/◌, ◌-◌, ◌≤◌, List, length, take, drop, refl, arith, length-take, length-drop}
use lib.Seq.{take_all}
use Rattle.torus.specs.Bytes.{words}
use Rattle.torus.proofs.Parts.{words_lent, words_drop, length_words}
use Rattle.report.specs.Text.{ascii}
use Rattle.report.proofs.Pieces.{writes_both}
use Rattle.report.proofs.Lines.{length_lines}
use Rattle.report.proofs.Writer.sample.Goals as goal

-- What is lent for the masks: the first words.
masked : (k : ℕ) (s : List ℕ) → words (take (4 * k) s) ≡ take k (words s)
masked k s = words_lent 0 k 0 (4 * k) s refl refl

-- What is lent for the body: the words behind the masks.
body : (k : ℕ) (s : List ℕ) → words (take (length s - 4 * k) (drop (4 * k) s)) ≡ drop k (words s)
body k s =
    let all : length (drop (4 * k) s) ≤ length s - 4 * k = omega (arith, length-drop (4 * k) s) in
    rw (take_all _ (drop (4 * k) s) all, words_drop k s)

pub word_lines-requires-2 : goal.word_lines-requires-2
unfolding ascii
word_lines-requires-2 c =
    let s = c.args in
    let ms : List ℕ = words (take (4 * s.masks) s.sample.now) in
    let front : length ms ≡ s.masks = omega (arith, length_words (take (4 * s.masks) s.sample.now), length-take (4 * s.masks) s.sample.now) in
    let back : length (take (length s.sample.now - 4 * s.masks) (drop (4 * s.masks) s.sample.now)) / 4 ≡ length s.sample.now / 4 - s.masks =
    simp (length-take, length-drop) (omega arith) in
    omega (arith, length_lines (ascii "mask") ms, front, back)

pub returns : goal.returns
unfolding ascii
returns c =
    let s = c.args in
    rw (← masked s.masks s.sample.now, ← body s.masks s.sample.now) (writes_both c.word_lines.ensures c.word_lines-2.ensures)
