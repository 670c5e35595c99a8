-- `answers::all_below` meets its contract. The loop's invariant: all words are below the limit just where those from i on are.
-- Assumes nothing.
use Rattle.std.proofs.Common.{ℕ, ◌≤◌, ◌<◌, List, length, get_or, sym, ◌∙◌, arith}
use Rattle.torus.specs.Bytes.{words}
use Rattle.torus.proofs.Parts.{length_words}
use Rattle.answers.proofs.Laws.{all_below_on, all_below_not, all_below_end}
use Rattle.answers.proofs.all_below.Goals as goal

pub returns-then-limit-word_at : goal.returns-then-limit-word_at
returns-then-limit-word_at c =
    let ws : List ℕ = words c.args.s.now in
    let within : c.loop-i.i < length ws = omega (arith, length_words c.args.s.now) in
    let high : c.args.limit ≤ get_or ws c.loop-i.i 0 = omega (arith, c.word_at.ensures) in
    sym (c.loop-i.invariant ∙ all_below_not c.args.limit ws c.loop-i.i within high)

pub loop-i-preserved : goal.loop-i-preserved
loop-i-preserved c =
    let ws : List ℕ = words c.args.s.now in
    let within : c.loop-i.i < length ws = omega (arith, length_words c.args.s.now) in
    let low : get_or ws c.loop-i.i 0 < c.args.limit = omega (arith, c.word_at.ensures) in
    c.loop-i.invariant ∙ all_below_on c.args.limit ws c.loop-i.i within low

pub returns : goal.returns
returns c =
    let ws : List ℕ = words c.args.s.now in
    let over : length ws ≤ c.loop-i.i = omega (arith, length_words c.args.s.now) in
    sym (c.loop-i.invariant ∙ all_below_end c.args.limit ws c.loop-i.i over)
