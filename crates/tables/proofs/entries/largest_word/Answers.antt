-- `tables::entries::largest_word` meets its contract. Assumes nothing.
use Rattle.std.proofs.Common.{◌≡◌, ℕ, get_or, ap₂, sym, ◌∙◌, add-one, arith}
use Prim.Native.Nat.{max}
use Rattle.torus.specs.Bytes.{words}
use Rattle.trees.proofs.Largest.{largest_first, largest_more}
use Rattle.tables.proofs.entries.largest_word.Goals as goal

pub loop-i-init : goal.loop-i-init
loop-i-init c = (sym (largest_first _), omega arith)

pub loop-i-preserved : goal.loop-i-preserved
loop-i-preserved c =
    let at = c.loop-i in
    let f : ℕ → ℕ = λ k. get_or (words c.args.s.now) k 0 in
    let larger : c.max-most.result ≡ max at.most c.word_at.result = grind (arith, c.max-most.ensures) in
    (larger ∙ ap₂ max at.invariant.0 c.word_at.ensures ∙ sym (largest_more at.i f) ∙ rw add-one, omega (arith, larger, at.invariant.1))
