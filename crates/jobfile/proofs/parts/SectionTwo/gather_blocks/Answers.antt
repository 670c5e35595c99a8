-- `jobfile::parts::SectionTwo::gather_blocks` meets its contract. Assumes nothing.
use Rattle.std.proofs.Common.{◌≡◌, ℕ, ◌+◌, ◌*◌, ◌-◌, ◌≤◌, ◌<◌, List, drop, ap, ◌∙◌, arith}
use Rattle.torus.specs.Bytes.{words}
use Rattle.torus.proofs.Parts.{length_words}
use Rattle.torus.proofs.Joined.{Each, written_none, written_more, written_all, chunk_inside}
use Rattle.jobfile.specs.Reader.{selector_part}
use Rattle.jobfile.proofs.Sections.{block_lent, blocks_each}
use Rattle.jobfile.proofs.parts.SectionTwo.gather_blocks.Goals as goal

-- The block of selector i.
abbrev block : (b : ℕ) (rest : List ℕ) (i : ℕ) → List ℕ
block b rest i = drop 1 (selector_part b i (words rest))

pub loop-i-init : goal.loop-i-init
loop-i-init c = written_none c.args.self.now.b (block c.args.self.now.b c.args.self.now.parts.now) (words c.args.blocks.now)

pub loop-i-preserved : goal.loop-i-preserved
loop-i-preserved c =
    let b = c.args.self.now.b in
    let d = c.args.self.now.d in
    let at = c.loop-i in
    let rest : List ℕ = c.args.self.now.parts.now in
    let l : at.i < d = omega arith in
    let part : at.i * (1 + b) + (1 + b) ≤ d * (1 + b) = chunk_inside at.i d (1 + b) l in
    let own : at.i * b + b ≤ d * b = chunk_inside at.i d b l in
    let behind : at.i * (1 + b) ≤ d * (1 + b) = omega arith in
    let each : Each at.i b (block b rest) = blocks_each b at.i (words rest) (omega (arith, length_words rest, c.args.self.now.there)) in
    let to = at.i * (4 * b) in
    let from = at.i * (4 + 4 * b) + 4 in
    written_more b at.i to (to + 4 * b - to) (block b rest) (words c.args.blocks.now) at.blocks each at.invariant (omega arith) (omega arith) _
    (omega arith) (omega arith)
    (ap words c.copy_from_slice.ensures.after ∙ block_lent b at.i from (from + 4 * b - from) rest (omega arith) (omega arith))

pub returns : goal.returns
returns c =
    let s = c.args in
    let at = c.loop-i in
    let e : at.i ≡ s.self.now.d = omega arith in
    written_all s.self.now.b s.self.now.d (block s.self.now.b s.self.now.parts.now) (words s.blocks.now) (words at.blocks)
    (omega (arith, length_words s.blocks.now)) (rw e at at.invariant)
