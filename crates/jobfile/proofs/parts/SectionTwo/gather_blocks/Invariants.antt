-- `jobfile::parts::SectionTwo::gather_blocks` meets its contract. The loop's invariant: the first i blocks are written. Assumes nothing.
use Rattle.std.proofs.Common.{drop}
use Rattle.torus.specs.Bytes.{words}
use Rattle.torus.proofs.Joined.{Written}
use Rattle.jobfile.specs.Reader.{selector_part}
use Rattle.jobfile.proofs.parts.SectionTwo.gather_blocks.Given as goal

abbrev pub invariant-loop-i : goal.invariant-loop-i
invariant-loop-i l = Written l.self.b l.i (λ j. drop 1 (selector_part l.self.b j (words l.self.parts.now))) (words l.fn.blocks) (words l.blocks)
