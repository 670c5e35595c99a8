-- `report::Writer::word_lines` meets its contract. Assumes nothing.
use Rattle.std.proofs.Common.{◌≡◌, ◌+◌, ◌/◌, length, arith}
use Rattle.torus.specs.Sum.{joined}
use Rattle.torus.specs.Bytes.{words}
use Rattle.torus.proofs.Parts.{length_words}
use Rattle.torus.proofs.Joined.{chunk_inside}
use Rattle.report.specs.Report.{word_lines}
use Rattle.report.proofs.Pieces.{writes_none, writes_joined}
use Rattle.report.proofs.Lines.{length_word_lines}
use Rattle.report.proofs.Writer.word_lines.Goals as goal

pub loop-i-init : goal.loop-i-init
unfolding joined
loop-i-init c = writes_none

pub word_line-requires : goal.word_line-requires
word_line-requires c =
    let at = c.loop-i in
    let s = c.args in
    omega (
      arith,
      length_word_lines s.name.now (words s.ws.now) at.i,
      chunk_inside at.i (length s.ws.now / 4) (length s.name.now + 43) (omega arith),
    )

pub loop-i-preserved : goal.loop-i-preserved
loop-i-preserved c =
    let at = c.loop-i in
    writes_joined _ at.i at.invariant (rw (← c.word_at.ensures) c.word_line.ensures)

pub returns : goal.returns
unfolding word_lines
returns c =
    let at = c.loop-i in
    let e : length (words c.args.ws.now) ≡ at.i = omega (arith, length_words c.args.ws.now) in
    rw e at.invariant
