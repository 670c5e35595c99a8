-- `jobfile::checks::read_numbers` meets its contract. Assumes nothing.
use Rattle.std.proofs.Common.{ℕ, List, get_or, ap, ◌∙◌}
use Rattle.torus.specs.Bytes.{words}
use Rattle.jobfile.specs.Layout.{depth_at}
use Rattle.jobfile.specs.Reader.{read_job}
use Rattle.jobfile.proofs.checks.read_numbers.Goals as goal

pub returns : goal.returns
unfolding read_job
returns c =
    let ws : List ℕ = words c.args.file.now in
    let d = c.number_at-d.ensures ∙ ap (λ k. get_or ws k 0) (c.depth_at.ensures.0 ∙ ap depth_at c.word_at.ensures) in
    rw (
      c.file_packing.ensures,
      c.new.ensures,
      c.header_number-n.ensures,
      c.header_number-g.ensures,
      c.header_number-l.ensures,
      c.header_number-m.ensures,
      c.header_number-s.ensures,
      d,
    )
