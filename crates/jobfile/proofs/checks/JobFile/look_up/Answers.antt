-- `jobfile::checks::JobFile::look_up` meets its contract. Assumes nothing.
use Rattle.std.proofs.Common.{◌≡◌, ℕ, ◌*◌, ◌≤◌, refl, ap, sym, ◌∙◌, arith}
use lib.Seq.{length-take-le}
use Rattle.trgsw.specs.Parameters.{block_size, parameters}
use Rattle.tables.proofs.Packings.{depth_le}
use Rattle.jobfile.specs.declared.layout.TheConstants.{BLOCKS_ROOM, AMPLITUDES_ROOM}
use Rattle.jobfile.specs.declared.checks.JobFile.{JobFile}
use Rattle.jobfile.proofs.Held.{held_size}
use Rattle.jobfile.proofs.checks.JobFile.look_up.Goals as goal

-- The blocks and the amplitudes fit their rooms.
fits : (f : JobFile) (b : ℕ) → b ≡ block_size (parameters f.numbers.numbers.scheme)
    → (4 * (f.numbers.numbers.d * b) ≤ BLOCKS_ROOM) × (4 * f.numbers.numbers.d ≤ AMPLITUDES_ROOM)
fits f b own =
    let x = f.numbers.numbers in
    let size = held_size f.bytes.now x f.passes f.read _ b refl own in
    (omega (arith, size), omega (arith, depth_le x f.numbers.lawful))

pub slice_bounds-blocks-end : goal.slice_bounds-blocks-end
slice_bounds-blocks-end c = omega (arith, fits c.args.self.now _ c.block_size.ensures.0, c.room-blocks.ensures)

pub slice_bounds-look_up_with-end : goal.slice_bounds-look_up_with-end
slice_bounds-look_up_with-end c =
    sym (length-take-le _ _ (omega (arith, fits c.args.self.now _ c.block_size.ensures.0, c.room-blocks.ensures)))

pub look_up_with-requires : goal.look_up_with-requires
look_up_with-requires c =
    let f = c.args.self.now in
    let there = fits f _ c.block_size.ensures.0 in (
      length-take-le _ _ (omega (arith, there, c.room-blocks.ensures)) ∙ ap (λ b. 4 * (f.numbers.numbers.d * b)) c.block_size.ensures.0,
      length-take-le _ _ (omega (arith, there, c.room-amplitudes.ensures)),
    )
