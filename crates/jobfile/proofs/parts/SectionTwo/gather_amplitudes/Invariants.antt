-- `jobfile::parts::SectionTwo::gather_amplitudes` meets its contract. The loop's invariant: the first i amplitudes are written. Assumes nothing.
use Rattle.std.proofs.Common.{◌≡◌, get_or}
use Rattle.torus.specs.Bytes.{words}
use Rattle.torus.proofs.Lists.{filled}
use Rattle.jobfile.specs.Reader.{selector_part}
use Rattle.jobfile.proofs.parts.SectionTwo.gather_amplitudes.Given as goal

abbrev pub invariant-loop-i : goal.invariant-loop-i
invariant-loop-i l =
    words l.amplitudes ≡ filled l.i (λ j. get_or (selector_part l.self.b j (words l.self.parts.now)) 0 0) (words l.fn.amplitudes)
