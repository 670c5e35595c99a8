-- `tables::Lawful::rotations` meets its contract. Assumes nothing.
use Rattle.std.proofs.Common.{◌≡◌, min, ap, sym, ◌∙◌, arith}
use Rattle.ring.specs.Polynomial.{log}
use Rattle.tables.specs.Numbers.{rotating, rotations}
use Rattle.tables.proofs.Lawful.rotations.Goals as goal

pub returns-in-Horizontal : goal.returns-in-Horizontal
unfolding rotations
returns-in-Horizontal c = let x = c.args.self.numbers in ap (λ q. rotating q x.scheme.N x.d) (sym c.in-Horizontal.is)

pub returns-in-Vertical : goal.returns-in-Vertical
unfolding rotations
returns-in-Vertical c =
    let x = c.args.self.numbers in
    let least : c.min.result ≡ min (log x.scheme.N) x.d = grind (arith, c.min.ensures, c.exponent-most.ensures.0) in
    least ∙ ap (λ q. rotating q x.scheme.N x.d) (sym c.in-Vertical.is)
