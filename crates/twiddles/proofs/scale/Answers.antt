-- `twiddles::scale` meets its contract. Assumes nothing.
use Rattle.std.proofs.Common.{ap, get_or, refl}
use Rattle.twiddles.proofs.TableTest.{handed_scale}
use Rattle.twiddles.proofs.scale.Goals as goal

pub invariant_of-result : goal.invariant_of-result
invariant_of-result c =
    let l = c.lists-lists.ensures in
    record { ready = (handed_scale c.args.prime c.modulus.ensures l.2 l.3 refl refl c.requires).0 }

pub returns : goal.returns
returns c =
    let l = c.lists-lists.ensures in (
      c.modulus.ensures,
      ap (λ x. get_or x c.args.n 0) l.2,
      ap (λ x. get_or x c.args.n 0) l.3,
      (handed_scale c.args.prime c.modulus.ensures l.2 l.3 refl refl c.requires).1,
    )
