-- `ntt::forward` meets its contract. Assumes nothing.
use Rattle.std.proofs.Common.{◌≡◌, ◌^◌, length, arith}
use Rattle.butterflies.proofs.StoredLaws.{stored_below}
use Rattle.ntt.proofs.Levels.{down_reduced}
use Rattle.ntt.proofs.forward.Goals as goal

pub returns : goal.returns
returns c =
    let l : length c.all_levels.new.a ≡ 2 ^ c.args.tables.now.n = omega (arith, c.requires.0) in
    (down_reduced _ _ _ _ _ _ l c.all_levels.ensures.0 c.reduce.ensures, stored_below c.reduce.ensures (λ k v r. r.0))
