-- `ntt::Tables::level` meets its contract. Assumes nothing.
use Rattle.std.proofs.Common.{◌<◌, arith, refl}
use Rattle.std.proofs.lemmas.Nat.{one_shl}
use Rattle.ntt.proofs.Levels.{few, table_prepared}
use Rattle.ntt.proofs.Tables.level.Goals as goal

pub overflow_shl-result : goal.overflow_shl-result
overflow_shl-result c =
    let f = c.args.self.now in let l : f.n < 64 = few _ _ f.table.long (omega arith) in omega arith

pub invariant_of-result : goal.invariant_of-result
invariant_of-result c =
    let f = c.args.self.now in
    let l : f.n < 64 = few _ _ f.table.long (omega arith) in
    record { prepared = rw (one_shl c.args.d 64 (omega arith)) (table_prepared _ _ _ _ _ f.table c.requires) }

pub returns : goal.returns
returns c =
    let f = c.args.self.now in
    let l : f.n < 64 = few _ _ f.table.long (omega arith) in
    (refl, one_shl c.args.d 64 (omega arith), refl)
