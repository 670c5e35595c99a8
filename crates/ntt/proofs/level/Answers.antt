-- `ntt::level` meets its contract. Assumes nothing.
use Rattle.std.proofs.Common.{◌<◌, arith, pow_pos}
use Rattle.ntt.proofs.Levels.{few, half_is, level_room}
use Rattle.ntt.proofs.level.Goals as goal

pub overflow_shl-h : goal.overflow_shl-h
overflow_shl-h g c =
    let f = c.args.tables.now in let l : f.n < 64 = few _ _ f.table.long (omega arith) in omega arith

pub level-requires-2 : goal.level-requires-2
level-requires-2 g c =
    let f = c.args.tables.now in
    let e = c.level.ensures in
    let l : f.n < 64 = few _ _ f.table.long (omega arith) in
    rw (e.0, e.1, half_is f.n c.args.d l) (pow_pos c.args.d, level_room _ _ _ c.requires.0 c.requires.1, c.requires.2)

pub returns : goal.returns
returns g c =
    let f = c.args.tables.now in
    let e = c.level.ensures in
    let l : f.n < 64 = few _ _ f.table.long (omega arith) in
    rw (e.0, e.1, e.2, half_is f.n c.args.d l) at c.level-2.ensures
