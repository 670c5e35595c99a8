-- `schoolbook::row_sums` meets its contract. The loop's invariant: sums has the sums of the rows from the i-th on. Assumes nothing.
use Rattle.std.proofs.Common.{◌≡◌, ◌-◌, ap, ◌∙◌, arith, get_or}
use Rattle.std.proofs.lemmas.List.{get_or-replicate}
use Rattle.torus.specs.Bytes.{words}
use Rattle.schoolbook.proofs.RowSums.{row_none, row_down}
use Rattle.schoolbook.proofs.row_sums.Goals as goal

pub loop-i-init : goal.loop-i-init
loop-i-init g c =
    let n = c.args.pair.n in
    let none : n - n ≡ 0 = omega arith in
    rw none (row_none n (words c.args.pair.small.now) c.args.table.now c.fill.new.self
    (λ k l. ap (λ m. get_or m k 0) (c.fill.ensures.after (λ y e. e)) ∙ get_or-replicate _ k 0 0 (omega arith)))

pub loop-i-preserved : goal.loop-i-preserved
loop-i-preserved g c =
    row_down c.args.pair.n c.loop-i.i _ c.word_at-d.result (words c.args.pair.small.now) c.args.table.now c.loop-i.sums c.add_scaled.new.acc
    (omega arith) (omega arith) (omega arith) c.word_at-d.ensures c.loop-i.invariant (λ k l. c.add_scaled.ensures k (omega arith))
