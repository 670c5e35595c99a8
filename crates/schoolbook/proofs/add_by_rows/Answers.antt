-- `schoolbook::add_by_rows` meets its contract. Assumes nothing.
use Rattle.std.proofs.Common.{◌<◌, ◌^◌, length, get_or, ap, ◌∙◌, subst, arith}
use lib.ListN.{get_or-append}
use Rattle.torus.specs.Sum.{tabulate}
use Rattle.torus.specs.Word.{add}
use Rattle.torus.specs.Bytes.{words}
use Rattle.schoolbook.proofs.RowSums.{sums_added}
use Rattle.schoolbook.proofs.add_by_rows.Goals as goal

pub returns : goal.returns
returns g c =
    let out = c.args.out.now in
    let p = c.args.pair in
    let table = c.both_signs.new.table in
    let sums = c.row_sums.new.sums in
    c.add_words.ensures
    ∙ ap (λ n. tabulate n (λ k. add (get_or (words out) k 0) (get_or sums k 0))) {x = length sums} {y = p.n} (omega arith)
    ∙ sums_added p.n (words out) (words p.small.now) (words p.row.now) table sums
    (λ i l. subst (λ x. x < 2 ^ 32) (get_or-append table _ 0 i (omega arith)) (c.type_inv.room i).fits) c.both_signs.ensures c.row_sums.ensures
