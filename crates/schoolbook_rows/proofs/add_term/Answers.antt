-- `schoolbook_rows::add_term` meets its contract. Assumes nothing.
use Rattle.std.proofs.Common.{arith, ◌^◌, ◌≤◌, get_or, sym, subst}
use Rattle.torus.specs.Word.{magnitude}
use Rattle.torus.specs.Bytes.{words}
use Rattle.schoolbook_rows.proofs.OneRow.{row_digits_small}
use Rattle.schoolbook_rows.proofs.add_term.Goals as goal

pub add_row-requires : goal.add_row-requires
add_row-requires c =
    let t = c.args.terms.now in (
      t.degree,
      c.requires.1,
      omega (arith, c.requires.2),
      c.row_at.ensures.1,
      λ i l. subst (λ ws. magnitude (get_or ws i 0) ≤ 2 ^ 15) (sym c.write_row_digits.ensures)
          (row_digits_small t.n t.gadget.g t.gadget.l (words t.x.now) c.args.r t.gadget.lawful i l),
      c.requires.3,
    )
