-- `row_terms::hold_term` meets its contract. Assumes nothing.
use Rattle.row_terms.proofs.hold_term.Goals as goal

pub returns : goal.returns
returns c = rw (c.write_row_digits.ensures, c.row_at.ensures.0) at c.hold_row.ensures
