-- The block that encrypts a selector bit, with k masks.
-- Assumes nothing.
use Rattle.std.specs.Prelude.{List, ℕ, get_or}
use Rattle.torus.specs.Sum.{tabulate, joined, chunk}
use Rattle.torus.specs.Word.{add}
use Rattle.trlwe.specs.Sample.{encryption}
use Rattle.trgsw.specs.declared.Parameters.{Parameters}
use Rattle.trgsw.specs.Parameters.{key_size, sample_size, row_count}
use Rattle.trgsw.specs.Block.{gadget_row}

-- "A row is that plus an encryption of 0", here with the masks a.
unfoldable pub encrypted_row : (p : Parameters) (m : ℕ) (key a errors : List ℕ) (r : ℕ) → List ℕ
encrypted_row p m key a errors r =
    tabulate (sample_size p) (λ t. add (get_or (encryption p.N p.k key a errors (λ i. 0)) t 0) (gadget_row p m r t))

-- The block that encrypts the bit m: "masks and errors for all rows are lent", "in row order".
unfoldable pub encrypted_block : (p : Parameters) (m : ℕ) (key masks errors : List ℕ) → List ℕ
encrypted_block p m key masks errors =
    joined (row_count p) (λ r. encrypted_row p m key (chunk (key_size p) r masks) (chunk p.N r errors) r)
