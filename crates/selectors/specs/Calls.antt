-- The public call that encrypts a selector: its whole answer, and what it leaves in the slice that it writes. The answer has a line for each
-- row of document 01's table of returned numbers that applies; those of the parameter set stand together.
-- Assumes nothing.
use Rattle.std.specs.Prelude.{Ok, List, ℕ, ◌*◌, length}
use Rattle.torus.specs.Bytes.{words, bytes}
use Rattle.answers.specs.Checks.{◌or_else◌}
use Rattle.answers.specs.Checks as Check
use Rattle.answers.specs.Answers.{Answer, greatest_magnitude, after}
use Rattle.trgsw.specs.declared.Parameters.{Parameters}
use Rattle.trgsw.specs.Parameters.{scheme_of, parameters, unweighted_refusal, key_size, row_count, block_size}
use Rattle.selectors.specs.declared.Lent.{Lent}
use Rattle.selectors.specs.Encrypted.{encrypted_block}

-- The input of one encryption: its numbers, and its slices as lists of bytes, as they are lent. It writes the last.
pub record SelectorInput : Type 0 where
  pub N : ℕ
  pub g : ℕ
  pub L : ℕ
  pub bit : ℕ
  pub key : List ℕ
  pub masks : List ℕ
  pub errors : List ℕ
  pub block : List ℕ

-- That of a call that is lent these.
abbrev pub selector_of : (lent : Lent) (block : List ℕ) → SelectorInput
selector_of lent block = record {
  N = lent.N;
  g = lent.g;
  L = lent.L;
  bit = lent.bit;
  key = lent.key.now;
  masks = lent.masks.now;
  errors = lent.errors.now;
  block = block;
}

-- The parameter set. No weight is declared: encryption has no charge.
abbrev pub selector_set : SelectorInput → Parameters
selector_set c = parameters (scheme_of c.N c.g c.L)

-- "Encrypt a selector: masks and errors for all rows are lent; it reports the same": the greatest error magnitude as bound.
unfoldable pub encrypt_selector : SelectorInput → Answer
encrypt_selector c =
    let p = selector_set c in
    unweighted_refusal c.N c.g c.L
    or_else Check.exact (length c.key) (key_size p) or_else Check.exact (length c.masks) (row_count p * key_size p)
    or_else Check.exact (length c.errors) (row_count p * p.N) or_else Check.exact (length c.block) (block_size p)
    or_else Check.bit c.bit
    or_else Check.key (words c.key)
    or_else Ok (record { bound = greatest_magnitude (words c.errors); gates = 0 })

-- What it leaves in the block's slice.
unfoldable pub encrypt_selector_block : SelectorInput → List ℕ
encrypt_selector_block c =
    after (encrypt_selector c) (bytes (encrypted_block (selector_set c) c.bit (words c.key) (words c.masks) (words c.errors))) c.block
