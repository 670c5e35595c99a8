-- The loop's invariant: the first r rows are written. Assumes nothing.
use Rattle.std.proofs.Common.{ℕ, List}
use Rattle.torus.specs.Sum.{chunk}
use Rattle.torus.specs.Bytes.{words}
use Rattle.torus.proofs.Joined.{Written}
use Rattle.trgsw.specs.declared.Parameters.{Parameters}
use Rattle.trgsw.specs.Parameters.{key_size, sample_size}
use Rattle.selectors.specs.Encrypted.{encrypted_row}
use Rattle.selectors.proofs.encrypt.Given as goal

-- Row r of the block, which has the length of a sample.
abbrev pub made : (p : Parameters) (m : ℕ) (key masks errors : List ℕ) (r : ℕ) → List ℕ
made p m key masks errors r = encrypted_row p m (words key) (chunk (key_size p) r (words masks)) (chunk p.N r (words errors)) r

abbrev pub invariant-loop-r : goal.invariant-loop-r
invariant-loop-r l =
    Written (sample_size l.p) l.r (made l.p l.lent.bit l.lent.key.now l.lent.masks.now l.lent.errors.now) (words l.fn.block) (words l.block)
