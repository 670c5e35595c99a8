-- `lwe::write_scalar` meets its contract. The loop's invariant: the first t words are those of the extracted masks. Assumes
-- nothing.
use Rattle.std.proofs.Common.{◌≡◌}
use Rattle.torus.specs.Bytes.{words}
use Rattle.torus.proofs.Lists.{filled}
use Rattle.lwe.proofs.Extraction.{mask_word}
use Rattle.lwe.proofs.write_scalar.Given as goal

abbrev pub invariant-loop-t : goal.invariant-loop-t
invariant-loop-t l = words l.scalar ≡ filled l.t (mask_word l.n l.p (words l.sample)) (words l.fn.scalar)
