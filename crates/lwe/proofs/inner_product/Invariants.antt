-- `lwe::inner_product` meets its contract. The loop's invariant: total is the sum of the first j products. Assumes nothing.
use Rattle.std.proofs.Common.{◌≡◌, ◌*◌, ◌%◌, ◌^◌, get_or}
use Rattle.torus.specs.Sum.{sum}
use Rattle.torus.specs.Bytes.{words}
use Rattle.lwe.proofs.inner_product.Given as goal

abbrev pub invariant-loop-j : goal.invariant-loop-j
invariant-loop-j l = l.total ≡ sum l.j (λ i. get_or (words l.scalar) i 0 * get_or (words l.key) i 0) % 2 ^ 32
