-- The two primes. Both are below 2^30, so that numbers below 4·p fit 32 bits, and both are 1 modulo 2,048, so that X^1024 + 1 splits
-- into linear factors modulo each.
-- Assumes nothing.
use Rattle.std.specs.Prelude.{ℕ}
use Rattle.twiddles.specs.declared.Prime.{Prime}
use Rattle.twiddles.specs.declared.Prime.TheVariants.{First, Second}

abbrev pub P1 : ℕ
P1 = 1073707009

abbrev pub P2 : ℕ
P2 = 1073698817

abbrev pub modulus : Prime → ℕ
modulus First = P1
modulus Second = P2
