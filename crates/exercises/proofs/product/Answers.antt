-- `exercises::product` makes a pair of factors: two words are a degree, and the words 0 and 1 of X are small. Assumes nothing.
use Rattle.std.proofs.Common.{ℕ, zero, suc, ◌^◌, ◌≤◌, [], ◌∷◌, refl}
use lib.Count.{ones}
use lib.Dec.{lit≤}
use Rattle.torus.specs.Word.{magnitude}
use Rattle.torus.specs.Bytes.{words}
use Rattle.ring.specs.Polynomial.{coefficients}
use Rattle.exercises.proofs.product.Goals as goal

-- The words of X are 0 and 1, and 0 is read past them.
small : (i : ℕ) → magnitude (coefficients (0 ∷ 1 ∷ []) i) ≤ 2 ^ 15
unfolding magnitude
small zero = lit≤ tt
small (suc zero) = lit≤ tt
small (suc (suc i)) = lit≤ tt

pub invariant_of-pair : goal.invariant_of-pair
unfolding ones words
invariant_of-pair c = record {
  degree = record { power = refl; most = lit≤ tt };
  small_length = refl;
  row_length = refl;
  small_words = λ i h. small i;
}
