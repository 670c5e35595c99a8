-- Words and their residues modulo the two primes. Two residues determine an integer of a size up to (P1·P2 - 1)/2 =
-- 576418972683954176, and so its word.
-- Assumes nothing.
use Rattle.std.specs.Prelude.{◌≡◌, ℕ, ◌+◌, ◌-◌, ◌*◌, ◌^◌, ◌<◌, ◌≤◌, cond, List, length, nat_lt, slice_index}
use Rattle.torus.specs.Word.{add}
use Rattle.butterflies.specs.Same.{Same}
use Rattle.twiddles.specs.Primes.{P1, P2}

-- The centred reading of a word as a difference of two numbers, one of which is 0.
unfoldable pub above : ℕ → ℕ
above w = cond (nat_lt w (2 ^ 31)) w 0

unfoldable pub below : ℕ → ℕ
below w = cond (nat_lt w (2 ^ 31)) 0 (2 ^ 32 - w)

-- The centred reading modulo p, where p - 1 is minus one.
unfoldable pub residue : (p w : ℕ) → ℕ
residue p w = above w + (p - 1) * below w

-- The same of each coefficient.
unfoldable pub residues : (p : ℕ) (a : ℕ → ℕ) → ℕ → ℕ
residues p a i = residue p (a i)

-- r is the word of x - y, for all x and y of which a and b are the residues of x - y, if they are together small enough.
unfoldable pub Word : (a b r : ℕ) → Type 0
Word a b r = (x y : ℕ) → x + y ≤ 576418972683954176
    → Same P1 a (x + (P1 - 1) * y) → Same P2 b (x + (P2 - 1) * y) → Same (2 ^ 32) r (x + (2 ^ 32 - 1) * y)

-- ---- loops that store one element a turn

-- Every element is at most R·2^60, as sums of R products of numbers below 2^30 are.
abbrev pub Within : (R : ℕ) (l : List ℕ) → Type 0
Within R l = (i : ℕ) → i < length l → slice_index l i ≤ R * 1152921504606846976

-- What the loops store at place k: a word's residue, below 4·p; a sum with a product; a multiple by w.
abbrev pub Lifted : (p : ℕ) (ws : List ℕ) (k v : ℕ) → Type 0
Lifted p ws k v = (v < 4 * p) × Same p v (residue p (slice_index ws k))

abbrev pub Summed : (s f g : List ℕ) (k v : ℕ) → Type 0
Summed s f g k v = v ≡ slice_index s k + slice_index f k * slice_index g k

abbrev pub Scaled : (p w : ℕ) (a : List ℕ) (k v : ℕ) → Type 0
Scaled p w a k v = (v < p) × Same p v (slice_index a k * w)

-- And a sum with a word of which residues are known.
pub record Added (a b out : List ℕ) (k v : ℕ) : Type 0 where
  pub word : ℕ
  pub is : v ≡ add (slice_index out k) word
  pub known : Word (slice_index a k) (slice_index b k) word
