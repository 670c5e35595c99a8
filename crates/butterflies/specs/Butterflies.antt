-- What the loops of a transform do to a list.
-- Assumes nothing.
use Rattle.std.specs.Prelude.{◌≡◌, List, ◌≢◌, ℕ, ◌+◌, ◌*◌, ◌-◌, ◌/◌, ◌≤◌, ◌<◌, get_or, length}
use Rattle.butterflies.specs.Same.{Same}

-- A factor w below p, p below 2^30, and v = w·2^32/p, with which Shoup's product works.
pub record Ready (p w v : ℕ) : Type 0 where
  pub low : w < p
  pub small : p < 1073741824
  pub quotient : v ≡ w * 4294967296 / p

-- Every element is below B.
abbrev pub Below : (B : ℕ) (l : List ℕ) → Type 0
Below B l = (i : ℕ) → i < length l → get_or l i 0 < B

-- b is a with its first j elements stored anew, each with R.
pub record Stored (R : ℕ → ℕ → Type 0) (j : ℕ) (a b : List ℕ) : Type 0 where
  pub len : length b ≡ length a
  pub done : (k : ℕ) → k < j → R k (get_or b k 0)
  pub rest : (k : ℕ) → j ≤ k → get_or b k 0 ≡ get_or a k 0

-- A number below p that is the same modulo p as element k of a.
abbrev pub Reduced : (p : ℕ) (a : List ℕ) (k v : ℕ) → Type 0
Reduced p a k v = (v < p) × Same p v (get_or a k 0)

-- What a butterfly makes of two numbers. On the way down (Cooley and Tukey), by w: x + w·y and x - w·y.
unfoldable pub down_low : ℕ → ℕ → ℕ → ℕ
down_low w x y = x + w * y

unfoldable pub down_high : ℕ → ℕ → ℕ → ℕ → ℕ
down_high p w x y = x + (p - 1) * w * y

-- On the way up (Gentleman and Sande), by minus w's inverse: x + y and w·(y - x).
unfoldable pub up_low : ℕ → ℕ → ℕ
up_low x y = x + y

unfoldable pub up_high : ℕ → ℕ → ℕ → ℕ → ℕ
up_high p w x y = w * (y + (p - 1) * x)

-- b is a after one butterfly: f and g of the elements at i and j, modulo p.
pub record Butterfly (p : ℕ) (f g : ℕ → ℕ → ℕ) (i j : ℕ) (a b : List ℕ) : Type 0 where
  pub len : length b ≡ length a
  pub low : Same p (get_or b i 0) (f (get_or a i 0) (get_or a j 0))
  pub high : Same p (get_or b j 0) (g (get_or a i 0) (get_or a j 0))
  pub rest : (k : ℕ) → k ≢ i → k ≢ j → get_or b k 0 ≡ get_or a k 0

-- b is a after the first j butterflies of the node of 2h elements from s on. Its two halves stand h apart.
pub record Pass (p : ℕ) (f g : ℕ → ℕ → ℕ) (s h j : ℕ) (a b : List ℕ) : Type 0 where
  pub len : length b ≡ length a
  pub low : (k : ℕ) → k < j → Same p (get_or b (s + k) 0) (f (get_or a (s + k) 0) (get_or a (s + h + k) 0))
  pub high : (k : ℕ) → k < j → Same p (get_or b (s + h + k) 0) (g (get_or a (s + k) 0) (get_or a (s + h + k) 0))
  pub before : (i : ℕ) → i < s → get_or b i 0 ≡ get_or a i 0
  pub middle : (i : ℕ) → s + j ≤ i → i < s + h → get_or b i 0 ≡ get_or a i 0
  pub after : (i : ℕ) → s + h + j ≤ i → get_or b i 0 ≡ get_or a i 0

-- b is a after the passes over the first j nodes of a level, of 2h elements each.
pub record Level (p : ℕ) (f g : ℕ → ℕ → ℕ → ℕ) (h j : ℕ) (a b : List ℕ) : Type 0 where
  pub len : length b ≡ length a
  pub low : (i k : ℕ) → i < j → k < h
      → Same p (get_or b (i * (h + h) + k) 0) (f i (get_or a (i * (h + h) + k) 0) (get_or a (i * (h + h) + h + k) 0))
  pub high : (i k : ℕ) → i < j → k < h
      → Same p (get_or b (i * (h + h) + h + k) 0) (g i (get_or a (i * (h + h) + k) 0) (get_or a (i * (h + h) + h + k) 0))
  pub rest : (i : ℕ) → j * (h + h) ≤ i → get_or b i 0 ≡ get_or a i 0

-- The whole level of m nodes, with the factors t: on the way down factor m + i for node i, on the way up its mirror in the level.
abbrev pub DownLevel : (p m h : ℕ) (t a b : List ℕ) → Type 0
DownLevel p m h t = Level p (λ i. down_low (get_or t (m + i) 0)) (λ i. down_high p (get_or t (m + i) 0)) h m

abbrev pub UpLevel : (p m h : ℕ) (t a b : List ℕ) → Type 0
UpLevel p m h t = Level p (λ i. up_low) (λ i. up_high p (get_or t (m + (m - 1 - i)) 0)) h m

-- The same of whichever way: low and high say what its butterfly makes by a factor, and turn m i which of the m factors node i takes.
abbrev pub WayLevel : (low : ℕ → ℕ → ℕ → ℕ) (high : ℕ → ℕ → ℕ → ℕ → ℕ) (turn : ℕ → ℕ → ℕ) (p m h : ℕ) (t a b : List ℕ) → Type 0
WayLevel low high turn p m h t =
    Level p (λ i. low (get_or t (m + turn m i) 0)) (λ i. high p (get_or t (m + turn m i) 0)) h m

-- Entries m to 2m - 1 of a table of factors and of that of their quotients.
pub record Prepared (p m : ℕ) (t q : List ℕ) : Type 0 where
  pub long : m + m ≤ length t
  pub longq : m + m ≤ length q
  pub small : p < 1073741824
  pub pos : 0 < p
  pub ready : (i : ℕ) → i < m → Ready p (get_or t (m + i) 0) (get_or q (m + i) 0)
