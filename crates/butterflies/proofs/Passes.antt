-- Laws of a pass of butterflies, and of a level of passes.
-- Assumes nothing.
use mathlib.Core.Path.{◌≡◌, refl, ap, sym, ◌∙◌}
use mathlib.Core.List.{List}
use mathlib.Core.Logic.{◌⊎◌, inl, inr, ◌≢◌}
use Prim.Native.Nat.{ℕ, suc, ◌+◌, ◌*◌, ◌-◌, ◌<◌}
use native.Mathlib.Nat.{le_of_suc-le-suc, eq-or-lt_of_le, le_refl, mul_comm, mul-le-mul_right}
use native.Mathlib.Decide.{ℕ_discrete}
use native.Mathlib.Numerals.{add-one}
use native.Mathlib.Omega.{arith}
use lib.ListN.{get_or, length, set, length-set}
use lib.Seq.{get_or-set_same, get_or-set_other}
use Rattle.butterflies.specs.Same.{Same}
use Rattle.butterflies.specs.Butterflies.{Below, down_low, down_high, up_low, up_high, Butterfly, Pass, Level}
use Rattle.butterflies.proofs.SameLaws.{same_refl, same_trans, same_path, same_add, same_scale}

pub pass_none : (p : ℕ) (f g : ℕ → ℕ → ℕ) (s h : ℕ) (a : List ℕ) → Pass p f g s h 0 a a
pass_none p f g s h a = record {
  len = refl;
  low = λ k l. let f : ⊥ = omega arith in absurd f;
  high = λ k l. let f : ⊥ = omega arith in absurd f;
  before = λ i l. refl;
  middle = λ i l m. refl;
  after = λ i l. refl;
}

-- Two stores at different places.
abbrev two : List ℕ → ℕ → ℕ → ℕ → ℕ → List ℕ
two l i j u v = set (set l i u) j v

module _ (l : List ℕ) (i j u v : ℕ) (ne : i ≢ j) (li : i < length l) (lj : j < length l) where
  two_len : length (two l i j u v) ≡ length l
  two_len = length-set (set l i u) j v ∙ length-set l i u

  two_first : get_or (two l i j u v) i 0 ≡ u
  two_first = get_or-set_other (set l i u) j i v 0 ne ∙ get_or-set_same l i u 0 li

  two_second : get_or (two l i j u v) j 0 ≡ v
  two_second = get_or-set_same (set l i u) j v 0 (rw (length-set l i u) lj)

  two_other : (k : ℕ) → k ≢ i → k ≢ j → get_or (two l i j u v) k 0 ≡ get_or l k 0
  two_other k ki kj = get_or-set_other (set l i u) j k v 0 kj ∙ get_or-set_other l i k u 0 ki

  two_below : (B : ℕ) → Below B l → u < B → v < B → Below B (two l i j u v)
  two_below B h hu hv k lk = go (ℕ_discrete k i) (ℕ_discrete k j)
    where
      go : Dec (k ≡ i) → Dec (k ≡ j) → get_or (two l i j u v) k 0 < B
      go (yes e) f = rw (e, two_first) hu
      go (no e) (yes f) = rw (f, two_second) hv
      go (no e) (no f) = rw (two_other k e f) (h k (rw two_len at lk))

-- x - y modulo p.
pub minus_same : (p x y x' y' : ℕ) → 0 < p → y < p + p → Same p x x' → Same p y y' → Same p (x + (p + p - y)) (x' + (p - 1) * y')
minus_same p x y x' y' pos ly hx hy = same_trans
    (record { s = y; t = 2; same = let o : suc (p - 1) ≡ p = omega arith in omega (arith, ap (λ n. y * n) o) })
    (same_add hx (same_scale (p - 1) hy))

-- The butterflies, from what fold and shoup return.
pub down_low_is : (p w x y X Y : ℕ) → Same p x X → Same p y (Y * w) → Same p (x + y) (down_low w X Y)
unfolding down_low
down_low_is p w x y X Y hx hy = same_add hx (same_trans hy (same_path (mul_comm Y w)))

pub down_high_is : (p w x y X Y : ℕ) → 0 < p → y < p + p → Same p x X → Same p y (Y * w) → Same p (x + (p + p - y)) (down_high p w X Y)
unfolding down_high
down_high_is p w x y X Y pos ly hx hy = same_trans (minus_same p x y X (Y * w) pos ly hx hy)
    (same_path (omega arith))

pub down_below : (p x y : ℕ) → 0 < p → x < p + p → y < p + p → (x + y < 4 * p) × (x + (p + p - y) < 4 * p)
down_below p x y pos lx ly = (omega arith, omega arith)

pub up_low_is : (p x y r : ℕ) → Same p r (x + y) → Same p r (up_low x y)
unfolding up_low
up_low_is p x y r h = h

pub up_high_is : (p w x y r : ℕ) → 0 < p → x < p + p → Same p r ((y + (p + p - x)) * w) → Same p r (up_high p w x y)
unfolding up_high
up_high_is p w x y r pos lx h = same_trans h (same_trans (same_path (mul_comm _ w)) (same_scale w (minus_same p y x y x pos lx (same_refl y) (same_refl x))))

-- The two stores of a butterfly.
pub both_stored : (p : ℕ) (f g : ℕ → ℕ → ℕ) (i h u v : ℕ) (a : List ℕ) → 0 < h → i + h < length a
    → Same p u (f (get_or a i 0) (get_or a (i + h) 0)) → Same p v (g (get_or a i 0) (get_or a (i + h) 0))
    → Butterfly p f g i (i + h) a (two a i (i + h) u v)
both_stored p f g i h u v a pos l hu hv = record {
  len = two_len a i (i + h) u v ne li l;
  low = same_trans (same_path (two_first a i (i + h) u v ne li l)) hu;
  high = same_trans (same_path (two_second a i (i + h) u v ne li l)) hv;
  rest = two_other a i (i + h) u v ne li l;
}
  where
    ne : i ≢ i + h
    ne = omega arith

    li : i < length a
    li = omega arith

pub both_below : (i h u v : ℕ) (a : List ℕ) (B : ℕ) → 0 < h → i + h < length a → Below B a → u < B → v < B → Below B (two a i (i + h) u v)
both_below i h u v a B pos l = two_below a i (i + h) u v (omega arith) (omega arith) l B

module _ (p : ℕ) (f g : ℕ → ℕ → ℕ) (s h j : ℕ) (a b c : List ℕ) (H : Pass p f g s h j a b) (lj : j < h) (K : Butterfly p f g (s + j) (s + j + h) b c) where
  swap : s + j + h ≡ s + h + j
  swap = omega arith

  ex : get_or b (s + j) 0 ≡ get_or a (s + j) 0
  ex = H.middle (s + j) (le_refl (s + j)) (omega arith)

  ey : get_or b (s + j + h) 0 ≡ get_or a (s + h + j) 0
  ey = ap (λ k. get_or b k 0) swap ∙ H.after (s + h + j) (le_refl (s + h + j))

  go_low : (k : ℕ) → (k ≡ j) ⊎ (k < j) → Same p (get_or c (s + k) 0) (f (get_or a (s + k) 0) (get_or a (s + h + k) 0))
  go_low k (inl e) = rw e (rw (ex, ey) at K.low)
  go_low k (inr g) = same_trans (same_path (K.rest (s + k) (omega arith) (omega arith))) (H.low k g)

  go_high : (k : ℕ) → (k ≡ j) ⊎ (k < j) → Same p (get_or c (s + h + k) 0) (g (get_or a (s + k) 0) (get_or a (s + h + k) 0))
  go_high k (inl e) = rw e (same_trans (same_path (ap (λ k. get_or c k 0) (sym swap))) (rw (ex, ey) at K.high))
  go_high k (inr g) = same_trans (same_path (K.rest (s + h + k) (omega arith) (omega arith))) (H.high k g)

  -- One butterfly more.
  pub pass_step : Pass p f g s h (j + 1) a c
  pass_step = record {
    len = K.len ∙ H.len;
    low = λ k l. go_low k (eq-or-lt_of_le (le_of_suc-le-suc (rw (add-one j) at l)));
    high = λ k l. go_high k (eq-or-lt_of_le (le_of_suc-le-suc (rw (add-one j) at l)));
    before = λ i l. K.rest i (omega arith) (omega arith) ∙ H.before i l;
    middle = λ i l m. K.rest i (omega arith) (omega arith) ∙ H.middle i (omega arith) m;
    after = λ i l. K.rest i (omega arith) (omega arith) ∙ H.after i (omega arith);
  }

pub level_none : (p : ℕ) (f g : ℕ → ℕ → ℕ → ℕ) (h : ℕ) (a : List ℕ) → Level p f g h 0 a a
level_none p f g h a = record {
  len = refl;
  low = λ i k l. let f : ⊥ = omega arith in absurd f;
  high = λ i k l. let f : ⊥ = omega arith in absurd f;
  rest = λ i l. refl;
}

module _ (p : ℕ) (f g : ℕ → ℕ → ℕ → ℕ) (h j : ℕ) (a b c : List ℕ) (H : Level p f g h j a b) (K : Pass p (f j) (g j) (j * (h + h)) h h b c) where
  lev_low : (i k : ℕ) → (i ≡ j) ⊎ (i < j) → k < h → Same p (get_or c (i * (h + h) + k) 0) (f i (get_or a (i * (h + h) + k) 0) (get_or a (i * (h + h) + h + k) 0))
  lev_low i k (inl e) lk = rw e (rw (H.rest (j * (h + h) + k) (omega arith), H.rest (j * (h + h) + h + k) (omega arith)) at (K.low k lk))
  lev_low i k (inr l) lk = same_trans (same_path (K.before (i * (h + h) + k) (omega (arith, mul-le-mul_right (h + h) l)))) (H.low i k l lk)

  lev_high : (i k : ℕ) → (i ≡ j) ⊎ (i < j) → k < h → Same p (get_or c (i * (h + h) + h + k) 0) (g i (get_or a (i * (h + h) + k) 0) (get_or a (i * (h + h) + h + k) 0))
  lev_high i k (inl e) lk = rw e (rw (H.rest (j * (h + h) + k) (omega arith), H.rest (j * (h + h) + h + k) (omega arith)) at (K.high k lk))
  lev_high i k (inr l) lk = same_trans (same_path (K.before (i * (h + h) + h + k) (omega (arith, mul-le-mul_right (h + h) l)))) (H.high i k l lk)

  -- One node more.
  pub level_step : Level p f g h (j + 1) a c
  level_step = record {
    len = K.len ∙ H.len;
    low = λ i k l lk. lev_low i k (eq-or-lt_of_le (le_of_suc-le-suc (rw (add-one j) at l))) lk;
    high = λ i k l lk. lev_high i k (eq-or-lt_of_le (le_of_suc-le-suc (rw (add-one j) at l))) lk;
    rest = λ i l. K.after i (omega arith) ∙ H.rest i (omega arith);
  }

-- One node more of a level that a way makes, by the factor w.
pub way_step : (low : ℕ → ℕ → ℕ → ℕ) (high : ℕ → ℕ → ℕ → ℕ → ℕ) (at : ℕ → ℕ) {p q w : ℕ} (h j : ℕ) (t a b c : List ℕ) → q ≡ p → w ≡ get_or t (at j) 0
    → Level p (λ i. low (get_or t (at i) 0)) (λ i. high p (get_or t (at i) 0)) h j a b → Pass q (low w) (high q w) (j * (h + h)) h h b c
    → Level p (λ i. low (get_or t (at i) 0)) (λ i. high p (get_or t (at i) 0)) h (j + 1) a c
way_step low high at {p} h j t a b c e f H K =
    level_step p (λ i. low (get_or t (at i) 0)) (λ i. high p (get_or t (at i) 0)) h j a b c H (rw (e, f) at K)
