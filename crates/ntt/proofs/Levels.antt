-- The levels, one after the other, down and up.
-- Assumes nothing.
use mathlib.Core.Path.{◌≡◌, ap, sym, ◌∙◌, subst}
use mathlib.Core.List.{List}
use Prim.Native.Nat.{ℕ, suc, ◌+◌, ◌*◌, ◌-◌, ◌%◌, ◌^◌, ◌≤◌, ◌<◌}
use native.Mathlib.Nat.{two-pow-succ, le_trans, le_of_eq, mul_assoc, lt_of_not-le}
use Rattle.std.proofs.lemmas.Nat.{one_shl}
use native.Mathlib.Omega.{arith}
use lib.ListN.{get_or, length}
use lib.Pow.{pow_pos, pow_mono, pow-add}
use Rattle.ring.specs.Polynomial.{coefficients}
use Rattle.ntt.specs.Nodes.{At}
use Rattle.butterflies.specs.Butterflies.{Stored, Reduced, Prepared, DownLevel, UpLevel, down_low, down_high, up_low, up_high}
use Rattle.ntt.specs.Transforms.{Table, Twiddles, Down, Up}
use Rattle.butterflies.specs.Same.{Same}
use Rattle.butterflies.proofs.SameLaws.{same_trans, same_path, same_scale}
use Rattle.ntt.proofs.NodeLaws.{at_start, at_down, at_up, halves}

pub table_prepared : (p n d : ℕ) (t q : List ℕ) → Table p n t q → d < n → Prepared p (2 ^ d) t q
table_prepared p n d t q T l =
    let e : 2 ^ d + 2 ^ d ≤ 2 ^ n = le_trans (le_of_eq (sym (two-pow-succ d))) (pow_mono l) in
    record {
      long = omega (arith, T.long);
      longq = omega (arith, T.longq);
      small = T.small;
      pos = T.pos;
      ready = λ i li. T.ready (2 ^ d + i) (omega (arith, pow_pos d)) (omega arith);
    }

pub whole : (n d : ℕ) → d ≤ n → 2 ^ d * 2 ^ (n - d) ≡ 2 ^ n
whole n d l = sym (pow-add 2 d (n - d)) ∙ ap (λ e. 2 ^ e) (omega arith)

pub down_start : (p n : ℕ) (t a : List ℕ) → Down p n t 0 a a
unfolding Down
down_start p n t a c h = at_start p (p - 1) n (coefficients t) c (coefficients a) h

pub down_step : (p n : ℕ) (t : List ℕ) (d h : ℕ) (a b e : List ℕ) → d < n → h ≡ 2 ^ (n - suc d) → Down p n t d a b
    → DownLevel p (2 ^ d) h t b e → Down p n t (suc d) a e
unfolding Down down_low down_high
down_step p n t d h a b e l f H L c k =
    at_down p (p - 1) n (coefficients t) 1 d l c (coefficients b) (coefficients e) (H c k)
    (rw f at L.low) (rw f at L.high)

-- The leaves may be reduced.
pub down_reduced : (p n : ℕ) (t a b e : List ℕ) → length b ≡ 2 ^ n → Down p n t n a b → Stored (Reduced p b) (length b) b e → Down p n t n a e
unfolding Down At
down_reduced p n t a b e len H S c h j k lj lk =
    let f : 2 ^ (n - n) ≡ 1 = ap (λ x. 2 ^ x) (let g : n - n ≡ 0 = omega arith in g) in
    let l : k < 1 = rw f at lk in
    let i : j * 2 ^ (n - n) + k < length b = rw (f, len) (omega arith) in
    same_trans (S.done (j * 2 ^ (n - n) + k) i).1 (H c h j k lj lk)

pub up_start : (p n : ℕ) (t a : List ℕ) → Up p n t n a a
unfolding Up
up_start p n t a c h =
    let f : n - n ≡ 0 = omega arith in
    subst (λ m. At p (p - 1) n (coefficients t) m n c (coefficients a)) (sym (ap (λ x. 2 ^ x) f)) h

-- w·(y - x) is -w·(x - y), and -w is the inverse of t if w·t is minus one.
turned : (p z : ℕ) → suc z ≡ p → (w x y : ℕ) → Same p (w * (y + z * x)) (z * w * (x + z * y))
turned p z o w x y = record { s = z * (w * y); t = w * y; same = omega (arith, ap (λ n. z * (w * y) * n) o, ap (λ n. w * y * n) o) }

inverse : (p z : ℕ) → suc z ≡ p → (w t : ℕ) → Same p (w * t) z → Same p (z * w * t) 1
inverse p z o w t h = same_trans (same_path (mul_assoc z w t)) (same_trans (same_scale z h) (record { s = 1; t = z; same = omega (arith, ap (λ n. z * n) o) }))

module _ (p n : ℕ) (t q : List ℕ) (T : Twiddles p n t q) (d : ℕ) (l : d < n) where
  mirror : (j : ℕ) → get_or t (2 ^ d + (2 ^ d - 1 - j)) 0 ≡ get_or t (2 ^ d + (2 ^ d - suc j)) 0
  mirror j = let e : 2 ^ d - 1 - j ≡ 2 ^ d - suc j = omega arith in ap (λ i. get_or t (2 ^ d + i) 0) e

  pub up_step : (h : ℕ) (a b e : List ℕ) → h ≡ 2 ^ (n - suc d) → Up p n t (suc d) a b → UpLevel p (2 ^ d) h t b e → Up p n t d a e
  unfolding Up up_low up_high
  up_step h a b e f H L c k =
      let o : suc (p - 1) ≡ p = omega (arith, T.table.pos) in
      let g : 2 * 2 ^ (n - suc d) ≡ 2 ^ (n - d) = omega (arith, halves n d l) in
      subst (λ m. At p (p - 1) n (coefficients t) m d c (coefficients e)) g
      (at_up p (p - 1) n (coefficients t) (2 ^ (n - suc d)) d l c (coefficients b) (coefficients e) o
      (λ i. (p - 1) * get_or t (2 ^ d + (2 ^ d - 1 - (i - 2 ^ d))) 0)
      (λ j lj. let i : 2 ^ d + j - 2 ^ d ≡ j = omega arith in
      rw (i, mirror j) (inverse p (p - 1) o _ _ (T.mirrored d j l lj)))
      (H c k) (rw f at L.low)
      (λ j m lj lm. let i : 2 ^ d + j - 2 ^ d ≡ j = omega arith in
      rw i (same_trans (rw f at L.high j m lj lm) (turned p (p - 1) o _ _ _))))

-- A shift by the level's number fits.
pub few : (n L : ℕ) → 2 ^ n ≤ L → L < 18446744073709551616 → n < 64
few n L h l = lt_of_not-le (λ g. let f : ⊥ = omega (arith, pow_mono {i = 64} {j = n} g, h, l) in f)

pub half_is : (n d : ℕ) → n < 64 → 1 * 2 ^ (n - 1 - d) % 18446744073709551616 ≡ 2 ^ (n - suc d)
half_is n d l = let e : n - 1 - d ≡ n - suc d = omega arith in one_shl (n - 1 - d) 64 (omega arith) ∙ ap (λ x. 2 ^ x) e

pub level_room : (n d L : ℕ) → d < n → L ≡ 2 ^ n → 2 ^ d * (2 ^ (n - suc d) + 2 ^ (n - suc d)) ≤ L
level_room n d L l e = rw e (le_of_eq (ap (λ x. 2 ^ d * x) (sym (halves n d l)) ∙ whole n d (omega arith)))
