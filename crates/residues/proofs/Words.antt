-- Words, their residues, and what two remainders say of a word.
-- Assumes nothing.
use Rattle.std.proofs.Common.{◌≡◌, ℕ, suc, ◌+◌, ◌-◌, ◌*◌, ◌%◌, ◌^◌, ◌<◌, ◌≤◌, cond, ltb, refl, ap, ◌∙◌, mod-lt, lt_of_not-le, arith, le-ltb, lt-ltb}
use native.Mathlib.Nat.{mod-mod}
use native.Mathlib.Decide.{dec_le}
use Rattle.torus.specs.Word.{magnitude}
use Rattle.butterflies.specs.Same.{Same}
use Rattle.butterflies.proofs.SameLaws.{same_refl, same_trans, same_path, same_add, same_scale, same_mod, eq_same}
use Rattle.twiddles.specs.Primes.{P1, P2}
use Rattle.residues.specs.Residues.{above, below, residue, Word}

-- ---- the centred reading

pub low_word : (w : ℕ) → w < 2147483648 → (above w ≡ w) × (below w ≡ 0)
unfolding above below
low_word w l = (rw (lt-ltb w 2147483648 l), rw (lt-ltb w 2147483648 l))

pub high_word : (w : ℕ) → 2147483648 ≤ w → (above w ≡ 0) × (below w ≡ 4294967296 - w)
unfolding above below
high_word w l = (rw (le-ltb w 2147483648 l), rw (le-ltb w 2147483648 l))

-- The two parts together are the magnitude.
pub parts_magnitude : (w : ℕ) → above w + below w ≡ magnitude w
unfolding above below magnitude
parts_magnitude w = go (dec_le 2147483648 w)
  where
    go : Dec (2147483648 ≤ w) → cond (ltb w (2 ^ 31)) w 0 + cond (ltb w (2 ^ 31)) 0 (2 ^ 32 - w) ≡ cond (ltb w (2 ^ 31)) w (2 ^ 32 - w)
    go (yes g) = rw (le-ltb w 2147483648 g) (omega arith)
    go (no g) = rw (lt-ltb w 2147483648 (lt_of_not-le g)) (omega arith)

-- A word is the residue of its own.
pub word_residue : (w : ℕ) → w ≤ 4294967296 → Same 4294967296 w (above w + 4294967295 * below w)
word_residue w l = go (dec_le 2147483648 w)
  where
    go : Dec (2147483648 ≤ w) → Same 4294967296 w (above w + 4294967295 * below w)
    go (yes g) = rw ((high_word w g).0, (high_word w g).1) (record { s = 4294967296 - w; t = 1; same = omega arith })
    go (no g) = rw ((low_word w (lt_of_not-le g)).0, (low_word w (lt_of_not-le g)).1) (same_path (omega arith))

-- ---- lifts

pub lift_low : (p w : ℕ) → w < 2147483648 → Same p w (residue p w)
unfolding residue
lift_low p w l = same_path (rw ((low_word w l).0, (low_word w l).1) (omega arith))

pub lift_high : (p w : ℕ) → p < 1073741824 → 4294967296 ≤ 6 * p → 2147483648 ≤ w → w ≤ 4294967295
    → Same p (w - (4294967295 - (4 * (p - 1) + 3))) (residue p w)
unfolding residue
lift_high p w lp big l g =
    let o : suc (p - 1) ≡ p = omega arith in
    let e : below w ≡ 4294967296 - w = (high_word w l).1 in
    let i : above w ≡ 0 = (high_word w l).0 in
    record { s = below w; t = 4; same = omega (arith, ap (λ n. below w * n) o) }

-- A remainder by a number that p is.
pub rem_is : (p P m : ℕ) → 0 < p → p ≡ P → (m % P < p) × Same p (m % P) m
rem_is p P m pos e = rw (← e) (mod-lt m pos, same_mod p m)

-- ---- two remainders

-- Same modulo p and modulo q, of which p has the inverse u modulo q, is same modulo p·q.
same_both : (p q u v x y : ℕ) → u * p ≡ 1 + v * q → Same p x y → Same q x y → Same (p * q) x y
same_both p q u v x y e h k = record {
  s = v * h.t + u * k.s;
  t = v * h.s + u * k.t;
  same = omega (arith, ap (λ n. x * n) e, ap (λ n. y * n) e, ap (λ n. u * p * n) k.same, ap (λ n. v * q * n) h.same);
}

centre_low : (v m a : ℕ) → Same (P1 * P2) (v + m) a → a + m ≤ 576418972683954176 → v ≤ 576418972683954176 → v + m ≡ a
centre_low v m a h l lv = omega (arith, h.same)

centre_high : (v m a : ℕ) → Same (P1 * P2) (v + m) a → a + m ≤ 576418972683954176
    → 576418972683954176 < v → v < (P1 * P2) → v + m ≡ a + (P1 * P2)
centre_high v m a h l lv lw = omega (arith, h.same)

pub crt_second : (x y k : ℕ) → x < P1 → Same P2 k ((y + 3221096451 - x) * 805143046) → Same P2 (x + P1 * k) y
crt_second x y k l h = same_trans (same_add (same_refl x) (same_scale P1 h))
    (record { s = 0; t = 3 + (y + 3221096451 - x) * 805149189; same = omega arith })

module _ (a b v : ℕ) (h₁ : Same P1 v a) (h₂ : Same P2 v b) where
  meets : (z c x y : ℕ) → Same (suc z) v c → Same (suc z) c (x + z * y) → Same (suc z) (v + y) x
  meets z c x y h g = same_trans (same_add (same_trans h g) (same_refl y)) (record { s = 0; t = y; same = omega arith })

  both : (x y : ℕ) → Same P1 a (x + (P1 - 1) * y) → Same P2 b (x + (P2 - 1) * y) → Same (P1 * P2) (v + y) x
  both x y f g = same_both P1 P2 805143046 805149189 _ _ refl (meets (P1 - 1) a x y h₁ f) (meets (P2 - 1) b x y h₂ g)

  turn : (r x y : ℕ) → Same 4294967296 (r + y) x → Same 4294967296 r (x + 4294967295 * y)
  turn r x y h = record { s = y + h.s; t = h.t; same = omega (arith, h.same) }

  pub word_low : v ≤ 576418972683954176 → (r : ℕ) → r ≡ v % 4294967296 → Word a b r
  unfolding Word
  word_low l r e x y lx f g = same_trans (eq_same (ap (λ n. n % 4294967296) e ∙ mod-mod v 4294967296))
      (turn v x y (same_path (centre_low v y x (both x y f g) lx l)))

  pub word_high : 576418972683954176 < v → v < (P1 * P2) → (r : ℕ) → (r + 3644772353) % 4294967296 ≡ v % 4294967296 → Word a b r
  unfolding Word
  word_high l under r e x y lx f g = turn r x y (go (eq_same e))
    where
      go : Same 4294967296 (r + 3644772353) v → Same 4294967296 (r + y) x
      go h = record { s = h.s; t = h.t + 268416000; same = omega (arith, h.same, centre_high v y x (both x y f g) lx l under) }
