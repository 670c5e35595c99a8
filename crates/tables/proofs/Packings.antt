-- The two packings: how many selectors rotate, and what the limits of each leave of the numbers.
-- Assumes nothing.
use mathlib.Core.Path.{◌≡◌, refl, ap, ap₂, sym, subst, ◌∙◌}
use mathlib.Core.Logic.{◌⊎◌, inl, inr}
use mathlib.Core.List.{List}
use Prim.Native.Nat.{ℕ, ◌+◌, ◌-◌, ◌*◌, ◌^◌, ◌≤◌, min}
use native.Mathlib.Nat.{le_refl, add-zero, sub-zero, suc-mul, le_trans, mul-le-mul, min-le_left, min-le_right}
use native.Mathlib.Omega.{arith}
use lib.Count.{count_trailing_zeros}
use lib.Dec.{lit≤}
use lib.ListN.{length}
use lib.Pow.{pow_mono, pow-add}
use Rattle.ring.specs.Polynomial.{Degree, log}
use Rattle.ring.proofs.Degrees.{degree_power, degree_pos}
use Rattle.tables.specs.declared.Packing.{Packing}
use Rattle.tables.specs.declared.Packing.TheVariants.{Horizontal, Vertical}
use Rattle.tables.specs.Table.{entry_words}
use Rattle.tables.specs.Inner.{Leaf}
use Rattle.trgsw.proofs.Charges.{sample_size_le}
use Rattle.trgsw.proofs.Told.{told_sized}
use Rattle.tables.specs.declared.Visibility.{Visibility}
use Rattle.tables.specs.declared.Visibility.TheVariants.{Public, Hidden}
use Rattle.tables.specs.declared.Numbers.{Numbers}
use Rattle.tables.specs.Numbers.{LawfulNumbers, rotating, rotations, levels, sample_classes, table_size, table_samples, table_words, gate_count, most_classes, most_selectors, deepest}

-- ---- of a packing

rotating_le : (q : Packing) (N d : ℕ) → rotating q N d ≤ d
rotating_le Horizontal N d = omega arith
rotating_le Vertical N d = min-le_right (log N) d

rotating_power : (q : Packing) (N d : ℕ) → Degree N → 2 ^ rotating q N d ≤ N
rotating_power Horizontal N d ok = degree_pos N ok
rotating_power Vertical N d ok = omega (arith, degree_power N ok, pow_mono {i = min (log N) d} {j = log N} (min-le_left (log N) d))

most_selectors_le : (q : Packing) → most_selectors q ≤ deepest
most_selectors_le Horizontal = lit≤ tt
most_selectors_le Vertical = lit≤ tt

most_classes_le : (q : Packing) (N : ℕ) → Degree N → most_classes q N ≤ N
most_classes_le Horizontal N ok = le_refl N
most_classes_le Vertical N ok = degree_pos N ok

-- A sample has one entry, or entries of one class.
one_or_one : (q : Packing) (N d s : ℕ) → 1 ≤ s → s ≤ most_classes q N → (rotating q N d ≡ 0) ⊎ (s ≡ 1)
one_or_one Horizontal N d s some most = inl refl
one_or_one Vertical N d s some most = let e : s ≡ 1 = omega arith in inr e

-- The longest tables of both packings.
table_le : (q : Packing) (N d s : ℕ) → N ≤ 1024 → s ≤ most_classes q N → d ≤ most_selectors q → s * 2 ^ d ≤ 1048576
table_le Horizontal N d s few most depth =
    let entries : 2 ^ d ≤ 2 ^ 10 = pow_mono {i = d} {j = 10} depth in
    let classes : s ≤ 1024 = omega arith in
    omega (arith, mul-le-mul classes entries)
table_le Vertical N d s few most depth =
    let entries : 2 ^ d ≤ 2 ^ 16 = pow_mono {i = d} {j = 16} depth in
    omega (arith, mul-le-mul most entries)

-- ---- of a lookup's numbers

pub rotations_le : (x : Numbers) → rotations x ≤ x.d
unfolding rotations
rotations_le x = rotating_le x.packing x.scheme.N x.d

-- The tree's selectors are those that do not rotate.
pub rotations_levels : (x : Numbers) → rotations x + levels x ≡ x.d
rotations_levels x = omega (arith, rotations_le x)

-- Document 01's packing: none rotates, and the gates are those of the tree.
pub rotations_horizontal : (x : Numbers) → x.packing ≡ Horizontal → rotations x ≡ 0
unfolding rotations
rotations_horizontal x e = ap (λ q. rotating q x.scheme.N x.d) e

pub gates_horizontal : (x : Numbers) → x.packing ≡ Horizontal → gate_count x ≡ 2 ^ x.d - 1
gates_horizontal x e =
    ap (λ (r : ℕ). 2 ^ (x.d - r) - 1 + r) (rotations_horizontal x e) ∙ add-zero _ ∙ ap (λ (n : ℕ). 2 ^ n - 1) (sub-zero x.d)

pub depth_horizontal : (x : Numbers) → LawfulNumbers x → x.packing ≡ Horizontal → x.d ≤ 10
depth_horizontal x ok e = subst (λ q. x.d ≤ most_selectors q) e ok.depth

-- Paper 1's: an entry is one class.
pub classes_vertical : (x : Numbers) → LawfulNumbers x → x.packing ≡ Vertical → x.s ≡ 1
classes_vertical x ok e =
    let most : x.s ≤ 1 = subst (λ q. x.s ≤ most_classes q x.scheme.N) e ok.most in
    omega (arith, ok.some)

rotations_vertical : (x : Numbers) → x.packing ≡ Vertical → rotations x ≡ min (log x.scheme.N) x.d
unfolding rotations
rotations_vertical x e = ap (λ q. rotating q x.scheme.N x.d) e

-- With N = 1 nothing rotates: it is the plain tree in either packing.
rotating_one : (q : Packing) (d : ℕ) → rotating q 1 d ≡ 0
unfolding count_trailing_zeros
rotating_one Horizontal d = refl
rotating_one Vertical d = omega arith

pub rotations_one : (x : Numbers) → x.scheme.N ≡ 1 → rotations x ≡ 0
unfolding rotations
rotations_one x one = ap (λ N. rotating x.packing N x.d) one ∙ rotating_one x.packing x.d

-- With N = 2^v, "gates are 2^(d - v) - 1 + v",
pub gates_vertical : (x : Numbers) → x.packing ≡ Vertical → log x.scheme.N ≤ x.d → gate_count x ≡ 2 ^ (x.d - log x.scheme.N) - 1 + log x.scheme.N
gates_vertical x e h = let turns : rotations x ≡ log x.scheme.N = omega (arith, rotations_vertical x e) in ap (λ (r : ℕ). 2 ^ (x.d - r) - 1 + r) turns

-- "or d when d is below v".
pub gates_vertical_few : (x : Numbers) → x.packing ≡ Vertical → x.d ≤ log x.scheme.N → gate_count x ≡ x.d
gates_vertical_few x e h =
    let turns : rotations x ≡ x.d = omega (arith, rotations_vertical x e) in
    let none : levels x ≡ 0 = omega arith in
    ap₂ (λ (n r : ℕ). 2 ^ n - 1 + r) none turns ∙ omega arith

module _ (x : Numbers) (ok : LawfulNumbers x) where
  pub depth_le : x.d ≤ deepest
  depth_le = le_trans ok.depth (most_selectors_le x.packing)

  pub classes_le : x.s ≤ x.scheme.N
  classes_le = le_trans ok.most (most_classes_le x.packing x.scheme.N ok.scheme.degree)

  -- X^(-2^i) is a rotation by less than N, for each selector i that rotates.
  pub rotations_power : 2 ^ rotations x ≤ x.scheme.N
  unfolding rotations
  rotations_power = rotating_power x.packing x.scheme.N x.d ok.scheme.degree

  pub single : (rotations x ≡ 0) ⊎ (x.s ≡ 1)
  unfolding rotations
  single = one_or_one x.packing x.scheme.N x.d x.s ok.some ok.most

  -- The classes of a sample of the table have room in it.
  pub sample_classes_le : sample_classes x ≤ x.scheme.N
  sample_classes_le = go single
    where
      go : (rotations x ≡ 0) ⊎ (x.s ≡ 1) → x.s * 2 ^ rotations x ≤ x.scheme.N
      go (inl e) = omega (arith, ap (λ n. x.s * 2 ^ n) e, classes_le)
      go (inr e) = omega (arith, ap (λ n. n * 2 ^ rotations x) e, rotations_power)

  -- The samples of a table hold all its classes.
  pub table_samples_fill : 2 ^ levels x * sample_classes x ≡ table_size x
  table_samples_fill =
      let whole : 2 ^ x.d ≡ 2 ^ rotations x * 2 ^ levels x = ap (λ n. 2 ^ n) (sym (rotations_levels x)) ∙ pow-add 2 (rotations x) (levels x) in
      omega (arith, ap (λ n. x.s * n) whole)

  -- Of a public table and of a hidden one, what is lent of each sample makes up the table.
  pub table_entries : (v : Visibility) → table_samples x * entry_words v x ≡ table_words v x
  table_entries Public = table_samples_fill
  table_entries Hidden = refl

  -- The classes of a table are at most 2^20.
  pub table_size_le : table_size x ≤ 1048576
  table_size_le = table_le x.packing x.scheme.N x.d x.s ok.scheme.degree.most ok.most ok.depth

  pub table_samples_le : table_samples x ≤ 65536
  table_samples_le = let low : levels x ≤ 16 = omega (arith, depth_le) in omega (arith, pow_mono {i = levels x} {j = 16} low)

  -- So what is lent of a table is at most 2^16 times the words of a sample.
  pub table_words_le : (v : Visibility) → table_words v x ≤ 335544320
  table_words_le Public = omega (arith, table_size_le)
  table_words_le Hidden = omega (arith, mul-le-mul table_samples_le (sample_size_le _ (told_sized x.scheme ok.scheme)))

-- What is lent of a sample of the table lies inside it.
pub leaf_inside : (x : Numbers) (t sample : ℕ) (table : List ℕ) → Leaf x t sample table → 4 * (t * entry_words x.visibility x + entry_words x.visibility x) ≤ length table
leaf_inside x t sample table r = omega (arith, r.table_length, suc-mul t (entry_words x.visibility x))
