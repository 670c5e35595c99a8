-- Runs of a tree, as the code goes through them: what a level's run asks, the runs of the levels below ask too, of the rest of the
-- work slice; and how two runs are joined.
-- Assumes nothing.
use mathlib.Core.Path.{◌≡◌, refl, sym, ap, ap₂, ◌∙◌}
use mathlib.Core.List.{List, ◌++◌}
use Prim.Native.Nat.{ℕ, zero, suc, ◌+◌, ◌*◌, ◌-◌, ◌^◌, ◌≤◌, ◌<◌}
use native.Mathlib.Nat.{mul-le-mul, le_refl, mul-one, suc-mul, two-pow-succ}
use native.Mathlib.Omega.{arith}
use lib.ListN.{length, take, drop, length-append, length-drop}
use lib.Pow.{pow_pos, pow_mono}
use lib.Seq.{take_at, length-take-le}
use Rattle.torus.specs.Bytes.{words}
use Rattle.torus.proofs.Joined.{chunk_inside}
use Rattle.torus.proofs.Parts.{length_words, words_take, front_back}
use Rattle.trgsw.specs.declared.Parameters.{Parameters}
use Rattle.tables.specs.declared.Numbers.{Numbers}
use Rattle.trgsw.specs.Parameters.{parameters, sample_size, block_size}
use Rattle.tables.specs.Numbers.{rotations}
use Rattle.trgsw.specs.External.{cmux_sample}
use Rattle.trees.specs.LookedUp.{selector, tree_sample}
use Rattle.tables.specs.Table.{entry_words}
use Rattle.tables.specs.Inner.{Leaf}
use Rattle.lookup.specs.Inner.{Run}
use Rattle.trees.proofs.Trees.{tree_none, tree_more}

-- ---- levels

-- A level that is not the lowest.
pub level_some : (d : ℕ) → (d ≡ 0 → ⊥) → 0 < d
level_some zero h = absurd (h refl)
level_some (suc d) h = omega arith

-- Two runs of a level below have no more entries than a run.
power_below : (d e : ℕ) → e < d → 2 * 2 ^ e ≤ 2 ^ d
power_below d e l = omega (arith, pow_mono {i = suc e} {j = d} l, two-pow-succ e)

entries_inside : (d e t u : ℕ) → e < d → u ≤ 2 * t + 1 → suc u * 2 ^ e ≤ suc t * 2 ^ d
entries_inside d e t u l h =
    let twice : suc u ≤ 2 * suc t = omega arith in
    omega (arith, mul-le-mul twice (le_refl (2 ^ e)), mul-le-mul (le_refl (suc t)) (power_below d e l))

-- What a run of level d asks, and a level e below it.
module _ (x : Numbers) (d e t : ℕ) (sample work blocks : ℕ) (table : List ℕ) (l : e < d) (r : Run x d t sample work blocks table) where
  -- There is room for the level's own sample.
  pub own_inside : sample ≤ work
  own_inside = omega (arith, chunk_inside e d (sample_size (parameters x.scheme)) l, r.work_length, r.sample_length)

  -- The block of level e is among the blocks.
  pub blocks_inside : 4 * (suc (rotations x + e) * block_size (parameters x.scheme)) ≤ blocks
  blocks_inside =
      let B : ℕ = block_size (parameters x.scheme) in
      omega (arith, chunk_inside (rotations x + e) (rotations x + d) B (omega arith), suc-mul (rotations x + e) B, r.blocks_length)

  -- The numbers of the runs that it joins are small.
  pub branch_small : 2 * t + 1 < 65536
  branch_small =
      let some : 1 ≤ 2 ^ e = pow_pos e in
      let two : 2 ≤ 2 ^ d = omega (arith, power_below d e l) in
      omega (arith, mul-le-mul (le_refl (suc t)) two, r.leaves)

  -- The run u of level e, in the rest of the work slice.
  pub lower : (u rest : ℕ) → u ≤ 2 * t + 1 → rest + sample ≡ work → Run x e u sample rest blocks table
  lower u rest h w = record {
    leaves = omega (arith, entries_inside d e t u l h, r.leaves);
    sample_length = r.sample_length;
    work_length = omega (arith, chunk_inside e d (sample_size (parameters x.scheme)) l, r.work_length, r.sample_length);
    blocks_length = omega (arith, chunk_inside (rotations x + e) (rotations x + d) (block_size (parameters x.scheme)) (omega arith), r.blocks_length);
    table_length = omega (arith, mul-le-mul (entries_inside d e t u l h) (le_refl (entry_words x.visibility x)), r.table_length);
    below = r.below;
  }

-- A run of level 0 is a sample of the table,
pub leaf : (x : Numbers) (d t sample work blocks : ℕ) (table : List ℕ) → d ≡ 0 → Run x d t sample work blocks table → Leaf x t sample table
leaf x d t sample work blocks table z r = record {
  sample_length = r.sample_length;
  table_length = omega (arith, r.table_length, ap (λ n. suc t * 2 ^ n * entry_words x.visibility x) z, ap (λ n. n * entry_words x.visibility x) (mul-one (suc t)));
  below = r.below;
}

-- ---- the gates on their way through the tree

-- A ledger begins with g gates; h are counted after the first run of level e, and n after the second.
module _ (d e g : ℕ) (l : e < d) (fits : g + 2 ^ d < 2 ^ 64) where
  pub first_gates : g + 2 ^ e < 2 ^ 64
  first_gates = omega (arith, power_below d e l)

  pub second_gates : (h : ℕ) → h + 1 ≡ g + 2 ^ e → h + 2 ^ e < 2 ^ 64
  second_gates h first = omega (arith, power_below d e l)

pub join_gates : (d e g h n : ℕ) → h + 1 ≡ g + 2 ^ e → n + 1 ≡ h + 2 ^ e → e < d → g + 2 ^ d < 2 ^ 64 → n + 1 < 2 ^ 64
join_gates d e g h n first second l fits = omega (arith, power_below d e l)

-- After the join there is one more, and these are as many as a tree of level d has.
pub gates_more : (d e g h n r : ℕ) → d ≡ e + 1 → h + 1 ≡ g + 2 ^ e → n + 1 ≡ h + 2 ^ e → r ≡ n + 1 → r + 1 ≡ g + 2 ^ d
gates_more d e g h n r level first second joined =
    let whole : d ≡ suc e = omega arith in
    omega (arith, ap (λ x. 2 ^ x) whole, two-pow-succ e)

-- ---- the work slice

-- The rest of a slice.
pub rest_length : (own : ℕ) (w : List ℕ) → own ≤ length w → length (take (length w - own) (drop own w)) + own ≡ length w
rest_length own w h =
    let size : length (drop own w) ≡ length w - own = length-drop own w in
    omega (arith, length-take-le (length w - own) (drop own w) (omega arith))

-- A slice whose rest was lent keeps its length when the rest is back as ys.
pub whole_length : (own : ℕ) (w ys : List ℕ) → own ≤ length w → length ys ≡ length (take (length w - own) (drop own w))
    → length (take own w ++ (ys ++ drop (length w - own) (drop own w))) ≡ length w
whole_length own w ys h e = omega (
  arith,
  e,
  rest_length own w h,
  length-append (take own w) (ys ++ drop (length w - own) (drop own w)),
  length-append ys (drop (length w - own) (drop own w)),
  length-take-le own w h,
  length-drop (length w - own) (drop own w),
  length-drop own w,
)

-- What is kept at the front of a slice stays there while the rest is lent and comes back.
front_kept : (S own q : ℕ) (w ys o rest : List ℕ) → own ≡ 4 * S → length o ≡ own → own ≤ length w → words w ≡ words o ++ rest
    → take S (words (take own w ++ (ys ++ drop q (drop own w)))) ≡ words o
front_kept S own q w ys o rest e lo inside made =
    let whole : List ℕ = take own w ++ (ys ++ drop q (drop own w)) in
    let front : take own whole ≡ take own w = take_at (take own w) _ own (length-take-le own w inside) in
    sym (words_take S whole) ∙ ap (λ m. words (take m whole)) (sym e) ∙ ap words front ∙ ap (λ m. words (take m w)) e ∙ words_take S w
    ∙ ap (take S) made ∙ take_at (words o) rest S (omega (arith, length_words o))

-- What was made at the front of a slice that was lent for it.
pub front_made : (S q : ℕ) (w ys : List ℕ) → q ≡ 4 * S → length ys ≡ q → take S (words (take 0 w ++ (ys ++ drop q (drop 0 w)))) ≡ words ys
front_made S q w ys e len = ap (take S) (front_back S q w ys e len) ∙ take_at (words ys) _ S (omega (arith, length_words ys))

-- ---- the tree's sample

module _ (p : Parameters) (blocks : List ℕ) (r : ℕ) (entry : ℕ → List ℕ) where
  -- A run of level 0 is an entry.
  pub tree_sample_none : (d t : ℕ) → d ≡ 0 → tree_sample p blocks r entry d t ≡ entry t
  unfolding tree_sample
  tree_sample_none d t z = tree_none _ entry d t z

  -- Selector i, which is r + e, joins runs 2t and 2t + 1 of level e: the first is x, and the second, o, is kept at the front of the work
  -- slice w while the rest is lent and comes back as ys.
  pub tree_sample_more : (d e i t own q : ℕ) (x o w ys rest : List ℕ) → d ≡ e + 1 → i ≡ r + e
      → own ≡ 4 * sample_size p → length o ≡ own → own ≤ length w → words w ≡ words o ++ rest
      → words o ≡ tree_sample p blocks r entry e (2 * t + 1) → words x ≡ tree_sample p blocks r entry e (2 * t)
      → cmux_sample p (selector p i blocks) (words x) (take (sample_size p) (words (take own w ++ (ys ++ drop q (drop own w)))))
      ≡ tree_sample p blocks r entry d t
  unfolding tree_sample
  tree_sample_more d e i t own q x o w ys rest level same size len inside kept second first =
      rw same (ap₂ (cmux_sample p (selector p (r + e) blocks)) first (front_kept (sample_size p) own q w ys o rest size len inside kept ∙ second)
      ∙ sym (tree_more _ entry d e t level))
