-- `lookup::rotation::evaluate` meets its contract. Assumes nothing.
use Rattle.std.proofs.Common.{◌≡◌, ℕ, ◌+◌, ◌-◌, ◌/◌, ◌^◌, ◌≤◌, length, replicate, ap, ap₂, sym, subst, ◌∙◌, arith, le_refl, mul-le-mul, pow_pos}
use Rattle.torus.specs.Bytes.{words}
use Rattle.trgsw.specs.Parameters.{block_size, parameters}
use Rattle.tables.specs.declared.Numbers.{Numbers}
use Rattle.tables.specs.Numbers.{rotations, levels}
use Rattle.trees.specs.LookedUp as LookedUp
use Rattle.tables.specs.Table as Table
use Rattle.lookup.specs.Inner.{Selectors, Run}
use Rattle.tables.proofs.Packings.{rotations_le, rotations_power}
use Rattle.lookup.proofs.Charges.{selectors_fit, fewer}
use Rattle.lookup.proofs.rotation.evaluate.Goals as goal

-- The tree's levels, and that they and r are all selectors.
level : (x : Numbers) (r : ℕ) → r ≡ rotations x → x.d - r ≡ levels x
level x r e = ap (λ (n : ℕ). x.d - n) e

whole : (x : Numbers) (r : ℕ) → r ≡ rotations x → rotations x + (x.d - r) ≡ x.d
whole x r e = omega (arith, rotations_le x)

pub overflow_sub-lent : goal.overflow_sub-lent
overflow_sub-lent c = omega (arith, c.rotations-turns.ensures, rotations_le c.args.lent.now.numbers)

pub tree-found-requires : goal.tree-found-requires
tree-found-requires c =
    let a = c.args in
    let x = a.lent.now.numbers in
    let lev = level x _ c.rotations-turns.ensures in
    let all = whole x _ c.rotations-turns.ensures in
    let charged = selectors_fit x x.d a.lent.now.amplitudes.now c.requires.0 x.d (le_refl x.d) in (
      subst (λ d. Selectors x d a.lent.now.amplitudes.now) (sym all) c.requires.0,
      subst (λ l. Run x l 0 (length a.sample.now) (length a.work.now) (length a.lent.now.blocks.now) a.lent.now.table.now) (sym lev) c.requires.2,
      omega (arith, charged, c.largest_amplitude-begun.ensures.1, ap (LookedUp.charges (parameters x.scheme) (words a.lent.now.amplitudes.now)) all),
      omega (arith, c.requires.2.leaves, ap (λ (l : ℕ). 2 ^ l) lev),
    )

pub blind_rotation-ledger-requires : goal.blind_rotation-ledger-requires
blind_rotation-ledger-requires c =
    let a = c.args in
    let x = a.lent.now.numbers in
    let p = parameters x.scheme in
    let r = c.rotations-turns.result in
    let e = c.rotations-turns.ensures in
    let T = c.tree-found in
    let charged = selectors_fit x x.d a.lent.now.amplitudes.now c.requires.0 x.d (le_refl x.d) in
    let all : r ≤ rotations x + levels x = omega (arith, e) in (
      fewer x x.d r a.lent.now.amplitudes.now (omega (arith, e, rotations_le x)) c.requires.0,
      omega (arith, ap (λ (n : ℕ). 2 ^ n) e, rotations_power x c.requires.0.lawful),
      T.auto.sample ∙ c.requires.2.sample_length,
      omega (arith, T.auto.sample, T.auto.work, c.requires.3),
      omega (arith, mul-le-mul all (le_refl (block_size p)), c.requires.2.blocks_length),
      omega (
        arith,
        T.ensures.1,
        charged,
        c.largest_amplitude-begun.ensures.1,
        ap (LookedUp.charges p (words a.lent.now.amplitudes.now)) (whole x _ e),
        ap (LookedUp.charges p (words a.lent.now.amplitudes.now)) e,
      ),
      omega (arith, T.ensures.2, c.requires.2.leaves, ap (λ (l : ℕ). 2 ^ l) (level x _ e), e, rotations_le x, c.requires.0.depth),
    )

pub returns : goal.returns
unfolding LookedUp.looked_up
returns c =
    let a = c.args in
    let x = a.lent.now.numbers in
    let p = parameters x.scheme in
    let e = c.rotations-turns.ensures in
    let T = c.tree-found in
    let B = c.blind_rotation-ledger in
    let entry = Table.table_sample x (words a.lent.now.table.now) in (
      B.ensures.0
          ∙ ap₂ (LookedUp.blind_rotation p (words a.lent.now.blocks.now)) e
          (T.ensures.0 ∙ ap (λ l. LookedUp.tree_sample p (words a.lent.now.blocks.now) (rotations x) entry l 0) (level x _ e)),
      c.clear_words.ensures ∙ ap (λ (m : ℕ). replicate (m / 4) 0) (B.auto.work ∙ T.auto.work),
      omega (
        arith,
        B.ensures.1,
        T.ensures.1,
        c.largest_amplitude-begun.ensures.0,
        ap (LookedUp.charges p (words a.lent.now.amplitudes.now)) (whole x _ e),
        ap (LookedUp.charges p (words a.lent.now.amplitudes.now)) e,
      ),
      omega (arith, B.ensures.2, T.ensures.2, ap (λ (l : ℕ). 2 ^ l) (level x _ e), e, pow_pos (levels x)),
    )
