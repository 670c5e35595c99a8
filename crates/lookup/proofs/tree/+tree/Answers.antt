-- `lookup::tree::tree` meets its contract. The level is the number that falls. Assumes nothing.
use Rattle.std.proofs.Common.{◌≡◌, ℕ, suc, ◌+◌, ◌-◌, ◌*◌, ◌^◌, ◌≤◌, ◌<◌, length, get_or, refl, ap, sym, subst, ◌∙◌, arith, add-zero}
use Rattle.torus.specs.Bytes.{words}
use Rattle.trgsw.specs.Parameters.{block_size, parameters}
use Rattle.trgsw.specs.External.{charge}
use Rattle.tables.specs.Numbers.{rotations}
use Rattle.trees.specs.LookedUp as LookedUp
use Rattle.tables.specs.Table as Table
use Rattle.lookup.proofs.Charges.{charges_more, fewer, branch_bound, join_bound}
use Rattle.lookup.proofs.Runs.{level_some, own_inside, blocks_inside, lower, first_gates, second_gates, join_gates, gates_more, rest_length, whole_length, tree_sample_none, tree_sample_more}
use Rattle.lookup.proofs.tree.+tree.Goals as goal

pub returns-then-d-eq0 : goal.returns-then-d-eq0
returns-then-d-eq0 t c =
    let a = c.args in
    let x = a.lent.now.numbers in
    let entry = Table.table_sample x (words a.lent.now.table.now) in
    let z : a.d ≡ 0 = c.if-d-eq0.true in (
      c.write_entry.ensures ∙ sym (tree_sample_none (parameters x.scheme) (words a.lent.now.blocks.now) (rotations x) entry a.d a.t z),
      omega (
        arith,
        ap (λ (d : ℕ). LookedUp.charges (parameters x.scheme) (words a.lent.now.amplitudes.now) (rotations x + d)) z,
        ap (LookedUp.charges (parameters x.scheme) (words a.lent.now.amplitudes.now)) (add-zero (rotations x)),
      ),
      omega (arith, ap (λ (d : ℕ). 2 ^ d) z),
    )

pub tree-odd-requires : goal.tree-odd-requires
tree-odd-requires t c =
    let a = c.args in
    let x = a.lent.now.numbers in
    let r = c.requires in
    let low : a.d - 1 < a.d = omega (arith, level_some a.d c.if-d-eq0.false) in
    let own = own_inside x a.d (a.d - 1) a.t _ _ _ a.lent.now.table.now low r.1 in (
      omega (arith, c.decreases, low),
      (
        fewer x (rotations x + a.d) _ a.lent.now.amplitudes.now (omega arith) r.0,
        lower x a.d (a.d - 1) a.t _ _ _ a.lent.now.table.now low r.1 (2 * a.t + 1) _ (omega arith) (rest_length (length a.sample.now) a.work.now own),
        branch_bound (parameters x.scheme) (words a.lent.now.amplitudes.now) a.ledger.bound (rotations x + a.d) _ _ refl (omega (arith, low)) r.2,
        first_gates a.d _ a.ledger.gates low r.3,
      ),
    )

pub tree-even-requires : goal.tree-even-requires
tree-even-requires t c =
    let a = c.args in
    let x = a.lent.now.numbers in
    let r = c.requires in
    let T = c.tree-odd in
    let B = c.beside in
    let low : a.d - 1 < a.d = omega (arith, level_some a.d c.if-d-eq0.false) in
    let own = own_inside x a.d (a.d - 1) a.t _ _ _ a.lent.now.table.now low r.1 in
    let same : length c.keep.new.work ≡ length a.work.now =
    c.keep.auto.work ∙ whole_length (length a.sample.now) a.work.now T.new.work own T.auto.work in
    let room : length a.sample.now ≤ length c.keep.new.work = omega (arith, same, own) in (
      omega (arith, c.decreases, low),
      (
        fewer x (rotations x + a.d) _ a.lent.now.amplitudes.now (omega arith) r.0,
        rw T.auto.sample
            (lower x a.d (a.d - 1) a.t _ _ _ a.lent.now.table.now low r.1 (2 * a.t) _ (omega arith)
            (rest_length (length a.sample.now) c.keep.new.work room ∙ same)),
        branch_bound (parameters x.scheme) (words a.lent.now.amplitudes.now) a.ledger.bound (rotations x + a.d) _ B.result.bound B.ensures.0
            (omega (arith, low)) r.2,
        rw B.ensures.1 (second_gates a.d _ a.ledger.gates low r.3 T.result.gates T.ensures.2),
      ),
    )

pub join-requires : goal.join-requires
join-requires t c =
    let a = c.args in
    let x = a.lent.now.numbers in
    let p = parameters x.scheme in
    let As = words a.lent.now.amplitudes.now in
    let r = c.requires in
    let T = c.tree-odd in
    let U = c.tree-even in
    let B = c.beside in
    let turns = c.rotations.ensures in
    let low : a.d - 1 < a.d = omega (arith, level_some a.d c.if-d-eq0.false) in
    let up : rotations x + (a.d - 1) < rotations x + a.d = omega (arith, low) in
    let own = own_inside x a.d (a.d - 1) a.t _ _ _ a.lent.now.table.now low r.1 in
    let same : length c.keep.new.work ≡ length a.work.now =
    c.keep.auto.work ∙ whole_length (length a.sample.now) a.work.now T.new.work own T.auto.work in
    let room : length a.sample.now ≤ length c.keep.new.work = omega (arith, same, own) in
    let size : length U.new.sample ≡ length a.sample.now = U.auto.sample ∙ T.auto.sample in (
      fewer x (rotations x + a.d) _ a.lent.now.amplitudes.now (omega (arith, up, turns)) r.0,
      size ∙ r.1.sample_length,
      omega (arith, size, room, whole_length (length a.sample.now) c.keep.new.work U.new.work room U.auto.work),
      subst (λ (n : ℕ). 4 * (suc (n + (a.d - 1)) * block_size p) ≤ length a.lent.now.blocks.now) (sym turns)
          (blocks_inside x a.d (a.d - 1) a.t _ _ _ a.lent.now.table.now low r.1),
      subst (λ (n : ℕ). U.result.bound + charge p (get_or As (n + (a.d - 1)) 0) < 2 ^ 64) (sym turns)
          (join_bound p As a.ledger.bound (rotations x + a.d) (rotations x + (a.d - 1)) (rotations x) B.result.bound _
          U.ensures.1 B.ensures.0 up r.2),
      join_gates a.d _ a.ledger.gates B.result.gates _ (ap (λ (h : ℕ). h + 1) B.ensures.1 ∙ T.ensures.2) U.ensures.2 low r.3,
    )

pub returns : goal.returns
returns t c =
    let a = c.args in
    let x = a.lent.now.numbers in
    let p = parameters x.scheme in
    let r = c.requires in
    let T = c.tree-odd in
    let U = c.tree-even in
    let B = c.beside in
    let J = c.join in
    let K = c.keep in
    let turns = c.rotations.ensures in
    let entry = Table.table_sample x (words a.lent.now.table.now) in
    let own = length a.sample.now in
    let low : a.d - 1 < a.d = omega (arith, level_some a.d c.if-d-eq0.false) in
    let level : a.d ≡ a.d - 1 + 1 = omega (arith, low) in
    let inside = own_inside x a.d (a.d - 1) a.t _ _ _ a.lent.now.table.now low r.1 in
    let same : length K.new.work ≡ length a.work.now =
    K.auto.work ∙ whole_length own a.work.now T.new.work inside T.auto.work in
    let room : own ≤ length K.new.work = omega (arith, same, inside) in (
      J.ensures.0
          ∙ tree_sample_more p (words a.lent.now.blocks.now) (rotations x) entry a.d (a.d - 1) _ a.t own (length K.new.work - own)
          U.new.sample T.new.sample K.new.work U.new.work _ level (ap (λ (n : ℕ). n + (a.d - 1)) turns) r.1.sample_length T.auto.sample
          room K.ensures T.ensures.0 U.ensures.0,
      omega (
        arith,
        J.ensures.1,
        ap (λ (n : ℕ). charge p (get_or (words a.lent.now.amplitudes.now) (n + (a.d - 1)) 0)) turns,
        U.ensures.1,
        B.ensures.0,
        charges_more p (words a.lent.now.amplitudes.now) (rotations x + a.d) (rotations x + (a.d - 1)) (omega (arith, low)),
      ),
      gates_more a.d (a.d - 1) a.ledger.gates B.result.gates U.result.gates _ level
          (ap (λ (h : ℕ). h + 1) B.ensures.1 ∙ T.ensures.2) U.ensures.2 J.ensures.2,
    )
