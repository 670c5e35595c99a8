-- `tables::entries::largest_amplitude` meets its contract. Assumes nothing.
use Rattle.std.proofs.Common.{◌≡◌, ◌*◌, ◌/◌, length, get_or, ap, sym, subst, ◌∙◌, arith}
use Rattle.torus.specs.Bytes.{words}
use Rattle.tables.specs.Numbers.{table_samples, declared_words}
use Rattle.trees.specs.LookedUp as LookedUp
use Rattle.tables.specs.Table as Table
use Rattle.trees.proofs.Largest.{largest_none}
use Rattle.tables.proofs.entries.largest_amplitude.Goals as goal

pub returns-in-Public : goal.returns-in-Public
returns-in-Public c =
    let x = c.args.x.numbers in
    let none = largest_none (table_samples x) in
    (subst (λ v. 0 ≡ LookedUp.largest (table_samples x) (λ t. Table.amplitude_of v (words c.args.declared.now) t)) (sym c.in-Public.is) (sym none), omega arith)

pub returns-in-Hidden : goal.returns-in-Hidden
returns-in-Hidden c =
    let x = c.args.x.numbers in
    let ws = words c.args.declared.now in
    let size : length c.args.declared.now ≡ 4 * table_samples x =
    subst (λ v. length c.args.declared.now ≡ 4 * declared_words v x) c.in-Hidden.is c.requires.amplitudes_length in
    let count : length c.args.declared.now / 4 ≡ table_samples x = omega arith in (
      subst (λ v. c.largest_word.result ≡ LookedUp.largest (table_samples x) (λ t. Table.amplitude_of v ws t)) (sym c.in-Hidden.is)
          (c.largest_word.ensures.0 ∙ ap (λ n. LookedUp.largest n (λ t. get_or ws t 0)) count),
      c.largest_word.ensures.1,
    )
