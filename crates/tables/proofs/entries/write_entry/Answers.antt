-- `tables::entries::write_entry` meets its contract. Assumes nothing.
use Rattle.std.proofs.Common.{◌≡◌, ℕ, ◌+◌, ◌-◌, ◌*◌, ◌≤◌, ◌<◌, List, length, get_or, take, drop, length-take-le, length-drop, ap, sym, ◌∙◌, subst, arith}
use Rattle.torus.specs.Sum.{chunk}
use Rattle.torus.specs.Bytes.{words}
use Rattle.torus.proofs.Parts.{words_lent}
use Rattle.tables.specs.declared.Numbers.{Numbers}
use Rattle.tables.specs.Table as Table
use Rattle.tables.specs.Inner.{Leaf}
use Rattle.tables.proofs.Passed.{class_below}
use Rattle.tables.proofs.Packings.{leaf_inside}
use Rattle.tables.proofs.entries.write_entry.Goals as goal

-- What is lent of the table lies inside it,
inside : (x : Numbers) (t n sample : ℕ) (table : List ℕ) → n ≡ Table.entry_words x.visibility x → Leaf x t sample table → 4 * (t * n + n) ≤ length table
inside x t n sample table e leaf = subst (λ (m : ℕ). 4 * (t * m + m) ≤ length table) (sym e) (leaf_inside x t sample table leaf)

-- and it is part t.
lent : (x : Numbers) (t n : ℕ) (table : List ℕ) → n ≡ Table.entry_words x.visibility x
    → words (take (t * (4 * n) + 4 * n - t * (4 * n)) (drop (t * (4 * n)) table)) ≡ chunk (Table.entry_words x.visibility x) t (words table)
lent x t n table e =
    let at : ℕ = t * (4 * n) in
    words_lent (t * n) n at (at + 4 * n - at) table (omega arith) (omega arith) ∙ ap (λ m. chunk m t (words table)) e

-- Its bytes are those of as many words.
length_lent : (t n : ℕ) (table : List ℕ) → 4 * (t * n + n) ≤ length table
    → length (take (t * (4 * n) + 4 * n - t * (4 * n)) (drop (t * (4 * n)) table)) ≡ 4 * n
length_lent t n table h =
    let at : ℕ = t * (4 * n) in
    let size : at + 4 * n - at ≡ 4 * n = omega arith in
    length-take-le (at + 4 * n - at) (drop at table) (omega (arith, length-drop at table)) ∙ size

pub write_lent-requires : goal.write_lent-requires
write_lent-requires c =
    let a = c.args in
    let x = a.x.numbers in
    let e = c.entry_words.ensures.0 in
    let part = lent x a.t _ a.table.now e in (
      c.requires.sample_length,
      length_lent a.t c.entry_words.result a.table.now (inside x a.t _ _ a.table.now e c.requires) ∙ ap (λ n. 4 * n) e,
      λ is i l. subst (λ ws. get_or ws i 0 < x.M) (sym part) (class_below x (words a.table.now) a.x.lawful (c.requires.below is) (Table.entry_words x.visibility x) a.t i),
    )

pub returns : goal.returns
returns c = c.write_lent.ensures ∙ ap (Table.entry_sample c.args.x.numbers.visibility c.args.x.numbers) (lent c.args.x.numbers c.args.t _ c.args.table.now c.entry_words.ensures.0)
