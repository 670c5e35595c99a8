-- `lookup::tree::join` meets its contract. Assumes nothing.
use Rattle.std.proofs.Common.{◌≡◌, ℕ, suc, ◌+◌, ◌-◌, ◌*◌, ◌≤◌, List, length, take, drop, refl, ap, ap₂, ◌∙◌, arith, suc-mul, length-drop, length-take-le}
use Rattle.torus.specs.Bytes.{words}
use Rattle.torus.proofs.Parts.{words_lent}
use Rattle.trgsw.specs.Parameters.{sample_size, block_size, parameters}
use Rattle.trgsw.specs.External.{cmux_sample}
use Rattle.trees.specs.LookedUp.{selector}
use Rattle.lookup.proofs.tree.join.Goals as goal

-- The length of a part.
length_chunk_at : (p e : ℕ) (xs : List ℕ) → e ≤ length xs → length (take (e - p) (drop p xs)) ≡ e - p
length_chunk_at p e xs l = length-take-le (e - p) (drop p xs) (omega (arith, length-drop p xs))

-- Block i lies inside the blocks.
block_within : (i n m blocks : ℕ) → n ≡ m → 4 * (suc i * m) ≤ blocks → i * (4 * n) + 4 * n ≤ blocks
block_within i n m blocks e h =
    let inside : 4 * (suc i * n) ≤ blocks = omega (arith, h, ap (λ (n : ℕ). 4 * (suc i * n)) e) in
    omega (arith, inside, suc-mul i n)

pub overflow_mul-at : goal.overflow_mul-at
overflow_mul-at c = omega (arith, block_within c.args.i _ _ _ c.block_size.ensures.0 c.requires.3)

pub cmux_in_place-requires : goal.cmux_in_place-requires
cmux_in_place-requires c =
    let a = c.args in
    let own = length a.sample.now in
    let size = 4 * c.block_size.result in
    let at = a.i * size in
    let ok = c.requires.0.lawful in
    rw c.parameter_set.ensures (record {
      degree = ok.scheme.degree;
      gadget = ok.scheme.gadget;
      block_length = omega (arith, c.block_size.ensures.0, length_chunk_at at (at + size) a.lent.now.blocks.now (block_within a.i _ _ _ c.block_size.ensures.0 c.requires.3));
      x_length = omega (arith, c.requires.1, c.requires.2, length-take-le (own - 0) a.work.now (omega (arith, c.requires.2)));
      y_length = c.requires.1;
    })

pub returns : goal.returns
returns c =
    let a = c.args in
    let p = parameters a.lent.now.numbers.scheme in
    let own = length a.sample.now in
    let size = 4 * c.block_size.result in
    let at = a.i * size in
    let block = take (at + size - at) (drop at a.lent.now.blocks.now) in
    let work = take (own - 0) (drop 0 a.work.now) in
    let block_words : words block ≡ selector p a.i (words a.lent.now.blocks.now) =
    words_lent (a.i * block_size p) (block_size p) at (at + size - at) a.lent.now.blocks.now
    (omega (arith, ap (λ (n : ℕ). a.i * n) c.block_size.ensures.0)) (omega (arith, c.block_size.ensures.0)) in
    let work-words : words work ≡ take (sample_size p) (words a.work.now) =
    words_lent 0 (sample_size p) 0 (own - 0) a.work.now refl (omega (arith, c.requires.1)) in (
      c.cmux_in_place.ensures.0
          ∙ ap (λ q. cmux_sample q (words block) (words a.sample.now) (words work)) c.parameter_set.ensures
          ∙ ap₂ (λ b x. cmux_sample p b (words a.sample.now) x) block_words work-words,
      omega (arith, c.raise.ensures.0, c.charge_of.ensures),
      c.raise.ensures.1,
    )
