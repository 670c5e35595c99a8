-- `jobfile::checks::JobFile::look_up_with` meets its contract. Assumes nothing.
use Rattle.std.proofs.Common.{◌≡◌, ℕ, ◌+◌, ◌-◌, ◌*◌, ◌≤◌, List, length, take, drop, ap, ◌∙◌, arith, rules, length-drop}
use Rattle.torus.proofs.Parts.{back_all}
use Rattle.trgsw.specs.Parameters.{parameters, block_size}
use Rattle.torus.specs.Bytes.{words}
use Rattle.jobfile.specs.Layout.{largest_file, first_count, header_words}
use Rattle.jobfile.specs.declared.checks.JobFile.{JobFile}
use Rattle.jobfile.proofs.Held.{held_some, held_size, blocks_bytes, amplitudes_bytes, classes_bytes, same_job, told}
use Rattle.jobfile.proofs.checks.JobFile.look_up_with.Goals as goal

-- Section two and the count of section three are there.
there : (f : JobFile) (w b : ℕ) → w ≡ header_words (first_count (words f.bytes.now)) → b ≡ block_size (parameters f.numbers.numbers.scheme)
    → (4 * w + 4 * (f.numbers.numbers.d * (1 + b) + 1) ≤ length f.bytes.now) × (length f.bytes.now ≤ largest_file)
there f w b ew eb =
    let size = held_size f.bytes.now f.numbers.numbers f.passes f.read w b ew eb in
    (omega (arith, size), size.1)

rest_length : (p : ℕ) (file : List ℕ) → length (take (length file - p) (drop p file)) ≡ length file - p
rest_length p file = ap length (back_all p file) ∙ length-drop p file

pub header_words-header-requires : goal.header_words-header-requires
header_words-header-requires c =
    let f = c.args.self.now in
    held_some f.bytes.now f.numbers.numbers f.passes f.read

pub slice_bounds-two-count : goal.slice_bounds-two-count
slice_bounds-two-count c = omega (arith, there c.args.self.now _ _ c.header_words-header.ensures c.block_size-b.ensures.0)

pub slice_bounds-two-start : goal.slice_bounds-two-start
slice_bounds-two-start c = omega (arith, there c.args.self.now _ _ c.header_words-header.ensures c.block_size-b.ensures.0)

pub invariant_of-two : goal.invariant_of-two
invariant_of-two c = record {
  there = omega (
    arith,
    there c.args.self.now _ _ c.header_words-header.ensures c.block_size-b.ensures.0,
    rest_length (4 * c.header_words-header.result) c.args.self.now.bytes.now,
  );
  small = c.block_size-b.ensures.1;
}

pub slice_bounds-evaluate-count : goal.slice_bounds-evaluate-count
slice_bounds-evaluate-count c = omega (arith, there c.args.self.now _ _ c.header_words-header.ensures c.block_size-b.ensures.0)

pub slice_bounds-evaluate-start : goal.slice_bounds-evaluate-start
slice_bounds-evaluate-start c = omega (arith, there c.args.self.now _ _ c.header_words-header.ensures c.block_size-b.ensures.0)

pub returns : goal.returns
returns c =
    let f = c.args.self.now in
    let x = f.numbers.numbers in
    let w = c.header_words-header.ensures in
    let e = c.block_size-b.ensures.0 in
    told f.bytes.now _ _ f.passes (same_job f.bytes.now x _ _ _ f.read
    (blocks_bytes _ _ _ _ f.read w e (x.d * block_size (parameters x.scheme)) _ (omega (arith, c.gather_blocks.auto.blocks, c.requires.0)) (search rules) c.gather_blocks.ensures)
    (amplitudes_bytes _ _ _ _ f.read w e x.d _ (omega (arith, c.gather_amplitudes.auto.amplitudes, c.requires.1)) (search rules) c.gather_amplitudes.ensures)
    (classes_bytes _ _ _ _ f.read w e _ (held_size _ _ f.passes f.read _ _ w e).0 f.of_bytes))
    c.evaluate.ensures
