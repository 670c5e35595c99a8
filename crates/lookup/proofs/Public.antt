-- The arguments of an accepted call are what the code asks for.
-- Assumes nothing.
use mathlib.Core.Path.{◌≡◌, sym, ap, ◌∙◌}
use mathlib.Core.List.{List}
use Prim.Native.Nat.{ℕ, ◌*◌, ◌/◌, ◌^◌, ◌≤◌, ◌<◌}
use native.Mathlib.Nat.{mul-le-mul, le_refl}
use native.Mathlib.Omega.{arith}
use lib.ListN.{length, get_or, replicate}
use lib.Pow.{pow_mono}
use Rattle.torus.specs.Bytes.{words, bytes}
use Rattle.torus.proofs.Parts.{bytes_words, bytes_zero}
use Rattle.trgsw.specs.Parameters.{sample_size, block_size, parameters}
use Rattle.tables.specs.Numbers.{levels}
use Rattle.lookup.specs.Job.{Job}
use Rattle.tables.specs.Inner.{Declared}
use Rattle.lookup.specs.Inner.{Selectors, Run}
use Rattle.tables.proofs.Packings.{depth_le, rotations_levels, table_entries}
use Rattle.lookup.proofs.Accepted.{Wellformed}

module _ (j : Job) (ok : Wellformed j) where
  -- The selectors.
  pub job_selectors : Selectors j.numbers j.numbers.d j.amplitudes
  job_selectors = record {
    lawful = ok.numbers;
    depth = depth_le j.numbers ok.numbers;
    amplitudes_length = omega (arith, ok.lengths.amplitudes_length);
    small = ok.contents.small;
  }

  -- The declared amplitudes of the entries.
  pub job_declared : Declared j.numbers j.entry_amplitudes
  job_declared = record { amplitudes_length = ok.lengths.entry_amplitudes_length; small = ok.contents.entries_small }

  -- The slices.
  pub job_run : Run j.numbers (levels j.numbers) 0 (length j.sample) (length j.work) (length j.blocks) j.table
  job_run =
      let x = j.numbers in
      let p = parameters x.scheme in
      let low : levels x ≤ 16 = omega (arith, depth_le x ok.numbers) in
      let few : 2 ^ levels x ≤ 2 ^ 16 = pow_mono {i = levels x} {j = 16} low in
      let fewer : levels x ≤ x.d = omega arith in
      record {
        leaves = omega arith;
        sample_length = ok.lengths.sample_length;
        work_length = omega (arith, ok.lengths.work_length, mul-le-mul fewer (le_refl (sample_size p)));
        blocks_length = omega (arith, ok.lengths.blocks_length, ap (λ n. n * block_size p) (rotations_levels x));
        table_length = omega (arith, ok.lengths.table_length, table_entries x ok.numbers x.visibility);
        below = ok.contents.below;
      }

-- A slice of words that are 0.
pub cleared : (k : ℕ) (out : List ℕ) → length out ≡ 4 * k → ((i : ℕ) → get_or out i 0 < 256) → words out ≡ replicate (length out / 4) 0
    → out ≡ replicate (length out) 0
cleared k out len byte h =
    sym (bytes_words k out len byte) ∙ ap bytes h ∙ bytes_zero (length out / 4)
    ∙ ap (λ (m : ℕ). replicate m 0) (let e : 4 * (length out / 4) ≡ length out = omega arith in e)
