-- Lesson 4, the lookup and its bound: the exercises, each with its solution. Exercise 4.6, the function `tree_gates`, is in
-- src/lib.rt, its proof in proofs/tree_gates.
-- Assumes nothing.
use Rattle.std.proofs.Common.{◌≡◌, ℕ, zero, suc, ◌+◌, ◌-◌, ◌*◌, ◌/◌, ◌%◌, ◌^◌, ◌<◌, ◌≤◌, List, [], ◌∷◌, length, get_or, refl, ap, ◌∙◌, le_trans, le_refl, add-zero, arith, pow_pos}
use native.Mathlib.Nat.{two-pow-succ}
use lib.Count.{ones, count_trailing_zeros}
use Rattle.torus.specs.Sum.{sum, tabulate}
use Rattle.torus.specs.Bytes.{words, bytes}
use Rattle.gadget.specs.Digits.{precision}
use Rattle.ring.specs.Polynomial.{Agree, coefficients, rotated}
use Rattle.ring.proofs.Rotation.{rotated_high}
use Rattle.answers.specs.Answers.{number, bound}
use Rattle.answers.specs.Checks.{all_below}
use Rattle.trgsw.specs.Parameters as Parameters
use Rattle.trgsw.specs.declared.Parameters.{Parameters}
use Rattle.trgsw.specs.External as External
use Rattle.tables.specs.declared.Packing.TheVariants.{Horizontal, Vertical}
use Rattle.tables.specs.declared.Visibility.TheVariants.{Public, Hidden}
use Rattle.tables.specs.declared.Numbers.{Numbers}
use Rattle.trgsw.specs.Parameters.{masks, parameters}
use Rattle.tables.specs.Numbers.{rotations, levels, gate_count}
use Rattle.trees.specs.Tree.{tree, entry_number}
use Rattle.trees.specs.LookedUp.{charges, largest}
use Rattle.tables.specs.Table.{entry_classes}
use Rattle.lookup.specs.Job.{Job, declaring, hiding}
use Rattle.lookup.specs.Calls.{noise_bound, lookup, IsAccepted}
use Rattle.lookup.proofs.Accepted.{Findable, lookup_accepted, lookup_accepts}
use Rattle.instances.proofs.Instance.{numbers_j, job_j}
use Rattle.course.specs.Definitions.{negative, counted, deepest}
use Rattle.course.proofs.Lesson3.{charge_mono}

-- Exercise 4.1. Selectors 0, 1 and 2 hold the bits 1, 0 and 1. Compute the number of the entry that they name, and, with two
-- classes an entry, its classes.
abbrev pub bits : ℕ → ℕ
bits i = get_or (1 ∷ 0 ∷ 1 ∷ []) i 0

pub entry_five : entry_number bits 3 ≡ 5
unfolding entry_number sum
entry_five = refl

-- Numbers of such a lookup.
abbrev pub pairs : Numbers
pairs = record { packing = Horizontal; visibility = Public; scheme = Parameters.scheme_of 2 8 2; M = 16; s = 2; d = 3 }

pub classes_of_five :
    entry_classes pairs (entry_number bits 3) (0 ∷ 1 ∷ 2 ∷ 3 ∷ 4 ∷ 5 ∷ 6 ∷ 7 ∷ 8 ∷ 9 ∷ 10 ∷ 11 ∷ 12 ∷ 13 ∷ 14 ∷ 15 ∷ []) ≡ 10 ∷ 11 ∷ []
unfolding entry_number sum
classes_of_five = refl

-- Exercise 4.2. Counted level by level, the tree has 2^d - 1 CMuxes.
pub gates_by_level : (d : ℕ) → sum d (λ i. 2 ^ i) + 1 ≡ 2 ^ d
unfolding sum
gates_by_level zero = refl
gates_by_level (suc d) = omega (arith, gates_by_level d, two-pow-succ d)

-- Exercise 4.3. In every tree of d levels the sample at the root took 2^d - 1 CMuxes, but the longest path to it meets d. So
-- the bound is a sum of d charges.
pub tree_counted : (d t : ℕ) → tree counted (λ h. 0) d t + 1 ≡ 2 ^ d
unfolding tree
tree_counted zero t = refl
tree_counted (suc d) t = omega (arith, tree_counted d (2 * t), tree_counted d (2 * t + 1), two-pow-succ d)

pub tree_deepest : (d t : ℕ) → tree deepest (λ h. 0) d t ≡ d
unfolding tree
tree_deepest zero t = refl
tree_deepest (suc d) t = omega (arith, tree_deepest d (2 * t), tree_deepest d (2 * t + 1))

-- Exercise 4.4. The bound does not fall when amplitudes rise.
pub charges_mono : (p : Parameters) (As Bs : List ℕ) (d : ℕ) → ((i : ℕ) → i < d → get_or As i 0 ≤ get_or Bs i 0)
    → charges p As d ≤ charges p Bs d
unfolding charges sum
charges_mono p As Bs zero h = le_refl 0
charges_mono p As Bs (suc d) h =
    let rest : charges p As d ≤ charges p Bs d = charges_mono p As Bs d (λ i l. h i (omega arith)) in
    omega (arith, rest, charge_mono p (get_or As d 0) (get_or Bs d 0) (h d (omega arith)))

-- Exercise 4.5. If a lookup is accepted, so is the same lookup with smaller amplitudes of its selectors, and its bound is no greater.
pub smaller_accepted : (j : Job) → IsAccepted j → (smaller : List ℕ) → length smaller ≡ length j.amplitudes
    → ((i : ℕ) → i < j.numbers.d → get_or (words smaller) i 0 ≤ get_or (words j.amplitudes) i 0)
    → IsAccepted (declaring j smaller) × (bound (lookup (declaring j smaller)) ≤ bound (lookup j))
smaller_accepted j e smaller size less =
    let ok : Findable j = lookup_accepted j e in
    let less_noise : noise_bound (declaring j smaller) ≤ noise_bound j =
    let fewer : charges (parameters j.numbers.scheme) (words smaller) j.numbers.d ≤ charges (parameters j.numbers.scheme) (words j.amplitudes) j.numbers.d =
    charges_mono (parameters j.numbers.scheme) (words smaller) (words j.amplitudes) j.numbers.d less in omega arith in
    let fit : Findable (declaring j smaller) = record {
      job = record {
        numbers = ok.job.numbers;
        lengths = record {
          blocks_length = ok.job.lengths.blocks_length;
          amplitudes_length = size ∙ ok.job.lengths.amplitudes_length;
          table_length = ok.job.lengths.table_length;
          entry_amplitudes_length = ok.job.lengths.entry_amplitudes_length;
          sample_length = ok.job.lengths.sample_length;
          work_length = ok.job.lengths.work_length;
        };
        contents = record { small = λ i l. le_trans (less i l) (ok.job.contents.small i l); entries_small = ok.job.contents.entries_small; below = ok.job.contents.below };
      };
      quiet = omega (arith, less_noise, ok.quiet);
    } in
    rw (lookup_accepts (declaring j smaller) fit, lookup_accepts j ok) (refl, less_noise)

-- Exercise 4.7. A van lessor has 4,096 rate cells, one class in each. In the vertical packing with N = 1,024, compute how many selectors
-- rotate, how many levels the tree has, how many gates there are, and in which coefficient of which sample the class of entry 2500 is.
abbrev pub van : Numbers
van = record { packing = Vertical; visibility = Public; scheme = Parameters.scheme_of 1024 8 3; M = 64; s = 1; d = 12 }

pub van_counted : (rotations van ≡ 10) × (levels van ≡ 2) × (gate_count van ≡ 13)
unfolding rotations count_trailing_zeros
van_counted = (refl, refl, refl)

pub van_place : (2500 / 2 ^ 10 ≡ 2) × (2500 % 2 ^ 10 ≡ 452)
van_place = (refl, refl)

-- Exercise 4.8. With N = 2, compute X^(-1)·(5 + 9X): it begins with 9. Then show that X^(-N) is -1, for every N.
pub turned_once : tabulate 2 (rotated 2 1 (coefficients (5 ∷ 9 ∷ []))) ≡ 9 ∷ negative 5 ∷ []
unfolding tabulate rotated
turned_once = refl

pub turned_round : (N : ℕ) (p : ℕ → ℕ) → Agree N (rotated N N p) (λ t. negative (p t))
turned_round N p t l =
    let place : t + N - N ≡ t = omega arith in
    rotated_high N N p t (omega arith) ∙ ap (λ i. negative (p i)) place

-- Exercise 4.9. However the d selectors are divided, r that rotate and e of the tree, there are no more gates than in a tree of all d.
pub no_more_gates : (e r : ℕ) → 2 ^ e - 1 + r ≤ 2 ^ (e + r) - 1
no_more_gates e r = omega (arith, room e r, pow_pos e)
  where
    room : (e r : ℕ) → 2 ^ e + r ≤ 2 ^ (e + r)
    room e zero = omega (arith, ap (λ n. 2 ^ n) (add-zero e))
    room e (suc r) = omega (arith, room e r, two-pow-succ (e + r), pow_pos (e + r), ap (λ n. 2 ^ n) (let s : e + suc r ≡ suc (e + r) = omega arith in s))

-- Exercise 4.10. Job J with a hidden table: the samples of its two entries, which have the amplitudes 300 and 1000, and the selector, whose
-- charge is 917504. Compute the bound. Then only entry 0 is left, and no selector: compute the bound, and what is answered where the
-- amplitude is 2^31/16.
abbrev pub pair_j : Job
pair_j = record job_j {
  numbers = hiding numbers_j;
  table = bytes (5 ∷ 805306673 ∷ 7 ∷ 2147482655 ∷ []);
  entry_amplitudes = bytes (300 ∷ 1000 ∷ []);
}

abbrev pub alone_j : (A : ℕ) → Job
alone_j A = record {
  numbers = record { packing = Horizontal; visibility = Hidden; scheme = Parameters.scheme_of 1 16 2; M = 16; s = 1; d = 0 };
  blocks = [];
  amplitudes = [];
  table = bytes (5 ∷ 805306673 ∷ []);
  entry_amplitudes = bytes (A ∷ []);
  sample = job_j.sample;
  work = bytes (0 ∷ 0 ∷ []);
}

pub bound_of_pair : bound (lookup pair_j) ≡ 918504
unfolding lookup masks rotations charges largest sum External.charge precision words bytes ones all_below
bound_of_pair = refl

pub bound_alone : bound (lookup (alone_j 300)) ≡ 300
unfolding lookup masks rotations charges largest sum words bytes ones all_below
bound_alone = refl

pub alone_refused : (number (lookup (alone_j 134217728)) ≡ 9) × (bound (lookup (alone_j 134217728)) ≡ 134217728)
unfolding lookup masks rotations charges largest sum words bytes ones all_below
alone_refused = (refl, refl)
