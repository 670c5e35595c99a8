-- "Thin keys cost less": a job that declares a smaller weight, and is the same otherwise, stays accepted where it was; its sample and its gates
-- are the same, and its bound is no greater. Which words come out does not go by the weight.
-- Assumes nothing.
use mathlib.Core.Path.{◌≡◌, refl, ap, sym, ◌∙◌}
use mathlib.Core.List.{List}
use Prim.Native.Nat.{ℕ, zero, suc, ◌+◌, ◌≤◌}
use native.Mathlib.Nat.{le_refl, le_trans, mul-le-mul}
use native.Mathlib.Omega.{arith}
use lib.ListN.{get_or}
use Rattle.torus.specs.Sum.{sum, chunk}
use Rattle.torus.specs.Bytes.{words, bytes}
use Rattle.gadget.specs.Digits.{precision}
use Rattle.answers.specs.Answers.{bound, gates}
use Rattle.trgsw.specs.declared.Parameters.{Parameters}
use Rattle.trgsw.specs.Parameters.{masks, parameters}
use Rattle.trgsw.specs.External.{external, cmux_sample, charge}
use Rattle.trees.specs.LookedUp.{Entry, tree_sample, rotation_step, blind_rotation, looked_up, charges}
use Rattle.tables.specs.declared.Visibility.{Visibility}
use Rattle.tables.specs.declared.Visibility.TheVariants.{Public, Hidden}
use Rattle.tables.specs.declared.Numbers.{Numbers}
use Rattle.tables.specs.Numbers.{rotations, table_words, declared_words}
use Rattle.tables.specs.Table.{entry_words, entry_sample, amplitude_of}
use Rattle.lookup.specs.Job.{Job, weighing}
use Rattle.lookup.specs.Calls.{noise_bound, lookup, lookup_sample, IsAccepted}
use Rattle.lookup.proofs.Accepted.{Findable, lookup_accepted, lookup_accepts}
use Rattle.lookup.proofs.Results.{lookup_bytes}

-- ---- a parameter set with another weight

module _ (p : Parameters) (W : ℕ) where
  abbrev set : Parameters
  set = record p { W = W }

  pub charge_lighter : (A : ℕ) → W ≤ p.W → charge set A ≤ charge p A
  unfolding charge
  charge_lighter A l = let fewer : 1 + W ≤ 1 + p.W = omega (arith, l) in omega (arith, mul-le-mul fewer (le_refl (precision p.g p.L)))

  charges_lighter : (amplitudes : List ℕ) (d : ℕ) → W ≤ p.W → charges set amplitudes d ≤ charges p amplitudes d
  unfolding charges sum
  charges_lighter amplitudes zero l = le_refl 0
  charges_lighter amplitudes (suc d) l = omega (arith, charges_lighter amplitudes d l, charge_lighter (get_or amplitudes d 0) l)

  rotation_any : (blocks : List ℕ) (r : ℕ) (x : List ℕ) → blind_rotation set blocks r x ≡ blind_rotation p blocks r x
  unfolding blind_rotation rotation_step cmux_sample external
  rotation_any blocks zero x = refl
  rotation_any blocks (suc i) x = ap (rotation_step p blocks i) (rotation_any blocks i x)

  looked_up_any : (blocks : List ℕ) (r : ℕ) (entry : (t : ℕ) → Entry) (d : ℕ) → looked_up set blocks r entry d ≡ looked_up p blocks r entry d
  unfolding looked_up tree_sample cmux_sample external
  looked_up_any blocks r entry d = rotation_any blocks r _

-- ---- a job, by the kind of its table

-- The same numbers with another weight.
abbrev weighed : (x : Numbers) (W : ℕ) → Numbers
weighed x W = record x { scheme = record x.scheme { W = W } }

table_any : (v : Visibility) (x : Numbers) (W : ℕ) → table_words v (weighed x W) ≡ table_words v x
unfolding masks rotations
table_any Public x W = refl
table_any Hidden x W = refl

declared_any : (v : Visibility) (x : Numbers) (W : ℕ) → declared_words v (weighed x W) ≡ declared_words v x
unfolding rotations
declared_any Public x W = refl
declared_any Hidden x W = refl

abbrev entry_of : (v : Visibility) (x : Numbers) (table amplitudes : List ℕ) (t : ℕ) → Entry
entry_of v x table amplitudes t = record { sample = entry_sample v x (chunk (entry_words v x) t table); amplitude = amplitude_of v amplitudes t }

sample_any : (v : Visibility) (x : Numbers) (W : ℕ) (blocks table amplitudes : List ℕ)
    → looked_up (parameters (weighed x W).scheme) blocks (rotations x) (entry_of v (weighed x W) table amplitudes) x.d
    ≡ looked_up (parameters x.scheme) blocks (rotations x) (entry_of v x table amplitudes) x.d
unfolding masks rotations
sample_any Public x W blocks table amplitudes = looked_up_any (parameters x.scheme) W blocks (rotations x) (entry_of Public x table amplitudes) x.d
sample_any Hidden x W blocks table amplitudes = looked_up_any (parameters x.scheme) W blocks (rotations x) (entry_of Hidden x table amplitudes) x.d

module _ (j : Job) (accepted : IsAccepted j) (W : ℕ) (less : W ≤ j.numbers.scheme.W) where
  ok : Findable j
  ok = lookup_accepted j accepted

  lighter_noise : noise_bound (weighing j W) ≤ noise_bound j
  unfolding masks rotations
  lighter_noise = omega (arith, charges_lighter (parameters j.numbers.scheme) W (words j.amplitudes) j.numbers.d less)

  lighter_findable : Findable (weighing j W)
  unfolding masks rotations
  lighter_findable = record {
    job = record {
      numbers = record {
        scheme = record {
          degree = ok.job.numbers.scheme.degree;
          gadget = ok.job.numbers.scheme.gadget;
          weight = le_trans less ok.job.numbers.scheme.weight;
        };
        class_number = ok.job.numbers.class_number;
        some = ok.job.numbers.some;
        most = ok.job.numbers.most;
        depth = ok.job.numbers.depth;
      };
      lengths = record {
        blocks_length = ok.job.lengths.blocks_length;
        amplitudes_length = ok.job.lengths.amplitudes_length;
        table_length = rw (table_any j.numbers.visibility j.numbers W) ok.job.lengths.table_length;
        entry_amplitudes_length = rw (declared_any j.numbers.visibility j.numbers W) ok.job.lengths.entry_amplitudes_length;
        sample_length = ok.job.lengths.sample_length;
        work_length = ok.job.lengths.work_length;
      };
      contents = record {
        small = ok.job.contents.small;
        entries_small = ok.job.contents.entries_small;
        below = ok.job.contents.below;
      };
    };
    quiet = omega (arith, lighter_noise, ok.quiet);
  }

  pub lighter_accepted : IsAccepted (weighing j W)
  lighter_accepted = rw (lookup_accepts (weighing j W) lighter_findable) refl

  pub lighter_bound : bound (lookup (weighing j W)) ≤ bound (lookup j)
  lighter_bound = rw (lookup_accepts (weighing j W) lighter_findable, lookup_accepts j ok) lighter_noise

  pub lighter_gates : gates (lookup (weighing j W)) ≡ gates (lookup j)
  unfolding rotations
  lighter_gates = rw (lookup_accepts (weighing j W) lighter_findable, lookup_accepts j ok) refl

  pub lighter_sample : lookup_sample (weighing j W) ≡ lookup_sample j
  unfolding masks rotations
  lighter_sample =
      lookup_bytes (weighing j W) lighter_accepted
      ∙ ap bytes (sample_any j.numbers.visibility j.numbers W (words j.blocks) (words j.table) (words j.entry_amplitudes))
      ∙ sym (lookup_bytes j accepted)
