-- What a lookup does to the noise, in both packings at once (`looked_up_near`): r of its d selectors rotate, and with r = 0 it is the tree
-- alone. For k masks, every lawful gadget, every key whose words add up to at most W, and entries whose samples are of any words.
-- Assumes nothing.
use mathlib.Core.Path.{◌≡◌, sym, ap, ap₂, subst, ◌∙◌}
use mathlib.Core.List.{List}
use Prim.Native.Nat.{ℕ, ◌+◌, ◌-◌, ◌*◌, ◌/◌, ◌%◌, ◌^◌, ◌≤◌, ◌<◌}
use native.Mathlib.Nat.{sub-zero}
use native.Mathlib.Omega.{arith}
use lib.ListN.{length, get_or}
use Rattle.torus.specs.Sum.{sum}
use Rattle.torus.proofs.Sums.{sum_append}
use Rattle.ring.specs.Polynomial.{rotated}
use Rattle.ring.proofs.Close.{Close, close_weaken, close_trans}
use Rattle.ring.proofs.Rotation.{rotated_close}
use Rattle.trlwe.specs.Sample.{phase}
use Rattle.trlwe.proofs.Phases.{phase_word}
use Rattle.trgsw.specs.declared.Parameters.{Parameters}
use Rattle.trgsw.specs.Parameters.{sample_size}
use Rattle.trgsw.specs.External.{charge}
use Rattle.trees.specs.Tree.{tree, entry_number}
use Rattle.trees.specs.LookedUp.{Entry, tree_sample, blind_rotation, looked_up, looked_up_bound, charges}
use Rattle.trees.proofs.Trees.{tree_cong, entry_number_lt, entry_number_low, entry_number_high}
use Rattle.trees.proofs.Noise.{Selects, selects_fewer, tree_sample_below, length_tree_sample, tree_sample_near}
use Rattle.trees.proofs.Largest.{largest_at}
use Rattle.trees.proofs.BlindRotation.{blind_rotation_below, length_blind_rotation, blind_rotation_near}

-- ---- its words

module _ (p : Parameters) (blocks : List ℕ) (r : ℕ) (entry : (t : ℕ) → Entry) (d : ℕ) where
  -- The sample is of words if those of the entries are,
  pub looked_up_below : ((t u : ℕ) → get_or (entry t).sample u 0 < 2 ^ 32) → (u : ℕ) → get_or (looked_up p blocks r entry d) u 0 < 2 ^ 32
  unfolding looked_up
  looked_up_below word = blind_rotation_below p blocks r _ (tree_sample_below p blocks r (λ t. (entry t).sample) (d - r) 0 word)

  -- and has the length of a sample if the first entry's has.
  pub length_looked_up : length (entry 0).sample ≡ sample_size p → length (looked_up p blocks r entry d) ≡ sample_size p
  unfolding looked_up
  length_looked_up size = length_blind_rotation p blocks r _ (length_tree_sample p blocks r (λ t. (entry t).sample) (d - r) 0 size)

  -- "With d = 0 the result is the entry itself".
  pub looked_up_none : r ≡ 0 → d ≡ 0 → looked_up p blocks r entry d ≡ (entry 0).sample
  unfolding looked_up blind_rotation tree_sample tree
  looked_up_none none empty = ap₂ (λ n m. looked_up p blocks n entry m) none empty

  -- Where nothing rotates, it is the tree over all selectors, which is document 01's lookup.
  pub looked_up_tree : r ≡ 0 → looked_up p blocks r entry d ≡ tree_sample p blocks 0 (λ t. (entry t).sample) d 0
  unfolding looked_up blind_rotation
  looked_up_tree none = ap (λ n. looked_up p blocks n entry d) none ∙ ap (λ n. tree_sample p blocks 0 (λ t. (entry t).sample) n 0) (sub-zero d)

-- The sample depends on those of the tree's 2^(d-r) entries alone.
pub looked_up_cong : (p : Parameters) (blocks : List ℕ) (r : ℕ) (f g : (t : ℕ) → Entry) (d : ℕ)
    → ((t : ℕ) → t < 2 ^ (d - r) → (f t).sample ≡ (g t).sample) → looked_up p blocks r f d ≡ looked_up p blocks r g d
unfolding looked_up tree_sample
looked_up_cong p blocks r f g d same = ap (blind_rotation p blocks r) (tree_cong _ _ _ (d - r) 0 (λ t a b. same t (omega arith)))

-- ---- its noise

-- The charges of the selectors that rotate and of the tree's are those of all.
charges_split : (p : Parameters) (amplitudes : List ℕ) (r d : ℕ) → r ≤ d
    → charges p amplitudes r + sum (d - r) (λ i. charge p (get_or amplitudes (r + i) 0)) ≡ charges p amplitudes d
unfolding charges
charges_split p amplitudes r d l =
    let whole : r + (d - r) ≡ d = omega arith in
    sym (sum_append r (d - r) (λ i. charge p (get_or amplitudes i 0))) ∙ ap (λ n. sum n (λ i. charge p (get_or amplitudes i 0))) whole

-- Sample tau, which the bits name, is one of the tree's 2^(d-r).
pub entry_number_inside : (bits : ℕ → ℕ) (r d : ℕ) → r ≤ d → ((i : ℕ) → i < d → bits i ≤ 1) → entry_number bits d / 2 ^ r < 2 ^ (d - r)
entry_number_inside bits r d l bit =
    omega (arith, entry_number_high bits r d l bit, entry_number_lt (λ i. bits (r + i)) (d - r) (λ i m. bit (r + i) (omega arith)))

module _ (p : Parameters) (r d : ℕ) (bits : ℕ → ℕ) (K blocks amplitudes : List ℕ) (given : Selects p d bits K blocks amplitudes)
    (l : r ≤ d) (room : 2 ^ r ≤ p.N) (entry : (t : ℕ) → Entry) (word : (t u : ℕ) → get_or (entry t).sample u 0 < 2 ^ 32) where
  -- The charges of the tree's selectors, and its sample.
  abbrev over : ℕ
  over = sum (d - r) (λ i. charge p (get_or amplitudes (r + i) 0))

  abbrev picked : List ℕ
  picked = tree_sample p blocks r (λ t. (entry t).sample) (d - r) 0

  -- The number of the sample that the bits name.
  abbrev tau : ℕ
  tau = entry_number bits d / 2 ^ r

  high : 0 * 2 ^ (d - r) + entry_number (λ i. bits (r + i)) (d - r) ≡ tau
  high = omega (arith, entry_number_high bits r d l given.bit)

  -- The tree's sample is within these charges of sample tau.
  picked_near : Close (2 ^ 32) p.N over (phase p.N p.k K picked) (phase p.N p.k K (entry tau).sample)
  picked_near =
      subst (λ t. Close (2 ^ 32) p.N over (phase p.N p.k K picked) (phase p.N p.k K (entry t).sample)) high
      (tree_sample_near p r (d - r) 0 bits K blocks amplitudes (selects_fewer p d (r + (d - r)) bits K blocks amplitudes (omega arith) given)
      (λ t. (entry t).sample) word)

  -- The theorem of both packings: if the entry that the bits name is within its amplitude of f, in all N coefficients, then the lookup's
  -- sample is within this amplitude plus the d charges of X^(-rho)·f, where tau·2^r + rho is the number that the bits name.
  pub looked_up_near : (f : ℕ → ℕ) → ((i : ℕ) → i < p.N → f i < 2 ^ 32) → Close (2 ^ 32) p.N (entry tau).amplitude (phase p.N p.k K (entry tau).sample) f
      → Close (2 ^ 32) p.N ((entry tau).amplitude + charges p amplitudes d) (phase p.N p.k K (looked_up p blocks r entry d)) (rotated p.N (entry_number bits d % 2 ^ r) f)
  unfolding looked_up
  looked_up_near f words near =
      let N : ℕ = p.N in
      let A : ℕ = (entry tau).amplitude in
      let rho : ℕ = entry_number bits r in
      let first = selects_fewer p d r bits K blocks amplitudes l given in
      let below : rho < 2 ^ r = entry_number_lt bits r first.bit in
      let rotation = blind_rotation_near p r bits K blocks amplitudes picked first room (tree_sample_below p blocks r (λ t. (entry t).sample) (d - r) 0 word) in
      let within : Close (2 ^ 32) N (charges p amplitudes r + (over + A)) (phase N p.k K (blind_rotation p blocks r picked)) (rotated N rho f) =
      close_trans rotation (rotated_close N rho (omega arith) (λ i m. phase_word N p.k K picked i) words (close_trans picked_near near)) in
      rw (entry_number_low bits r d l given.bit) (close_weaken (omega (arith, charges_split p amplitudes r d l)) within)

  -- So it is within the bound of the lookup, for the amplitude of that entry is at most the largest.
  pub looked_up_within : (f : ℕ → ℕ) → ((i : ℕ) → i < p.N → f i < 2 ^ 32) → Close (2 ^ 32) p.N (entry tau).amplitude (phase p.N p.k K (entry tau).sample) f
      → Close (2 ^ 32) p.N (looked_up_bound p amplitudes r entry d) (phase p.N p.k K (looked_up p blocks r entry d)) (rotated p.N (entry_number bits d % 2 ^ r) f)
  looked_up_within f words near =
      close_weaken (omega (arith, largest_at (2 ^ (d - r)) (λ t. (entry t).amplitude) tau (entry_number_inside bits r d l given.bit))) (looked_up_near f words near)
