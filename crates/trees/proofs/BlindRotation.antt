-- What the blind rotation does to the noise: its phase is within the sum of the charges of X^(-rho) times the sample's, in every
-- coefficient, where rho is the number that the bits of the rotating selectors name. For k masks, and a sample of any words.
-- Assumes nothing.
use mathlib.Core.Path.{◌≡◌, refl, ap, sym, subst, ◌∙◌}
use mathlib.Core.List.{List}
use Prim.Native.Nat.{ℕ, zero, suc, ◌+◌, ◌*◌, ◌^◌, ◌≤◌, ◌<◌}
use native.Mathlib.Nat.{le_of_eq, le_refl, le_trans, add_comm, zero-mul, one-mul, mul-le-mul, two-pow-succ}
use native.Mathlib.Numerals.{add-one}
use native.Mathlib.Omega.{arith}
use lib.ListN.{length, get_or}
use Rattle.torus.specs.Sum.{sum}
use Rattle.torus.proofs.Near.{near_path}
use Rattle.ring.specs.Polynomial.{Agree, rotated}
use Rattle.ring.proofs.Close.{Close, close_weaken, close_trans, close_to}
use Rattle.ring.proofs.Rotation.{rotated_none, rotated_rotated, rotated_close, rotated_word}
use Rattle.trlwe.specs.Sample.{phase, rotated_sample}
use Rattle.trlwe.proofs.Phases.{phase_word}
use Rattle.trlwe.proofs.Rotation.{phase_rotated}
use Rattle.trgsw.specs.External.{picked, charge}
use Rattle.trgsw.specs.declared.Parameters.{Parameters}
use Rattle.trgsw.specs.Parameters.{sample_size}
use Rattle.trgsw.proofs.Noise.{cmux_near}
use Rattle.trgsw.proofs.Words.{cmux_below, length_cmux}
use Rattle.trees.specs.Tree.{entry_number}
use Rattle.trees.specs.LookedUp.{selector, rotation_step, blind_rotation, charges}
use Rattle.trees.proofs.Trees.{entry_number_lt}
use Rattle.trees.proofs.Noise.{Selects, selects_one, selects_fewer}

-- ---- its words

module _ (p : Parameters) (blocks : List ℕ) where
  pub blind_rotation_none : (x : List ℕ) → blind_rotation p blocks 0 x ≡ x
  unfolding blind_rotation
  blind_rotation_none x = refl

  -- One step more.
  pub blind_rotation_more : (i : ℕ) (x : List ℕ) → blind_rotation p blocks (i + 1) x ≡ rotation_step p blocks i (blind_rotation p blocks i x)
  unfolding blind_rotation
  blind_rotation_more i x = ap (λ n. blind_rotation p blocks n x) (add-one i)

  -- The rotated sample is of words if the sample is,
  pub blind_rotation_below : (r : ℕ) (x : List ℕ) → ((u : ℕ) → get_or x u 0 < 2 ^ 32) → (u : ℕ) → get_or (blind_rotation p blocks r x) u 0 < 2 ^ 32
  unfolding blind_rotation rotation_step
  blind_rotation_below zero x word = word
  blind_rotation_below (suc i) x word = cmux_below p (selector p i blocks) _ _

  -- and has its length.
  pub length_blind_rotation : (r : ℕ) (x : List ℕ) → length x ≡ sample_size p → length (blind_rotation p blocks r x) ≡ sample_size p
  unfolding blind_rotation rotation_step
  length_blind_rotation zero x size = size
  length_blind_rotation (suc i) x size = length_cmux p (selector p i blocks) _ _

-- ---- its noise

-- The sample, or the sample times X^(-e): both are X^(-b·e) times it, b the bit.
picked_rotated : (p : Parameters) (K x : List ℕ) (b e : ℕ) → b ≤ 1 → e ≤ p.N → ((u : ℕ) → get_or x u 0 < 2 ^ 32)
    → Agree p.N (phase p.N p.k K (picked b x (rotated_sample p.N p.k e x))) (rotated p.N (b * e) (phase p.N p.k K x))
picked_rotated p K x zero e l room word i m =
    sym (rotated_none p.N (phase p.N p.k K x) i m) ∙ ap (λ n. rotated p.N n (phase p.N p.k K x) i) (sym (zero-mul e))
picked_rotated p K x (suc zero) e l room word i m =
    phase_rotated p.N p.k e K x room word i m ∙ ap (λ n. rotated p.N n (phase p.N p.k K x) i) (sym (one-mul e))
picked_rotated p K x (suc (suc b)) e l room word i m = absurd (omega arith)

-- A step rotates by its bit's part of the exponent, within its charge.
step_near : (p : Parameters) (i : ℕ) (bits : ℕ → ℕ) (K blocks amplitudes x : List ℕ) → Selects p (suc i) bits K blocks amplitudes → 2 ^ i ≤ p.N
    → ((u : ℕ) → get_or x u 0 < 2 ^ 32)
    → Close (2 ^ 32) p.N (charge p (get_or amplitudes i 0)) (phase p.N p.k K (rotation_step p blocks i x))
    (rotated p.N (bits i * 2 ^ i) (phase p.N p.k K x))
unfolding rotation_step
step_near p i bits K blocks amplitudes x given room word =
    close_to
    (cmux_near p (bits i) (get_or amplitudes i 0) K (selector p i blocks) x (rotated_sample p.N p.k (2 ^ i) x)
    (selects_one p (suc i) bits K blocks amplitudes given i (omega arith)) word)
    (picked_rotated p K x (bits i) (2 ^ i) (given.bit i (omega arith)) room word)

-- The phase of the rotated sample is within the charges of X^(-rho) times the phase.
pub blind_rotation_near : (p : Parameters) (r : ℕ) (bits : ℕ → ℕ) (K blocks amplitudes x : List ℕ) → Selects p r bits K blocks amplitudes → 2 ^ r ≤ p.N
    → ((u : ℕ) → get_or x u 0 < 2 ^ 32)
    → Close (2 ^ 32) p.N (charges p amplitudes r) (phase p.N p.k K (blind_rotation p blocks r x))
    (rotated p.N (entry_number bits r) (phase p.N p.k K x))
unfolding blind_rotation charges entry_number sum
blind_rotation_near p zero bits K blocks amplitudes x given room word =
    λ i l. near_path (sym (rotated_none p.N (phase p.N p.k K x) i l))
blind_rotation_near p (suc j) bits K blocks amplitudes x given room word =
    let N : ℕ = p.N in
    let before = selects_fewer p (suc j) j bits K blocks amplitudes (omega arith) given in
    let half : 2 ^ j ≤ N = omega (arith, two-pow-succ j) in
    let rho : ℕ = entry_number bits j in
    let below : rho < 2 ^ j = entry_number_lt bits j before.bit in
    let y : List ℕ = blind_rotation p blocks j x in
    let turn : ℕ = bits j * 2 ^ j in
    let part : turn ≤ 2 ^ j = le_trans (mul-le-mul (given.bit j (omega arith)) (le_refl (2 ^ j))) (le_of_eq (one-mul (2 ^ j))) in
    let first : Close (2 ^ 32) N (charges p amplitudes j) (phase N p.k K y) (rotated N rho (phase N p.k K x)) =
    blind_rotation_near p j bits K blocks amplitudes x before half word in
    let turned : Close (2 ^ 32) N (charges p amplitudes j) (rotated N turn (phase N p.k K y)) (rotated N (turn + rho) (phase N p.k K x)) =
    close_to
    (rotated_close N turn (omega arith) (λ i l. phase_word N p.k K y i) (λ i l. rotated_word N rho (λ u m. phase_word N p.k K x u) i) first)
    (rotated_rotated N turn rho (phase N p.k K x) (omega (arith, two-pow-succ j))) in
    subst (λ n. Close (2 ^ 32) N (charges p amplitudes j + charge p (get_or amplitudes j 0)) (phase N p.k K (rotation_step p blocks j y)) (rotated N n (phase N p.k K x)))
    (add_comm turn rho)
    (close_weaken (le_of_eq (add_comm (charge p (get_or amplitudes j 0)) (charges p amplitudes j)))
    (close_trans (step_near p j bits K blocks amplitudes y given half (blind_rotation_below p blocks j x word)) turned))
