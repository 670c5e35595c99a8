-- The charges of a lookup's selectors, added up: step by step, and that 64 bits hold the sum.
-- Assumes nothing.
use mathlib.Core.Path.{◌≡◌, refl, sym}
use mathlib.Core.Logic.{◌⊎◌, inl, inr}
use mathlib.Core.List.{List}
use Prim.Native.Nat.{ℕ, zero, suc, ◌+◌, ◌*◌, ◌^◌, ◌≤◌, ◌<◌}
use native.Mathlib.Nat.{eq-or-lt_of_le, le_of_suc-le-suc}
use native.Mathlib.Numerals.{add-one}
use native.Mathlib.Omega.{arith}
use lib.ListN.{get_or}
use Rattle.torus.specs.Sum.{sum}
use Rattle.torus.specs.Bytes.{words}
use Rattle.trgsw.proofs.Charges.{charge_le}
use Rattle.trgsw.specs.declared.Parameters.{Parameters}
use Rattle.tables.specs.declared.Numbers.{Numbers}
use Rattle.trgsw.specs.Parameters.{parameters, Sized}
use Rattle.trgsw.specs.External.{charge}
use Rattle.trees.specs.LookedUp.{charges}
use Rattle.tables.specs.Numbers.{deepest}
use Rattle.lookup.specs.Inner.{Selectors}
use Rattle.trgsw.proofs.Told.{told_sized}

module _ (p : Parameters) (amplitudes : List ℕ) where
  pub charges_none : charges p amplitudes 0 ≡ 0
  unfolding charges sum
  charges_none = refl

  -- One selector more.
  pub charges_more : (d e : ℕ) → d ≡ e + 1 → charges p amplitudes d ≡ charges p amplitudes e + charge p (get_or amplitudes e 0)
  unfolding charges sum
  charges_more d e h = rw (h, add-one e)

  -- Selectors up to one of them.
  up_one : (d e : ℕ) → (e < d → charges p amplitudes e + charge p (get_or amplitudes e 0) ≤ charges p amplitudes d)
      → (e ≡ d) ⊎ (e < d) → charges p amplitudes e + charge p (get_or amplitudes e 0) ≤ charges p amplitudes (suc d)
  up_one d e rest (inl same) = rw same (omega (arith, charges_more (suc d) d (sym (add-one d))))
  up_one d e rest (inr low) = omega (arith, charges_more (suc d) d (sym (add-one d)), rest low)

  pub charges_up : (d e : ℕ) → e < d → charges p amplitudes e + charge p (get_or amplitudes e 0) ≤ charges p amplitudes d
  charges_up zero e l = absurd (omega arith)
  charges_up (suc d) e l = up_one d e (λ low. charges_up d e low) (eq-or-lt_of_le (le_of_suc-le-suc l))

-- As many charges and an amplitude are below 2^64, whatever the parameter set.
module _ (p : Parameters) (d : ℕ) (amplitudes : List ℕ) (ok : (i : ℕ) → i < d → Sized p × (get_or amplitudes i 0 ≤ 2 ^ 31)) where
  charges_below : (i : ℕ) → i ≤ d → charges p amplitudes i ≤ i * (5 * 2 ^ 57 + 4097 * 2 ^ 31)
  charges_below zero l = omega (arith, charges_none p amplitudes)
  charges_below (suc i) l = omega (
    arith,
    charges_more p amplitudes (suc i) i (sym (add-one i)),
    charges_below i (omega arith),
    charge_le p (ok i l).0 _ (ok i l).1,
  )

  pub charges_fit : d ≤ deepest → (i : ℕ) → i ≤ d → charges p amplitudes i + 2 ^ 32 ≤ 2 ^ 64
  charges_fit few i l = omega (arith, charges_below i l)

-- What the code asks of a lookup's numbers gives all of this.
module _ (x : Numbers) (d : ℕ) (amplitudes : List ℕ) (ok : Selectors x d amplitudes) where
  pub chargeable : (i : ℕ) → i < d → Sized (parameters x.scheme) × (get_or (words amplitudes) i 0 ≤ 2 ^ 31)
  chargeable i l = (told_sized x.scheme ok.lawful.scheme, ok.small i l)

  pub selectors_fit : (i : ℕ) → i ≤ d → charges (parameters x.scheme) (words amplitudes) i + 2 ^ 32 ≤ 2 ^ 64
  selectors_fit = charges_fit (parameters x.scheme) d (words amplitudes) chargeable ok.depth

-- Fewer selectors.
pub fewer : (x : Numbers) (d e : ℕ) (amplitudes : List ℕ) → e ≤ d → Selectors x d amplitudes → Selectors x e amplitudes
fewer x d e amplitudes l ok = record {
  lawful = ok.lawful;
  depth = omega (arith, ok.depth);
  amplitudes_length = omega (arith, ok.amplitudes_length);
  small = λ i h. ok.small i (omega arith);
}

-- ---- the ledger on its way through the tree

-- A run of a level e below d asks no more of the bound than level d does,
module _ (p : Parameters) (amplitudes : List ℕ) (bound d e : ℕ) where
  pub branch_bound : (begun : ℕ) → begun ≡ bound → e < d → bound + charges p amplitudes d < 2 ^ 64 → begun + charges p amplitudes e < 2 ^ 64
  branch_bound begun same l fits = omega (arith, charges_up p amplitudes d e l)

  -- nor does the charge on top of it. The charges of the selectors that rotate, the first r, are not in the ledger yet.
  pub join_bound : (r begun raised : ℕ) → raised + charges p amplitudes r ≡ begun + charges p amplitudes e → begun ≡ bound
      → e < d → bound + charges p amplitudes d < 2 ^ 64 → raised + charge p (get_or amplitudes e 0) < 2 ^ 64
  join_bound r begun raised h same l fits = omega (arith, charges_up p amplitudes d e l)
