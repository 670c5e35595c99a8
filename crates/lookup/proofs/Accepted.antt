-- What holds of the arguments of an accepted lookup, and that a lookup with such arguments is accepted; and when it is refused for noise, and
-- for its weight.
-- Assumes nothing.
use mathlib.Core.Path.{◌≡◌, ap, sym, ◌∙◌}
use native.Mathlib.Omega.{arith}
use Prim.Native.Nat.{◌/◌, ◌^◌, ◌≤◌, ◌<◌}
use Rattle.std.specs.Prelude.{Ok, Err}
use Rattle.gadget.specs.Digits.{Lawful}
use Rattle.ring.specs.Polynomial.{Degree}
use Rattle.answers.specs.Checks.{passed, ◌or_else◌}
use Rattle.answers.specs.Answers.{Answer, number, noise}
use Rattle.answers.specs.declared.Refusal.TheVariants as Refused
use Rattle.answers.proofs.Laws.{or_else_assoc, both_passed, both_pass, before, first_other, past_other, stopped, went_on, first_most, noise_most, noise_held, noise_met, noise_refused}
use Rattle.trlwe.proofs.Accepted.{noise_not}
use Rattle.trgsw.specs.Parameters.{scheme_refusal}
use Rattle.trgsw.proofs.Checked.{heavy_refused, twelve_held}
use Rattle.tables.specs.Numbers.{LawfulNumbers, gate_count, numbers}
use Rattle.lookup.specs.Job.{Job}
use Rattle.lookup.specs.Calls.{noise_bound, lookup, IsAccepted}
use Rattle.lookup.specs.Inner.{lengths, contents, checks}
use Rattle.tables.proofs.Passed.{numbers_held, numbers_met, numbers_other, sizes, sizes_most}
use Rattle.lookup.proofs.Passed.{Lengths, Contents, lengths_held, lengths_met, lengths_most, contents_held, contents_met, contents_most, lookup_checks, lookup_judged}

-- What the refusals up to 7 leave of a job.
pub record Wellformed (j : Job) : Type 0 where
  pub numbers : LawfulNumbers j.numbers
  pub lengths : Lengths j
  pub contents : Contents j

-- What refusal 9 leaves of it.
pub record Findable (j : Job) : Type 0 where
  pub job : Wellformed j
  pub quiet : noise_bound j < 2 ^ 31 / j.numbers.M

module _ (j : Job) where
  -- What passes them is such, and back.
  pub wellformed : checks j ≡ passed → Wellformed j
  wellformed e =
      let p = both_passed (numbers j.numbers) _ e in
      let q = both_passed (lengths j) (contents j) p.1 in
      let fit = lengths_held j q.0 in
      record { numbers = numbers_held j.numbers p.0; lengths = fit; contents = contents_held j fit q.1 }

  pub wellformed_passes : Wellformed j → checks j ≡ passed
  wellformed_passes ok =
      both_pass _ _ (numbers_met j.numbers ok.numbers)
      (both_pass _ _ (lengths_met j ok.lengths) (contents_met j ok.lengths ok.contents))

  -- What is accepted is findable.
  pub lookup_accepted : IsAccepted j → Findable j
  lookup_accepted e =
      let p = before (checks j) _ (ap number (lookup_judged j) ∙ e) in
      record { job = wellformed p.0; quiet = noise_held j.numbers.M (noise_bound j) (gate_count j.numbers) p.1 }

  -- Past them the noise decides.
  pub lookup_noise : Wellformed j → lookup j ≡ noise j.numbers.M (noise_bound j) (gate_count j.numbers)
  lookup_noise ok = sym (lookup_judged j) ∙ went_on _ _ (wellformed_passes ok)

  -- What is findable is accepted.
  pub lookup_accepts : Findable j → lookup j ≡ Ok (record { bound = noise_bound j; gates = gate_count j.numbers })
  lookup_accepts ok = lookup_noise ok.job ∙ noise_met j.numbers.M (noise_bound j) (gate_count j.numbers) ok.quiet

  -- 9, "the bound", "the bound is 2^31/M or more": the whole sum is reported.
  pub lookup_noisy : Wellformed j → 2 ^ 31 / j.numbers.M ≤ noise_bound j → lookup j ≡ Err (Refused.Noise (noise_bound j))
  lookup_noisy ok h = lookup_noise ok ∙ noise_not j.numbers.M (noise_bound j) (gate_count j.numbers) h

  -- And 9 comes of nothing else.
  pub lookup_nine : number (lookup j) ≡ 9 → Wellformed j × (2 ^ 31 / j.numbers.M ≤ noise_bound j)
  lookup_nine e =
      let other = first_other (numbers j.numbers) _ 9 (numbers_other j.numbers) (first_other (lengths j) (contents j) 9 (λ n. omega (arith, lengths_most j, n)) (λ n. omega (arith, contents_most j, n))) in
      let p = past_other (checks j) 9 _ other (ap number (lookup_judged j) ∙ e) in
      (wellformed p.0, noise_refused j.numbers.M (noise_bound j) (gate_count j.numbers) p.1)

  -- 12 comes of a weight above N where 1 and 2 pass,
  pub lookup_heavy : let x = j.numbers.scheme in Degree x.N → Lawful x.g x.L → x.N < x.W → lookup j ≡ Err Refused.Weight
  unfolding lookup
  lookup_heavy degree gadget heavy =
      let x = j.numbers.scheme in
      sym (stopped (scheme_refusal x) Refused.Weight _ (heavy_refused x degree gadget heavy))

  -- and of nothing else.
  pub lookup_twelve : let x = j.numbers.scheme in number (lookup j) ≡ 12 → (Degree x.N × Lawful x.g x.L) × (x.N < x.W)
  lookup_twelve e =
      let x = j.numbers in
      let R : Answer = noise x.M (noise_bound j) (gate_count x) in
      let most : number (sizes x or_else lengths j or_else contents j or_else R) ≤ 9 =
      first_most (sizes x) _ 9 (omega (arith, sizes_most x))
      (first_most (lengths j) _ 9 (omega (arith, lengths_most j))
      (first_most (contents j) R 9 (omega (arith, contents_most j)) (noise_most x.M (noise_bound j) (gate_count x)))) in
      twelve_held x.scheme _ most (ap number (sym (or_else_assoc (scheme_refusal x.scheme) (sizes x) _) ∙ lookup_checks j) ∙ e)
