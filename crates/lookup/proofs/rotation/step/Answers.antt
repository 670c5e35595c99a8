-- `lookup::rotation::step` meets its contract. Assumes nothing.
use Rattle.std.proofs.Common.{◌≡◌, ℕ, ◌-◌, ◌^◌, List, length, ap, ap₂, ◌∙◌, arith}
use Rattle.torus.specs.Bytes.{words}
use Rattle.trlwe.specs.Sample.{rotated_sample}
use Rattle.trgsw.specs.declared.Parameters.{Parameters}
use Rattle.trgsw.specs.Parameters.{sample_size, parameters}
use Rattle.trgsw.specs.External.{cmux_sample}
use Rattle.trees.specs.LookedUp as LookedUp
use Rattle.lookup.proofs.Runs.{front_made}
use Rattle.lookup.proofs.rotation.step.Goals as goal

pub returns : goal.returns
unfolding LookedUp.rotation_step
returns c =
    let a = c.args in
    let p = parameters a.lent.now.numbers.scheme in
    let own = length a.sample.now in
    let made : words c.rotate.new.out ≡ rotated_sample p.N p.k (2 ^ a.i) (words a.sample.now) =
    c.rotate.ensures
    ∙ ap₂ (λ (q : Parameters) (e : ℕ). rotated_sample q.N q.k e (words a.sample.now)) c.parameter_set-p.ensures c.power-places.ensures in (
      c.join.ensures.0
          ∙ ap (λ (y : List ℕ). cmux_sample p (LookedUp.selector p a.i (words a.lent.now.blocks.now)) (words a.sample.now) y)
          (front_made (sample_size p) (own - 0) a.work.now c.rotate.new.out (omega (arith, c.requires.2)) (omega (arith, c.rotate.auto.out)) ∙ made),
      c.join.ensures.1,
      c.join.ensures.2,
    )
