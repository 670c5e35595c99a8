-- `tables::Lawful::sample_classes` meets its contract. Assumes nothing.
use Rattle.std.proofs.Common.{◌*◌, ◌^◌, ap, ◌∙◌, arith}
use Rattle.tables.proofs.Packings.{rotations_le, depth_le, sample_classes_le}
use Rattle.tables.proofs.Lawful.sample_classes.Goals as goal

pub power-requires : goal.power-requires
power-requires c = omega (arith, c.rotations.ensures, rotations_le c.args.self.numbers, depth_le c.args.self.numbers c.args.self.lawful)

pub overflow_mul-result : goal.overflow_mul-result
overflow_mul-result c =
    let made = ap (λ n. c.args.self.numbers.s * n) (c.power.ensures ∙ ap (λ r. 2 ^ r) c.rotations.ensures) in
    omega (arith, made, sample_classes_le c.args.self.numbers c.args.self.lawful, c.args.self.lawful.scheme.degree.most)

pub returns : goal.returns
returns c =
    let made = ap (λ n. c.args.self.numbers.s * n) (c.power.ensures ∙ ap (λ r. 2 ^ r) c.rotations.ensures) in
    (made, omega (arith, made, sample_classes_le c.args.self.numbers c.args.self.lawful))
