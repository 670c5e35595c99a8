-- `lwe::extract` meets its contract. Assumes nothing.
use Rattle.std.proofs.Common.{◌+◌, ap, sym, ◌∙◌, arith}
use Rattle.answers.specs.Answers.{number}
use Rattle.answers.proofs.Laws.{after_accepted}
use Rattle.lwe.specs.Calls.{extract_scalar}
use Rattle.lwe.proofs.Accepted.{extract_accepted}
use Rattle.lwe.proofs.extract.Goals as goal

pub write_scalar-requires : goal.write_scalar-requires
write_scalar-requires c =
    let f = extract_accepted _ _ _ _ (ap number (sym c.extract_answer.ensures ∙ c.in_ok-ledger.was)) in
    (omega (arith, f.sample_length), omega (arith, f.scalar_length), f.position)

pub returns : goal.returns
unfolding extract_scalar
returns c =
    let e = ap number (sym c.extract_answer.ensures ∙ c.in_ok-ledger.was) in
    let f = extract_accepted _ _ _ _ e in
    (sym c.in_ok-ledger.was ∙ c.extract_answer.ensures, after_accepted _ (c.args.n + 1) _ _ _ e (omega (arith, f.scalar_length)) (λ i. (c.type_inv.scalar i).fits) c.write_scalar.ensures)
