-- `selectors::encrypt_selector` meets its contract. Assumes nothing.
use Rattle.std.proofs.Common.{arith, ◌≡◌, ap, sym, subst, ◌∙◌}
use Rattle.torus.specs.Bytes.{words}
use Rattle.answers.specs.Answers.{number}
use Rattle.answers.proofs.Laws.{after_accepted}
use Rattle.trgsw.specs.Parameters.{scheme_of, parameters, block_size}
use Rattle.selectors.specs.Encrypted.{encrypted_block}
use Rattle.selectors.specs.Calls as Calls
use Rattle.selectors.proofs.Accepted.{selector_accepted}
use Rattle.selectors.proofs.encrypt_selector.Goals as goal

-- What holds of the arguments past the test.
pub parameter_set-requires : goal.parameter_set-requires
parameter_set-requires c = rw c.new-scheme.ensures ((selector_accepted _ (ap number (sym c.encrypt_selector_answer.ensures ∙ c.in_ok-ledger.was))).scheme)

pub encrypt-requires : goal.encrypt-requires
encrypt-requires c =
    let fit = selector_accepted _ (ap number (sym c.encrypt_selector_answer.ensures ∙ c.in_ok-ledger.was)) in
    rw (c.parameter_set.ensures ∙ ap parameters c.new-scheme.ensures) (fit.rows, fit.block_length)

pub returns : goal.returns
unfolding Calls.encrypt_selector_block
returns c =
    let s = c.args.lent.now in
    let e = ap number (sym c.encrypt_selector_answer.ensures ∙ c.in_ok-ledger.was) in
    let fit = selector_accepted _ e in
    let made = subst (λ p. words c.encrypt.new.block ≡ encrypted_block p s.bit (words s.key.now) (words s.masks.now) (words s.errors.now))
    (c.parameter_set.ensures ∙ ap parameters c.new-scheme.ensures) c.encrypt.ensures in (
      sym c.in_ok-ledger.was ∙ c.encrypt_selector_answer.ensures,
      after_accepted _ (block_size (parameters (scheme_of s.N s.g s.L))) _ _ _ e (omega (arith, fit.block_length)) (λ i. (c.type_inv.block i).fits) made,
    )
