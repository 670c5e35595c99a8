-- `gates::external::external_product` meets its contract. Assumes nothing.
use Rattle.std.proofs.Common.{arith, ◌≡◌, ◌/◌, length, replicate, ap, sym, ◌∙◌}
use Rattle.torus.specs.Bytes.{words}
use Rattle.answers.specs.Answers.{number}
use Rattle.answers.proofs.Laws.{after_accepted}
use Rattle.trgsw.specs.Parameters.{parameters, sample_size}
use Rattle.trgsw.specs.External.{external_sample}
use Rattle.gates.specs.Calls as Calls
use Rattle.gates.proofs.Accepted.{external_accepted}
use Rattle.gates.proofs.Cleared.{cleared_made}
use Rattle.gates.proofs.external.external_product.Goals as goal

-- What holds of the arguments past the test.
pub clear_words-requires : goal.clear_words-requires
clear_words-requires c =
    let fit = external_accepted _ (ap number (sym c.external_product_answer.ensures ∙ c.in_ok-ledger.was)) in
    omega (arith, fit.out_length)

pub parameter_set-requires : goal.parameter_set-requires
parameter_set-requires c = (external_accepted _ (ap number (sym c.external_product_answer.ensures ∙ c.in_ok-ledger.was))).scheme

pub add_external-requires : goal.add_external-requires
add_external-requires c =
    let fit = external_accepted _ (ap number (sym c.external_product_answer.ensures ∙ c.in_ok-ledger.was)) in
    rw c.parameter_set.ensures (record {
      degree = fit.scheme.degree;
      gadget = fit.scheme.gadget;
      block_length = fit.block_length;
      x_length = fit.sample_length;
      y_length = omega (arith, fit.out_length);
    })

pub returns : goal.returns
unfolding Calls.external_product_out
returns c =
    let s = c.args in
    let p = parameters s.lent.now.scheme in
    let e = ap number (sym c.external_product_answer.ensures ∙ c.in_ok-ledger.was) in
    let fit = external_accepted _ e in
    let size : length s.out.now / 4 ≡ sample_size p = omega (arith, fit.out_length) in
    let cleared : words c.clear_words.new.out ≡ replicate (sample_size p) 0 = c.clear_words.ensures ∙ ap (λ n. replicate n 0) size in
    let made : words c.add_external.new.out ≡ external_sample p (words s.lent.now.block.now) (words s.lent.now.sample.now) =
    rw (sym c.parameter_set.ensures) (c.add_external.ensures ∙ cleared_made _ _ _ _ (rw c.parameter_set.ensures cleared)) in
    (sym c.in_ok-ledger.was ∙ c.external_product_answer.ensures, after_accepted _ (sample_size p) _ _ _ e (omega (arith, fit.out_length)) (λ i. (c.type_inv.out i).fits) made)
