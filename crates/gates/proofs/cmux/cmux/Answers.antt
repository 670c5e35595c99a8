-- `gates::cmux::cmux` meets its contract. Assumes nothing.
use Rattle.std.proofs.Common.{arith, ◌≡◌, ap, sym, subst, ◌∙◌}
use Rattle.torus.specs.Bytes.{words}
use Rattle.answers.specs.Answers.{number}
use Rattle.answers.proofs.Laws.{after_accepted}
use Rattle.trgsw.specs.Parameters.{parameters, sample_size}
use Rattle.trgsw.specs.External.{cmux_sample}
use Rattle.trgsw.proofs.Told.{masks_most}
use Rattle.gates.specs.Calls as Calls
use Rattle.gates.proofs.Accepted.{cmux_accepted}
use Rattle.gates.proofs.cmux.cmux.Goals as goal

-- What holds of the arguments past the test.
pub parameter_set-requires : goal.parameter_set-requires
parameter_set-requires c = (cmux_accepted _ (ap number (sym c.cmux_answer.ensures ∙ c.in_ok-ledger.was))).scheme

pub cmux_roomed-requires : goal.cmux_roomed-requires
cmux_roomed-requires c =
    let fit = cmux_accepted _ (ap number (sym c.cmux_answer.ensures ∙ c.in_ok-ledger.was)) in
    rw c.parameter_set.ensures (
      record {
        degree = fit.scheme.degree;
        gadget = fit.scheme.gadget;
        block_length = fit.block_length;
        x_length = fit.sample₀_length;
        y_length = fit.out_length;
      },
      fit.sample₁_length,
      masks_most c.args.lent.now.scheme,
    )

pub returns : goal.returns
unfolding Calls.cmux_out
returns c =
    let s = c.args in
    let p = parameters s.lent.now.scheme in
    let e = ap number (sym c.cmux_answer.ensures ∙ c.in_ok-ledger.was) in
    let fit = cmux_accepted _ e in
    let made = subst (λ q. words c.cmux_roomed.new.out ≡ cmux_sample q (words s.lent.now.block.now) (words s.lent.now.sample0.now) (words s.lent.now.sample1.now))
    c.parameter_set.ensures c.cmux_roomed.ensures in
    (sym c.in_ok-ledger.was ∙ c.cmux_answer.ensures, after_accepted _ (sample_size p) _ _ _ e (omega (arith, fit.out_length)) (λ i. (c.type_inv.out i).fits) made)
