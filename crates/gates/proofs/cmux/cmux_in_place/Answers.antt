-- `gates::cmux::cmux_in_place` meets its contract. Assumes nothing.
use Rattle.std.proofs.Common.{arith, ◌≡◌, suc, ◌/◌, length, ap, ◌∙◌}
use Rattle.torus.specs.Bytes.{words}
use Rattle.torus.specs.Word.{add}
use Rattle.trlwe.specs.Sample.{part, polynomials}
use Rattle.trgsw.specs.Parameters.{sample_size}
use Rattle.trgsw.specs.External.{external, difference, cmux_sample}
use Rattle.gates.proofs.cmux.cmux_in_place.Goals as goal

pub returns : goal.returns
unfolding difference cmux_sample
returns c =
    let s = c.args in
    let size : length s.x.now / 4 ≡ sample_size s.p = omega (arith, c.requires.x_length) in
    let minus : words c.sub_words.new.out ≡ difference (sample_size s.p) (words s.x.now) (words s.out.now) =
    c.sub_words.ensures ∙ ap (λ n. difference n (words s.x.now) (words s.out.now)) size in (
      c.add_external.ensures
          ∙ ap (λ d. polynomials s.p.N (suc s.p.k) (λ e i. add (part s.p.N (words s.out.now) e i) (external s.p (words s.block.now) d e i))) minus,
      minus,
    )
