-- The external product, added to 0.
-- Assumes nothing.
use mathlib.Core.Path.{◌≡◌, ap, ◌∙◌}
use mathlib.Core.List.{List}
use Prim.Native.Nat.{ℕ, suc, ◌+◌, ◌*◌, ◌%◌, ◌^◌}
use native.Mathlib.Nat.{zero-add, mod-mod}
use lib.Arith.{digits_lt}
use lib.ListN.{replicate, get_or-replicate}
use Rattle.torus.specs.Word.{add}
use Rattle.trlwe.specs.Sample.{part, polynomials}
use Rattle.trlwe.proofs.Polynomials.{polynomials_cong}
use Rattle.trgsw.specs.declared.Parameters.{Parameters}
use Rattle.trgsw.specs.Parameters.{sample_size}
use Rattle.trgsw.specs.External.{external, external_sample}

-- To a sample that is all 0, the external product is added: it is the external product.
pub cleared_made : (p : Parameters) (block x o : List ℕ) → o ≡ replicate (sample_size p) 0
    → polynomials p.N (suc p.k) (λ c i. add (part p.N o c i) (external p block x c i)) ≡ external_sample p block x
unfolding external external_sample
cleared_made p block x o e =
    polynomials_cong p.N (suc p.k) _ _ (λ c i lc li.
    let none : part p.N o c i ≡ 0 = ap (λ l. part p.N l c i) e ∙ get_or-replicate (sample_size p) (c * p.N + i) 0 0 (digits_lt lc li) in
    ap (λ w. add w (external p block x c i)) none ∙ ap (λ w. w % 2 ^ 32) (zero-add (external p block x c i)) ∙ mod-mod _ (2 ^ 32))
