-- `lwe::decrypt_scalar` meets its contract. Assumes nothing.
use Rattle.std.proofs.Common.{◌≡◌, ℕ, ◌/◌, List, [], ◌∷◌, length, set, refl, ap, sym, ◌∙◌, arith}
use Rattle.torus.specs.Bytes.{words}
use Rattle.torus.proofs.Parts.{length_words}
use Rattle.answers.specs.Answers.{number}
use Rattle.answers.proofs.Laws.{after_accepted}
use Rattle.trlwe.specs.Classes.{decode}
use Rattle.lwe.specs.Scalar.{scalar_phase}
use Rattle.lwe.specs.Calls.{decrypt_scalar_class}
use Rattle.lwe.proofs.Accepted.{scalar_accepted}
use Rattle.lwe.proofs.decrypt_scalar.Goals as goal

-- The one word of a list is replaced.
set_only : (l : List ℕ) (v : ℕ) → length l ≡ 1 → set l 0 v ≡ v ∷ []
set_only [] v e = absurd (omega arith)
set_only (x ∷ []) v e = refl
set_only (x ∷ y ∷ l) v e = absurd (omega arith)

pub scalar_phase-phase-requires : goal.scalar_phase-phase-requires
scalar_phase-phase-requires c =
    let f = scalar_accepted _ _ _ _ _ (ap number (sym c.decrypt_scalar_answer.ensures ∙ c.in_ok-ledger.was)) in
    omega (arith, f.scalar_length, f.key_fits.size)

pub invariant_of-decode : goal.invariant_of-decode
invariant_of-decode c =
    record { class_number = (scalar_accepted _ _ _ _ _ (ap number (sym c.decrypt_scalar_answer.ensures ∙ c.in_ok-ledger.was))).class_number }

pub put_word-requires : goal.put_word-requires
put_word-requires c =
    let f = scalar_accepted _ _ _ _ _ (ap number (sym c.decrypt_scalar_answer.ensures ∙ c.in_ok-ledger.was)) in
    omega (arith, f.class_length)

pub returns : goal.returns
unfolding decrypt_scalar_class
returns c =
    let s = c.args in
    let e = ap number (sym c.decrypt_scalar_answer.ensures ∙ c.in_ok-ledger.was) in
    let f = scalar_accepted _ _ _ _ _ e in
    let size : length s.key.now / 4 ≡ s.n = omega (arith, f.key_fits.size) in
    let class =
    c.decode.ensures
    ∙ ap (decode s.m) (c.scalar_phase-phase.ensures ∙ ap (λ n. scalar_phase n (words s.key.now) (words s.scalar.now)) size) in
    let one : length (words s.class.now) ≡ 1 = omega (arith, length_words s.class.now, f.class_length) in
    let written = c.put_word.ensures ∙ set_only (words s.class.now) _ one ∙ ap (λ w. w ∷ []) class in (
      sym c.in_ok-ledger.was ∙ c.decrypt_scalar_answer.ensures,
      after_accepted _ 1 _ _ _ e (omega (arith, f.class_length)) (λ i. (c.type_inv.class i).fits) written,
    )
