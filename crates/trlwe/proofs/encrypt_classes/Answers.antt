-- `trlwe::encrypt_classes` meets its contract. Assumes nothing.
use Rattle.std.proofs.Common.{◌≡◌, ◌*◌, ◌/◌, length, arith, ap, sym, ◌∙◌}
use Rattle.torus.specs.Bytes.{words}
use Rattle.answers.specs.Answers.{number}
use Rattle.answers.proofs.Laws.{after_accepted}
use Rattle.trlwe.specs.Classes.{message}
use Rattle.trlwe.specs.Sample.{encryption}
use Rattle.trlwe.specs.Calls as Calls
use Rattle.trlwe.proofs.Accepted.{encrypt_accepted}
use Rattle.trlwe.proofs.encrypt_classes.Goals as goal

pub invariant_of-key : goal.invariant_of-key
invariant_of-key c =
    record { fits = (encrypt_accepted _ _ _ _ _ _ _ _ (ap number (sym c.encrypt_classes_answer.ensures ∙ c.in_ok-ledger.was))).key_fits }

pub invariant_of-message : goal.invariant_of-message
invariant_of-message c =
    record { class_number = (encrypt_accepted _ _ _ _ _ _ _ _ (ap number (sym c.encrypt_classes_answer.ensures ∙ c.in_ok-ledger.was))).class_number }

pub invariant_of-message-2 : goal.invariant_of-message-2
invariant_of-message-2 c =
    let f = encrypt_accepted _ _ _ _ _ _ _ _ (ap number (sym c.encrypt_classes_answer.ensures ∙ c.in_ok-ledger.was)) in
    record { below = λ i l. f.below i (omega (arith, f.classes_length)) }

pub invariant_of-encryption : goal.invariant_of-encryption
invariant_of-encryption c =
    let f = encrypt_accepted _ _ _ _ _ _ _ _ (ap number (sym c.encrypt_classes_answer.ensures ∙ c.in_ok-ledger.was)) in
    record { masks_length = omega (arith, f.mask_length); errors_length = f.errors_length }

pub encrypt-requires : goal.encrypt-requires
encrypt-requires c =
    let f = encrypt_accepted _ _ _ _ _ _ _ _ (ap number (sym c.encrypt_classes_answer.ensures ∙ c.in_ok-ledger.was)) in
    (omega (arith, f.sample_length), omega (arith, f.classes_length, f.most))

pub returns : goal.returns
unfolding Calls.encrypt_classes_sample
returns c =
    let a = c.args in
    let e = ap number (sym c.encrypt_classes_answer.ensures ∙ c.in_ok-ledger.was) in
    let f = encrypt_accepted _ _ _ _ _ _ _ _ e in
    let count : length a.classes.now / 4 ≡ a.s = omega (arith, f.classes_length) in
    let written =
    c.encrypt.ensures
    ∙ ap (λ s. encryption a.n 1 (words a.key.now) (words a.mask.now) (words a.errors.now) (message a.m s (words a.classes.now))) count in (
      sym c.in_ok-ledger.was ∙ c.encrypt_classes_answer.ensures,
      after_accepted _ (2 * a.n) _ _ _ e (omega (arith, f.sample_length)) (λ i. (c.type_inv.sample i).fits) written,
    )
