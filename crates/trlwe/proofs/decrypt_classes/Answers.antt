-- `trlwe::decrypt_classes` meets its contract. Assumes nothing.
use Rattle.std.proofs.Common.{◌≡◌, ◌/◌, length, arith, ap, sym, ◌∙◌}
use Rattle.torus.specs.Bytes.{words}
use Rattle.answers.specs.Answers.{number}
use Rattle.answers.proofs.Laws.{after_accepted}
use Rattle.trlwe.specs.Sample.{decrypted}
use Rattle.trlwe.specs.Calls as Calls
use Rattle.trlwe.proofs.Accepted.{decrypt_accepted}
use Rattle.trlwe.proofs.decrypt_classes.Goals as goal

pub invariant_of-key : goal.invariant_of-key
invariant_of-key c =
    record { fits = (decrypt_accepted _ _ _ _ _ _ (ap number (sym c.decrypt_classes_answer.ensures ∙ c.in_ok-ledger.was))).key_fits }

pub invariant_of-decrypt : goal.invariant_of-decrypt
invariant_of-decrypt c =
    record { class_number = (decrypt_accepted _ _ _ _ _ _ (ap number (sym c.decrypt_classes_answer.ensures ∙ c.in_ok-ledger.was))).class_number }

pub decrypt-requires : goal.decrypt-requires
decrypt-requires c =
    let f = decrypt_accepted _ _ _ _ _ _ (ap number (sym c.decrypt_classes_answer.ensures ∙ c.in_ok-ledger.was)) in
    (omega (arith, f.sample_length), omega (arith, f.classes_length, f.most))

pub returns : goal.returns
unfolding Calls.decrypt_classes_classes
returns c =
    let a = c.args in
    let e = ap number (sym c.decrypt_classes_answer.ensures ∙ c.in_ok-ledger.was) in
    let f = decrypt_accepted _ _ _ _ _ _ e in
    let count : length a.classes.now / 4 ≡ a.s = omega (arith, f.classes_length) in
    let written = c.decrypt.ensures ∙ ap (λ s. decrypted a.n 1 a.m s (words a.key.now) (words a.sample.now)) count in (
      sym c.in_ok-ledger.was ∙ c.decrypt_classes_answer.ensures,
      after_accepted _ a.s _ _ _ e (omega (arith, f.classes_length)) (λ i. (c.type_inv.classes i).fits) written,
    )
