-- `report::Writer::decimal` meets its contract. Assumes nothing.
use Rattle.std.proofs.Common.{◌≡◌, ◌-◌, ◌^◌, ◌<◌, ℕ, List, [], ◌++◌, length, take, drop, replicate, refl, ap, ◌∙◌, arith, length-drop, append-nil}
use lib.Seq.{take_all}
use lib.ListN.{drop_of_length-le}
use Rattle.std.specs.Fmt as Fmt
use Rattle.std.proofs.lemmas.Fmt.{length-decimal-le}
use Rattle.report.specs.Text.{decimal}
use Rattle.report.proofs.Decimal.{same_decimal}
use Rattle.report.proofs.Writer.decimal.Goals as goal

-- What is lent of the room of the digits: the text of the number, behind which nothing stands.
digits_lent : (n first : ℕ) (before after : List ℕ) → n < 2 ^ 64 → length before ≡ 20 → length after ≡ 20
    → drop first after ≡ Fmt.decimal n ++ drop 20 before → take (20 - first) (drop first after) ≡ decimal n
digits_lent n first before after h b a e =
    let none : drop 20 before ≡ [] = drop_of_length-le before {i = 20} (omega arith) in
    take_all (20 - first) (drop first after) (omega (arith, length-drop first after))
    ∙ e ∙ ap (λ s. Fmt.decimal n ++ s) none ∙ append-nil (Fmt.decimal n) ∙ same_decimal n h

pub write_digits-first-requires : goal.write_digits-first-requires
write_digits-first-requires c = (length-decimal-le 20 c.args.n (omega arith) (omega arith) (omega arith), omega arith)

pub returns : goal.returns
returns c =
    let n = c.args.n in
    let first = c.write_digits-first.result in
    let after = c.write_digits-first.new.buf in
    rw (← digits_lent n first (replicate 20 0) after (omega arith) refl (omega arith) c.write_digits-first.ensures.written) c.put.ensures
