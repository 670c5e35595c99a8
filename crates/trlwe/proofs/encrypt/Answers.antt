-- `trlwe::encrypt` meets its contract. Assumes nothing.
use Rattle.std.proofs.Common.{arith, ap, ◌∙◌, ◌≡◌, ◌++◌, ◌-◌, ◌*◌, length}
use Rattle.torus.specs.Bytes.{words}
use Rattle.torus.proofs.Lists.{length_tabulate}
use Rattle.torus.proofs.Parts.{length_words}
use Rattle.trlwe.specs.Sample.{encryption}
use Rattle.trlwe.proofs.Parts.{body_lent, body_back, message_made}
use Rattle.trlwe.proofs.encrypt.Goals as goal

pub returns : goal.returns
unfolding encryption
returns c =
    let s = c.args in
    let x = s.x.now in
    let key = x.key in
    let n = key.k * key.n in
    let p = length x.masks.now in
    let zero = c.encrypt_zero in
    let size : length (words x.masks.now) ≡ n = omega (arith, length_words x.masks.now) in
    let all = length_tabulate key.n _ in
    body_back key.n n p (length zero.new.sample - p) zero.new.sample (words x.masks.now) _ zero.ensures size all (omega arith) (omega arith) _ (omega arith) (omega arith)
    ∙ ap (λ ws. words x.masks.now ++ ws)
    (message_made key.n key.k _ (words key.polynomials.now) (words x.masks.now) (words x.errors.now) _ _ _
    (body_lent key.n n p (length zero.new.sample - p) zero.new.sample (words x.masks.now) _ zero.ensures size all (omega arith) (omega arith))
    (omega arith) c.add_message.ensures)
