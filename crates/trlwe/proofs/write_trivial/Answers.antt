-- `trlwe::write_trivial` meets its contract. Assumes nothing.
use Rattle.std.proofs.Common.{arith, ap, ◌∙◌, sym, ◌≡◌, List, ◌++◌, ℕ, ◌+◌, ◌-◌, ◌*◌, ◌/◌, length, replicate}
use lib.ListN.{length-replicate, replicate-append-replicate}
use Rattle.torus.specs.Bytes.{words}
use Rattle.trlwe.specs.Sample.{trivial}
use Rattle.trlwe.proofs.Decoding.{message_word}
use Rattle.trlwe.proofs.Parts.{body_lent, body_back, trivial_made}
use Rattle.trlwe.proofs.write_trivial.Goals as goal

pub returns : goal.returns
unfolding trivial
returns c =
    let a = c.args in
    let s = a.message.now in
    let n = a.k * a.n in
    let p = 4 * n in
    let zero : List ℕ = c.clear_words.new.out in
    let count : length a.sample.now / 4 ≡ n + a.n = omega (arith, c.requires.0) in
    let made : words zero ≡ replicate n 0 ++ replicate a.n 0 =
    c.clear_words.ensures ∙ ap (λ (m : ℕ). replicate m 0) count ∙ sym (replicate-append-replicate {A = ℕ} n a.n 0) in
    let masks : List ℕ = replicate n 0 in
    let body : List ℕ = replicate a.n 0 in
    let front : length masks ≡ n = length-replicate {A = ℕ} n 0 in
    let back : length body ≡ a.n = length-replicate {A = ℕ} a.n 0 in
    body_back a.n n p (length zero - p) zero masks body made front back (omega arith) (omega arith) _ (omega arith) (omega arith)
    ∙ ap (λ ws. masks ++ ws)
    (trivial_made a.n _ _ _ _ (body_lent a.n n p (length zero - p) zero masks body made front back (omega arith) (omega arith))
    (message_word s.encoding.m (length s.classes.now / 4) (words s.classes.now) s.encoding.class_number s.below)
    (omega arith) c.add_message.ensures)
