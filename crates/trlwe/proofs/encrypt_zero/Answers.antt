-- `trlwe::encrypt_zero` meets its contract. Assumes nothing.
use Rattle.std.proofs.Common.{arith, ap, ◌∙◌, ◌≡◌, List, ◌++◌, ℕ, ◌-◌, ◌*◌, length, take, drop, length-drop}
use Rattle.torus.specs.Bytes.{words}
use Rattle.torus.proofs.Parts.{length_words, front_back}
use Rattle.trlwe.specs.Sample.{encryption}
use Rattle.trlwe.proofs.Parts.{masks_kept, body_back}
use Rattle.trlwe.proofs.encrypt_zero.Goals as goal

pub returns : goal.returns
unfolding encryption
returns c =
    let s = c.args in
    let x = s.x.now in
    let key = x.key in
    let n = key.k * key.n in
    let p = length x.masks.now in
    let copied : List ℕ = c.copy_words.new.out in
    let sample : List ℕ = take 0 s.sample.now ++ (copied ++ drop (p - 0) (drop 0 s.sample.now)) in
    let kept : length sample ≡ length s.sample.now = masks_kept (p - 0) s.sample.now copied (omega arith) (omega arith) in
    let masks : words sample ≡ words x.masks.now ++ drop n (words s.sample.now) =
    front_back n (p - 0) s.sample.now copied (omega arith) (omega arith)
    ∙ ap (λ ws. ws ++ drop n (words s.sample.now)) c.copy_words.ensures in
    body_back key.n n p (length sample - p) sample (words x.masks.now) _ masks
    (omega (arith, length_words x.masks.now)) (omega (arith, length-drop n (words s.sample.now), length_words s.sample.now))
    (omega arith) (omega arith) _ (omega arith) (omega arith)
    ∙ ap (λ ws. words x.masks.now ++ ws) c.write_body.ensures
