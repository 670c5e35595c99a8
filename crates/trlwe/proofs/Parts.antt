-- The parts of a sample in a lent slice: the masks and then the body, written one after the other.
-- Assumes nothing.
use mathlib.Core.Path.{◌≡◌, ap, ap₂, sym, ◌∙◌}
use mathlib.Core.List.{List, ◌++◌, append-nil}
use Prim.Native.Nat.{ℕ, ◌*◌, ◌^◌, ◌≤◌, ◌<◌}
use native.Mathlib.Omega.{arith}
use lib.ListN.{length, get_or, take, drop, replicate}
use lib.Seq.{length_front, length-take-le, take_all, take_at, drop_at, drop-length}
use Rattle.torus.specs.Sum.{tabulate}
use Rattle.torus.specs.Word.{add}
use Rattle.torus.specs.Bytes.{words}
use Rattle.torus.proofs.Lists.{tabulate_at, tabulate_const, tabulate_cong}
use Rattle.torus.proofs.Parts.{words_lent, words_back}
use Rattle.trlwe.specs.Sample.{body}

-- The length of a sample whose masks come back as ys.
pub masks_kept : (q : ℕ) (s ys : List ℕ) → q ≤ length s → length ys ≡ q → length (take 0 s ++ (ys ++ drop q (drop 0 s))) ≡ length s
masks_kept q s ys inside len = length_front s ys q (len ∙ sym (length-take-le q s inside))

module _ (N n p q : ℕ) (s a B : List ℕ) (made : words s ≡ a ++ B) (la : length a ≡ n) (l_b : length B ≡ N) (ep : p ≡ 4 * n) (eq : q ≡ 4 * N) where
  -- What is read of the body.
  pub body_lent : words (take q (drop p s)) ≡ B
  body_lent =
      words_lent n N p q s ep eq ∙ ap (λ ws. take N (drop n ws)) made ∙ ap (take N) (drop_at a B n la) ∙ take_all N B (omega arith)

  -- The body comes back as ys.
  pub body_back : (ys : List ℕ) → p ≤ length s → length ys ≡ q → words (take p s ++ (ys ++ drop q (drop p s))) ≡ a ++ words ys
  body_back ys inside len =
      words_back n N p q s ys ep eq inside len
      ∙ ap₂ ◌++◌ (ap (take n) made ∙ take_at a B n la)
      (ap (λ l. words ys ++ l) (ap (λ ws. drop N (drop n ws)) made ∙ ap (drop N) (drop_at a B n la) ∙ ap (λ m. drop m B) (sym l_b) ∙ drop-length B)
      ∙ append-nil (words ys))

-- A message f is added to a body b.
added : (N n : ℕ) (B ys : List ℕ) (b f g : ℕ → ℕ) → B ≡ tabulate N b → ((i : ℕ) → add (b i) (f i) ≡ g i)
    → n ≡ N → ys ≡ tabulate n (λ i. add (get_or B i 0) (f i)) → ys ≡ tabulate N g
added N n B ys b f g e_b sum e h =
    h ∙ ap (λ n. tabulate n (λ i. add (get_or B i 0) (f i))) e
    ∙ tabulate_cong N _ _ (λ i l. ap (λ x. add x (f i)) (ap (λ ws. get_or ws i 0) e_b ∙ tabulate_at N b i l) ∙ sum i)

-- To the body of an encryption of 0: it becomes an encryption of the message.
pub message_made : (N k n : ℕ) (K a e B ys : List ℕ) (f : ℕ → ℕ) → B ≡ tabulate N (body N k K a e (λ i. 0))
    → n ≡ N → ys ≡ tabulate n (λ i. add (get_or B i 0) (f i)) → ys ≡ tabulate N (body N k K a e f)
unfolding body
message_made N k n K a e B ys f e_b = added N n B ys _ f _ e_b (λ i. omega arith)

-- To a body that is 0: it becomes the message.
pub trivial_made : (N n : ℕ) (B ys : List ℕ) (f : ℕ → ℕ) → B ≡ replicate N 0 → ((i : ℕ) → f i < 2 ^ 32)
    → n ≡ N → ys ≡ tabulate n (λ i. add (get_or B i 0) (f i)) → ys ≡ tabulate N f
trivial_made N n B ys f e_b word = added N n B ys (λ i. 0) f f (e_b ∙ sym (tabulate_const N 0)) (λ i. let below : f i < 2 ^ 32 = word i in omega arith)
