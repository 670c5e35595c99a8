-- a·K made mask by mask, and the bodies and messages that are added up in place.
-- Assumes nothing.
use mathlib.Core.Path.{◌≡◌, ap, sym, ◌∙◌}
use mathlib.Core.List.{List}
use Prim.Native.Nat.{ℕ, ◌+◌, ◌*◌, ◌%◌, ◌^◌, ◌≤◌, ◌<◌}
use native.Mathlib.Nat.{mod-eq_of_lt, mod-mod, add-zero}
use native.Mathlib.Numerals.{add-one}
use native.Mathlib.Omega.{arith}
use native.Mathlib.Decide.{dec_lt}
use lib.Arith.{digits_lt}
use lib.ListN.{length, get_or, take, drop, replicate, get_or-replicate}
use lib.Seq.{ext_get_or, get_or-take, get_or-drop}
use Rattle.torus.specs.Sum.{sum, tabulate}
use Rattle.torus.specs.Word.{add, sub, magnitude}
use Rattle.torus.specs.Bytes.{words}
use Rattle.torus.proofs.Sums.{add_add}
use Rattle.torus.proofs.Lists.{filled, length_filled, filled_before, filled_later, length_tabulate, tabulate_at, tabulate_cong, tabulate_self}
use Rattle.torus.proofs.Magnitudes.{magnitude_low}
use Rattle.torus.proofs.Parts.{words_lent}
use Rattle.ring.specs.Polynomial.{coefficients, Agree, product, add_product}
use Rattle.ring.proofs.Terms.{product_agree}
use Rattle.trlwe.specs.Classes.{encode, decode, message}
use Rattle.trlwe.specs.Sample.{part, masked, phase, body, decrypted, Key}
use Rattle.trlwe.proofs.Decoding.{message_used, message_unused}

-- What is read of polynomial c, lent as bytes from p on.
pub part_lent : (N c p q : ℕ) (s : List ℕ) → p ≡ 4 * (c * N) → q ≡ 4 * N
    → Agree N (coefficients (words (take q (drop p s)))) (part N (words s) c)
part_lent N c p q s ep eq i l =
    ap (λ ws. get_or ws i 0) (words_lent (c * N) N p q s ep eq)
    ∙ get_or-take N (drop (c * N) (words s)) i 0 l ∙ get_or-drop (c * N) (words s) i 0

-- The words of a key are small factors.
pub key_small : (N k c p q : ℕ) (K : List ℕ) → Key N k K → c < k → p ≡ 4 * (c * N) → q ≡ 4 * N
    → (i : ℕ) → i < N → magnitude (coefficients (words (take q (drop p K))) i) ≤ 2 ^ 15
key_small N k c p q K key lc ep eq i l =
    let inside : c * N + i < k * N = digits_lt lc l in
    let bit : get_or (words K) (c * N + i) 0 ≤ 1 = key.bits (c * N + i) inside in
    rw (part_lent N c p q K ep eq i l) (omega (arith, magnitude_low (get_or (words K) (c * N + i) 0) (omega arith)))

-- a·K over the first c masks, added to o.
abbrev pub Added : (N : ℕ) (K a : List ℕ) → ℕ → List ℕ → List ℕ → Type 0
Added N K a c o out = out ≡ tabulate N (λ i. add (get_or o i 0) (masked N c K a i))

pub added_none : (N : ℕ) (K a o : List ℕ) → length o ≡ N → ((i : ℕ) → get_or o i 0 < 2 ^ 32) → Added N K a 0 o o
unfolding masked sum
added_none N K a o len word =
    sym (tabulate_cong N _ (λ i. get_or o i 0) (λ i l. ap (λ x. x % 2 ^ 32) (add-zero (get_or o i 0)) ∙ mod-eq_of_lt (word i))
    ∙ tabulate_self N o len)

added_product : (N : ℕ) (K a : List ℕ) (c : ℕ) (o out y p : List ℕ) → Added N K a c o out
    → Agree N (coefficients y) (part N K c) → Agree N (coefficients p) (part N a c) → Added N K a (c + 1) o (add_product N out y p)
unfolding add_product masked sum
added_product N K a c o out y p h ey ep = rw (add-one c)
    (tabulate_cong N _ _ (λ i l.
    ap (λ x. add x (product N (coefficients y) (coefficients p) i)) (ap (λ ws. get_or ws i 0) h ∙ tabulate_at N _ i l)
    ∙ ap (λ x. add (add (get_or o i 0) (sum c (λ d. product N (part N K d) (part N a d) i) % 2 ^ 32)) x) (product_agree N ey ep i l)
    ∙ add_add (get_or o i 0) _ _))

-- One mask more. K and a are bytes, and polynomial c of each is lent from p on.
pub added_more : (N : ℕ) (K a : List ℕ) (c p q : ℕ) (o out out' : List ℕ) → Added N (words K) (words a) c o out → p ≡ 4 * (c * N) → q ≡ 4 * N
    → out' ≡ add_product N out (words (take q (drop p K))) (words (take q (drop p a))) → Added N (words K) (words a) (c + 1) o out'
added_more N K a c p q o out out' h ep eq e =
    e ∙ added_product N (words K) (words a) c o out _ _ h (part_lent N c p q K ep eq) (part_lent N c p q a ep eq)

-- The errors and a·K make up the body of an encryption of 0.
pub body_made : (N k : ℕ) (K a e out out' : List ℕ) → out ≡ e → Added N K a k out out' → out' ≡ tabulate N (body N k K a e (λ i. 0))
unfolding body
body_made N k K a e out out' ee h =
    h ∙ ap (λ o. tabulate N (λ i. add (get_or o i 0) (masked N k K a i))) ee ∙ tabulate_cong N _ _ (λ i l. omega arith)

-- A message is added at its used coefficients alone: the others stay as they are.
pub message_added : (N M s : ℕ) (o classes : List ℕ) → length o ≡ N → s ≤ N → ((i : ℕ) → get_or o i 0 < 2 ^ 32)
    → filled s (λ i. add (get_or o i 0) (encode M (get_or classes i 0))) o ≡ tabulate N (λ i. add (get_or o i 0) (message M s classes i))
message_added N M s o classes len le word =
    let f : ℕ → ℕ = λ i. add (get_or o i 0) (encode M (get_or classes i 0)) in
    ext_get_or 0 _ _ (length_filled s f o ∙ len ∙ sym (length_tabulate N _))
    (λ i h. let l : i < N = omega (arith, length_filled s f o) in message_at i (dec_lt i s) ∙ sym (tabulate_at N _ i l))
  where
    message_at : (i : ℕ) → Dec (i < s) → get_or (filled s (λ i. add (get_or o i 0) (encode M (get_or classes i 0))) o) i 0 ≡ add (get_or o i 0) (message M s classes i)
    message_at i (yes l) = filled_before s _ o i (omega arith) l ∙ ap (add (get_or o i 0)) (sym (message_used M s classes i l))
    message_at i (no n) =
        let l : s ≤ i = omega arith in
        filled_later s _ o i l ∙ sym (ap (add (get_or o i 0)) (message_unused M s classes i l) ∙ ap (λ x. x % 2 ^ 32) (add-zero (get_or o i 0)) ∙ mod-eq_of_lt (word i))

-- With a·K made in a room that was all 0, the body less the room's words is the phase.
pub room_made : (N n k M s : ℕ) (K sample room room' classes : List ℕ) → s ≤ N → n ≡ N → room ≡ replicate n 0 → Added N K sample k room room'
    → classes ≡ tabulate s (λ i. decode M (sub (get_or sample (k * N + i) 0) (get_or room' i 0))) → classes ≡ decrypted N k M s K sample
unfolding decrypted phase masked
room_made N n k M s K sample room room' classes le size cleared h e =
    e ∙ tabulate_cong s _ _ (λ i l.
    let li : i < N = omega arith in
    let zero_at : get_or room i 0 ≡ 0 = ap (λ ws. get_or ws i 0) cleared ∙ get_or-replicate n i 0 0 (omega arith) in
    ap (λ x. decode M (sub (get_or sample (k * N + i) 0) x))
    (ap (λ ws. get_or ws i 0) h ∙ tabulate_at N _ i li ∙ ap (λ x. add x (masked N k K sample i)) zero_at
    ∙ omega (arith, mod-mod (sum k (λ c. product N (part N K c) (part N sample c) i)) (2 ^ 32))))
