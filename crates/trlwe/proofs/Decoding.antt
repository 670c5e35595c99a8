-- The law of encoding and decoding: a phase word that is nearer to the encoding of a class than half of a band decodes to that
-- class. And the words of a message.
-- Assumes nothing.
use mathlib.Core.Path.{◌≡◌, ap, sym, ◌∙◌, subst}
use mathlib.Core.List.{List}
use Prim.Native.Nat.{ℕ, ◌+◌, ◌-◌, ◌*◌, ◌/◌, ◌%◌, ◌^◌, ◌≤◌, ◌<◌}
use native.Mathlib.Nat.{mod-lt, mod-eq_of_lt, add-mul-mod_self_right, div-lt_iff_lt-mul, mul-lt-mul_of_pos_right}
use native.Mathlib.Decide.{dec_lt}
use native.Mathlib.Omega.{arith}
use borrow.Author.Tests.{lt-ltb, le-ltb}
use lib.Arith.{digits_div, digits_lt}
use lib.Dec.{lit<}
use lib.ListN.{get_or}
use Rattle.torus.proofs.Near.{Near}
use Rattle.answers.specs.Checks.{ClassNumber}
use Rattle.answers.proofs.ClassNumbers.{half_some, half_band, band}
use Rattle.trlwe.specs.Classes.{encode, decode, message}

-- With D the band of a class and H half of it: f + H lies in the band of c, at r.
decode_at : (M D H f c r s t : ℕ) → c < M → r < D → f + H + s * (M * D) ≡ c * D + r + t * (M * D) → (f + H) % (M * D) / D ≡ c
decode_at M D H f c r s t lc small moved =
    ap (λ a. a / D) (sym (add-mul-mod_self_right (f + H) s (M * D))
    ∙ ap (λ a. a % (M * D)) moved
    ∙ add-mul-mod_self_right (c * D + r) t (M * D)
    ∙ mod-eq_of_lt (digits_lt lc small))
    ∙ digits_div c small

decode_within : (M D H : ℕ) {A f c : ℕ} → D ≡ H + H → c < M → A < H → Near (M * D) A f (c * D) → (f + H) % (M * D) / D ≡ c
decode_within M D H {A} {f} {c} e lc l_a h =
    decode_at M D H f c (H + h.v - h.u) h.s h.t lc (omega (arith, h.small)) (omega (arith, h.same, h.small))

module _ (M : ℕ) (ok : ClassNumber M) where
  pub decode_near : {A f c : ℕ} → c < M → A < 2 ^ 31 / M → Near (2 ^ 32) A f (encode M c) → decode M f ≡ c
  unfolding encode decode
  decode_near {A} {f} {c} lc l_a h =
      subst (λ Q. (f + 2 ^ 31 / M) % Q / (2 ^ 32 / M) ≡ c) (band M ok)
      (decode_within M (2 ^ 32 / M) (2 ^ 31 / M) (half_band M ok) lc l_a (subst (λ Q. Near Q A f (c * (2 ^ 32 / M))) (sym (band M ok)) h))

  -- The encoding of a class is a word.
  pub encode_word : {c : ℕ} → c < M → encode M c < 2 ^ 32
  unfolding encode
  encode_word {c} lc =
      let some : 0 < 2 ^ 32 / M = omega (arith, half_some M ok, half_band M ok) in
      subst (λ Q. c * (2 ^ 32 / M) < Q) (band M ok) (mul-lt-mul_of_pos_right lc some)

  -- Every word decodes to a class.
  pub decode_class : (f : ℕ) → decode M f < M
  unfolding decode
  decode_class f =
      let some : 0 < 2 ^ 32 / M = omega (arith, half_some M ok, half_band M ok) in
      (div-lt_iff_lt-mul some).1 (subst (λ Q. (f + 2 ^ 31 / M) % 2 ^ 32 < Q) (sym (band M ok)) (mod-lt (f + 2 ^ 31 / M) (lit< tt)))

  pub decode_word : (f : ℕ) → decode M f < 2 ^ 32
  decode_word f = omega (arith, decode_class f, ok.most)

-- ---- messages

pub message_used : (M s : ℕ) (classes : List ℕ) (i : ℕ) → i < s → message M s classes i ≡ encode M (get_or classes i 0)
unfolding message
message_used M s classes i l = simp (lt-ltb i s l)

pub message_unused : (M s : ℕ) (classes : List ℕ) (i : ℕ) → s ≤ i → message M s classes i ≡ 0
unfolding message
message_unused M s classes i l = simp (le-ltb i s l)

pub message_word : (M s : ℕ) (classes : List ℕ) → ClassNumber M → ((i : ℕ) → i < s → get_or classes i 0 < M) → (i : ℕ) → message M s classes i < 2 ^ 32
message_word M s classes ok below i = go (dec_lt i s)
  where
    go : Dec (i < s) → message M s classes i < 2 ^ 32
    go (yes l) = rw (message_used M s classes i l) (encode_word M ok (below i l))
    go (no n) = rw (message_unused M s classes i (omega arith)) (lit< tt)
