-- What an accepted encryption of a selector leaves holds its bit within the reported bound, from bytes to bytes. The bound is an exact number,
-- above 2^31 too.
-- Assumes nothing.
use mathlib.Core.Path.{◌≡◌, ap, ◌∙◌}
use Prim.Native.Nat.{◌*◌}
use native.Mathlib.Omega.{arith}
use lib.ListN.{length}
use Rattle.torus.specs.Bytes.{AreBytes, words}
use Rattle.torus.proofs.Parts.{length_words, words_word, words_bytes}
use Rattle.answers.specs.Answers.{number, bound, greatest_magnitude}
use Rattle.answers.proofs.Laws.{greatest_at, after_written}
use Rattle.trgsw.specs.declared.Parameters.{Parameters}
use Rattle.trgsw.specs.Parameters.{key_size, row_count}
use Rattle.trgsw.specs.Block.{Holds}
use Rattle.selectors.specs.Encrypted.{encrypted_block}
use Rattle.selectors.specs.Calls.{SelectorInput, selector_set, encrypt_selector, encrypt_selector_block}
use Rattle.selectors.proofs.Accepted.{Selectable, selector_accepted, selector_accepts}
use Rattle.selectors.proofs.Encrypted.{encrypted_holds, block_below}

module _ (c : SelectorInput) (e : number (encrypt_selector c) ≡ 0) where
  abbrev set : Parameters
  set = selector_set c

  pub selector_words : words (encrypt_selector_block c) ≡ encrypted_block set c.bit (words c.key) (words c.masks) (words c.errors)
  unfolding encrypt_selector_block
  selector_words = ap words (after_written _ _ _ e) ∙ words_bytes _ (block_below set c.bit _ _ _)

  -- The block that an accepted call leaves holds its bit within the reported bound.
  pub selector_holds : AreBytes c.errors → Holds set c.bit (bound (encrypt_selector c)) (words c.key) (words (encrypt_selector_block c))
  selector_holds eb =
      let ok : Selectable c = selector_accepted c e in
      let size : length (words c.masks) ≡ row_count set * key_size set = omega (arith, length_words c.masks, ok.rows.masks_length) in
      let long : length (words c.errors) ≡ row_count set * set.N = omega (arith, length_words c.errors, ok.rows.errors_length) in
      rw (selector_accepts c ok, selector_words)
      (encrypted_holds set c.bit (greatest_magnitude (words c.errors)) (words c.key) (words c.masks) (words c.errors) ok.rows.bit size
      (λ t l. words_word c.errors eb t) (λ t l. greatest_at (words c.errors) t (omega arith)))
