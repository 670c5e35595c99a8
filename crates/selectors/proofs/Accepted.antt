-- What holds of the input of an accepted encryption, and that an encryption of such input is accepted.
-- Assumes nothing.
use mathlib.Core.Path.{◌≡◌, ap, sym, ◌∙◌}
use mathlib.Core.List.{List}
use Prim.Native.Nat.{ℕ, ◌*◌}
use lib.ListN.{length}
use Rattle.torus.specs.Bytes.{words}
use Rattle.std.specs.Prelude.{Ok}
use Rattle.answers.specs.Checks.{passed, ◌or_else◌}
use Rattle.answers.specs.Checks as Check
use Rattle.answers.specs.Answers.{number, greatest_magnitude}
use Rattle.answers.proofs.Laws.{or_else_assoc, before, went_on, both_passed, both_pass, exact_held, exact_met, bit_held, bit_met}
use Rattle.trlwe.proofs.Accepted.{key_fits, key_passes}
use Rattle.trgsw.specs.declared.Parameters.{Parameters}
use Rattle.trgsw.specs.Parameters.{LawfulScheme, scheme_of, unweighted_refusal, key_size, row_count, block_size}
use Rattle.trgsw.proofs.Checked.{scheme_held, scheme_met, unweighted_told}
use Rattle.selectors.specs.Calls.{SelectorInput, selector_set, encrypt_selector}
use Rattle.selectors.specs.Inner.{lengths, contents, Rows}

pub record Selectable (c : SelectorInput) : Type 0 where
  pub scheme : LawfulScheme (scheme_of c.N c.g c.L)
  pub rows : Rows (selector_set c) c.bit c.key c.masks c.errors
  pub block_length : length c.block ≡ 4 * block_size (selector_set c)

-- What the lengths tell that pass their check, and back.
pub record Lengths (p : Parameters) (key masks errors block : List ℕ) : Type 0 where
  pub key_length : length key ≡ 4 * key_size p
  pub masks_length : length masks ≡ 4 * (row_count p * key_size p)
  pub errors_length : length errors ≡ 4 * (row_count p * p.N)
  pub block_length : length block ≡ 4 * block_size p

pub lengths_held : (p : Parameters) (key masks errors block : List ℕ) → lengths p key masks errors block ≡ passed → Lengths p key masks errors block
lengths_held p key masks errors block e =
    let key = both_passed (Check.exact (length key) (key_size p)) _ e in
    let masks = both_passed (Check.exact (length masks) (row_count p * key_size p)) _ key.1 in
    let written = both_passed (Check.exact (length errors) (row_count p * p.N)) (Check.exact (length block) (block_size p)) masks.1 in
    record {
      key_length = exact_held _ _ key.0;
      masks_length = exact_held _ _ masks.0;
      errors_length = exact_held _ _ written.0;
      block_length = exact_held _ _ written.1;
    }

lengths_met : (p : Parameters) (key masks errors block : List ℕ) → Lengths p key masks errors block → lengths p key masks errors block ≡ passed
lengths_met p key masks errors block ok =
    both_pass _ _ (exact_met _ _ ok.key_length)
    (both_pass _ _ (exact_met _ _ ok.masks_length) (both_pass _ _ (exact_met _ _ ok.errors_length) (exact_met _ _ ok.block_length)))

module _ (c : SelectorInput) where
  abbrev set : Parameters
  set = selector_set c

  -- The rows of the call's answer, taken together as the code takes them.
  pub selector_checks : (unweighted_refusal c.N c.g c.L or_else lengths set c.key c.masks c.errors c.block or_else contents c.bit c.key
      or_else Ok (record { bound = greatest_magnitude (words c.errors); gates = 0 })) ≡ encrypt_selector c
  unfolding encrypt_selector
  selector_checks = simp or_else_assoc

  pub selector_accepted : number (encrypt_selector c) ≡ 0 → Selectable c
  selector_accepted e =
      let told = before (unweighted_refusal c.N c.g c.L) _ (ap number selector_checks ∙ e) in
      let fit = before (lengths set c.key c.masks c.errors c.block) _ told.1 in
      let words_fit = before (contents c.bit c.key) _ fit.1 in
      let tested = both_passed (Check.bit c.bit) (Check.key (words c.key)) words_fit.0 in
      let scheme = scheme_held (scheme_of c.N c.g c.L) (unweighted_told c.N c.g c.L ∙ told.0) in
      let long = lengths_held set c.key c.masks c.errors c.block fit.0 in
      record {
        scheme = scheme;
        rows = record {
          key_fits = key_fits set.N set.k c.key scheme.degree long.key_length tested.1;
          lawful = scheme.gadget;
          bit = bit_held c.bit tested.0;
          masks_length = long.masks_length;
          errors_length = long.errors_length;
        };
        block_length = long.block_length;
      }

  pub selector_accepts : Selectable c → encrypt_selector c ≡ Ok (record { bound = greatest_magnitude (words c.errors); gates = 0 })
  selector_accepts ok =
      sym selector_checks
      ∙ went_on _ _ (sym (unweighted_told c.N c.g c.L) ∙ scheme_met (scheme_of c.N c.g c.L) ok.scheme)
      ∙ went_on _ _ (lengths_met set c.key c.masks c.errors c.block (record {
        key_length = ok.rows.key_fits.size;
        masks_length = ok.rows.masks_length;
        errors_length = ok.rows.errors_length;
        block_length = ok.block_length;
      }))
      ∙ went_on _ _ (both_pass _ _ (bit_met c.bit ok.rows.bit) (key_passes set.N set.k c.key ok.rows.key_fits))
