-- A lookup from encryption to decryption, of the calls' own definitions: the broker encrypts each selector's bit, the evaluator looks up
-- with the blocks that these calls left, and the broker decrypts what the lookup left. The premise of the accuracy rule that each block
-- holds its bit within its amplitude is met by encryption, if no amplitude is declared below the bound that the encryption reported.
-- Assumes nothing.
use mathlib.Core.Path.{◌≡◌, subst}
use mathlib.Core.List.{List}
use Prim.Native.Nat.{ℕ, ◌*◌}
use native.Mathlib.Nat.{le_trans}
use lib.ListN.{get_or}
use Rattle.torus.specs.Sum.{chunk}
use Rattle.torus.specs.Bytes.{words}
use Rattle.torus.proofs.Joined.{words_chunk}
use Rattle.selectors.specs.Calls.{SelectorInput, selector_set}
use Rattle.selectors.proofs.Accepted.{selector_accepted}
use Rattle.selectors.proofs.SelectorNoise.{selector_holds}
use Rattle.trgsw.specs.declared.Parameters.{Parameters}
use Rattle.trgsw.specs.Parameters.{parameters, block_size}
use Rattle.trgsw.specs.Block.{Holds}
use Rattle.trgsw.proofs.Told.{holds_told}
use Rattle.trees.specs.LookedUp.{selector}
use Rattle.lookup.specs.Job.{Job}
use Rattle.lookup.specs.Calls.{lookup, lookup_sample, IsAccepted}
use Rattle.accuracy.specs.Rule.{Premises, Tells, Accurate, Made, Encrypted}
use Rattle.accuracy.proofs.Accuracy.{accuracy}

-- Selector i of the lent blocks is the block at its place.
selector_lent : (p : Parameters) (i : ℕ) (blocks : List ℕ) → words (chunk (4 * block_size p) i blocks) ≡ selector p i (words blocks)
selector_lent p i blocks = words_chunk (block_size p) i blocks

-- A block that encryption left holds its bit within its amplitude.
made_holds : (c : SelectorInput) (block : List ℕ) (amplitude : ℕ) → Made c block amplitude
    → Holds (selector_set c) c.bit amplitude (words c.key) (words block)
made_holds c block amplitude made =
    rw made.left (λ r i lr li. le_trans (selector_holds c made.accepted made.are_bytes r i lr li) made.declared)

-- A job whose blocks come from encryption meets the premises of the accuracy rule.
pub encrypted_premises : (j : Job) (bits : ℕ → ℕ) (masks_of errors room : ℕ → List ℕ) (key out : List ℕ) → Encrypted j bits masks_of errors room key out
    → Premises j bits key out
encrypted_premises j bits masks_of errors room key out given =
    let p = parameters j.numbers.scheme in
    record {
      key_fits = given.key_fits;
      bit = λ i l. (selector_accepted _ (given.made i l).accepted).rows.bit;
      holds = λ i l. subst (λ block. Holds p (bits i) (get_or (words j.amplitudes) i 0) (words key) block) (selector_lent p i j.blocks)
          (holds_told j.numbers.scheme (bits i) _ _ _ (made_holds _ _ _ (given.made i l)));
      out_length = given.out_length;
    }

-- So if it is accepted, it is answered accurately, whatever its table tells.
pub encrypted_lookup : (j : Job) (bits : ℕ → ℕ) (masks_of errors room : ℕ → List ℕ) (key classes out : List ℕ) → IsAccepted j
    → Encrypted j bits masks_of errors room key out → Tells j.numbers.visibility j key classes → Accurate j bits key classes out (lookup j) (lookup_sample j)
encrypted_lookup j bits masks_of errors room key classes out accepted given told =
    accuracy j accepted bits key classes out (encrypted_premises j bits masks_of errors room key out given) told
