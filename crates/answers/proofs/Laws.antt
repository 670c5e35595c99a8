-- Laws of the checks and of answers, for the calls that are made up of them.
-- Assumes nothing.
use mathlib.Core.Path.{◌≡◌, refl, ap, sym, ◌∙◌}
use mathlib.Core.Bool.{Bool, true, false, cond, ◌&&◌}
use mathlib.Core.List.{List, [], ◌∷◌}
use Prim.Native.Nat.{ℕ, zero, suc, ◌+◌, ◌*◌, ◌/◌, ◌^◌, ◌≤◌, ◌<◌, max}
use native.Mathlib.Numerals.{add-one}
use native.Mathlib.Omega.{arith}
use lib.Dec.{eqb, leb, ltb}
use lib.ListN.{length, get_or, drop, drop_of_length-le}
use lib.Seq.{drop-cons}
use borrow.Author.Tests.{ltb-true, ltb-false, leb-true, eqb-true, lt-ltb, le-ltb, le-leb, eq-eqb}
use Rattle.torus.specs.Word.{magnitude}
use Rattle.torus.specs.Bytes.{words, bytes}
use Rattle.torus.proofs.Parts.{bytes_words}
use Rattle.torus.proofs.Tests.{both}
use Rattle.gadget.specs.Digits.{Lawful, is_lawful}
use Rattle.gadget.proofs.Bounds.{test_lawful, lawful_test}
use Rattle.ring.specs.Polynomial.{Degree, is_degree}
use Rattle.ring.proofs.Degrees.{test_degree, degree_test}
use Rattle.std.specs.Prelude.{Result, Ok, Err}
use Rattle.answers.specs.declared.Ledger.{Ledger}
use Rattle.answers.specs.declared.Refusal.{Refusal}
use Rattle.answers.specs.declared.Refusal.TheVariants as Refused
use Rattle.answers.specs.Answers.{refusal_number, number, noise, greatest_magnitude, after}
use Rattle.answers.specs.Checks.{Checked, passed, unless, ◌or_else◌, ClassNumber, is_class_number, all_below, degree, gadget, weight, class_number, count, depth, position, exact, amplitude, amplitudes, classes, bit, key}
use Rattle.answers.proofs.ClassNumbers.{test_class_number, class_number_test}

-- ---- checks one after another

-- Two checks in one.
pub or_else_assoc : {T : Type 0} (a b : Checked) (x : Result T Refusal) → ((a or_else b) or_else x) ≡ (a or_else b or_else x)
or_else_assoc (Ok u) b x = refl
or_else_assoc (Err r) b x = refl

-- A check that refuses gives the answer.
pub stopped : {T : Type 0} (a : Checked) (r : Refusal) (x : Result T Refusal) → a ≡ Err r → Err r ≡ (a or_else x)
stopped a r x e = rw e refl

-- A check that passes leaves the answer to the rest.
pub went_on : {T : Type 0} (a : Checked) (x : Result T Refusal) → a ≡ passed → (a or_else x) ≡ x
went_on a x e = rw e refl

-- A refusal has a number.
pub number_some : (r : Refusal) → 1 ≤ refusal_number r
number_some Refused.Degree = omega arith
number_some Refused.Gadget = omega arith
number_some Refused.Weight = omega arith
number_some Refused.ClassNumber = omega arith
number_some Refused.Count = omega arith
number_some Refused.Depth = omega arith
number_some Refused.Position = omega arith
number_some Refused.Length = omega arith
number_some Refused.Amplitude = omega arith
number_some Refused.Class = omega arith
number_some Refused.Bit = omega arith
number_some Refused.Key = omega arith
number_some (Refused.Noise b) = omega arith

-- A check that refuses does not pass.
err_passes : (r : Refusal) → Err r ≡ passed → ⊥
err_passes r e = cc

-- Checks in one that passes have all passed, and back.
pub both_passed : (a b : Checked) → (a or_else b) ≡ passed → (a ≡ passed) × (b ≡ passed)
both_passed (Ok u) b e = (refl, e)
both_passed (Err r) b e = absurd (err_passes r e)

pub both_pass : (a b : Checked) → a ≡ passed → b ≡ passed → (a or_else b) ≡ passed
both_pass a b ea eb = went_on a b ea ∙ eb

-- A check of the number 0 passes.
pub number_passed : (a : Checked) → number a ≡ 0 → a ≡ passed
number_passed (Ok u) e = refl
number_passed (Err r) e = absurd (let some : 1 ≤ refusal_number r = number_some r in omega arith)

-- Each check of an accepted call has passed.
pub before : {T : Type 0} (a : Checked) (x : Result T Refusal) → number (a or_else x) ≡ 0 → (a ≡ passed) × (number x ≡ 0)
before (Ok u) x e = (refl, e)
before (Err r) x e = absurd (let some : 1 ≤ refusal_number r = number_some r in omega arith)

-- A check passes or gives its own number, so it gives no other n; nor do two in one.
pub check_other : (t : Bool) (r : Refusal) (n : ℕ) → 1 ≤ n → (refusal_number r ≡ n → ⊥) → number (unless t r) ≡ n → ⊥
check_other true r n some other e = omega arith
check_other false r n some other e = other e

pub first_other : (a b : Checked) (n : ℕ) → (number a ≡ n → ⊥) → (number b ≡ n → ⊥) → number (a or_else b) ≡ n → ⊥
first_other (Ok u) b n ha hb = hb
first_other (Err r) b n ha hb = ha

pub check_most : (t : Bool) (r : Refusal) (n : ℕ) → refusal_number r ≤ n → number (unless t r) ≤ n
check_most true r n own = omega arith
check_most false r n own = own

-- Nor does a chain give a number above those of its checks.
pub first_most : {T : Type 0} (a : Checked) (x : Result T Refusal) (n : ℕ) → number a ≤ n → number x ≤ n → number (a or_else x) ≤ n
first_most (Ok u) x n ha hx = hx
first_most (Err r) x n ha hx = ha

-- Behind a check that does not give n, the answer n comes of the rest.
pub past_other : {T : Type 0} (a : Checked) (n : ℕ) (x : Result T Refusal) → (number a ≡ n → ⊥) → number (a or_else x) ≡ n → (a ≡ passed) × (number x ≡ n)
past_other (Ok u) n x other e = (refl, e)
past_other (Err r) n x other e = absurd (other e)

-- ---- each word below a limit

pub all_below_at : (limit : ℕ) (ws : List ℕ) → all_below limit ws ≡ true → (i : ℕ) → i < length ws → get_or ws i 0 < limit
unfolding all_below
all_below_at limit [] e i h = absurd (omega arith)
all_below_at limit (w ∷ ws) e zero h = ltb-true w limit (both (ltb w limit) _ e).0
all_below_at limit (w ∷ ws) e (suc i) h = all_below_at limit ws (both (ltb w limit) _ e).1 i (omega arith)

pub below_all : (limit : ℕ) (ws : List ℕ) → ((i : ℕ) → i < length ws → get_or ws i 0 < limit) → all_below limit ws ≡ true
unfolding all_below
below_all limit [] h = refl
below_all limit (w ∷ ws) h =
    let low : w < limit = h 0 (omega arith) in
    let rest : all_below limit ws ≡ true = below_all limit ws (λ i l. h (suc i) (omega arith)) in
    simp (lt-ltb w limit low, rest)

-- The words from i on, for a loop that tests one word a turn.
all_below_step : (limit : ℕ) (ws : List ℕ) (i : ℕ) → i < length ws
    → all_below limit (drop i ws) ≡ ltb (get_or ws i 0) limit && all_below limit (drop (i + 1) ws)
unfolding all_below
all_below_step limit ws i h = rw (add-one, drop-cons ws i 0 h)

pub all_below_on : (limit : ℕ) (ws : List ℕ) (i : ℕ) → i < length ws → get_or ws i 0 < limit
    → all_below limit (drop i ws) ≡ all_below limit (drop (i + 1) ws)
all_below_on limit ws i h low = all_below_step limit ws i h ∙ simp (lt-ltb _ limit low)

pub all_below_not : (limit : ℕ) (ws : List ℕ) (i : ℕ) → i < length ws → limit ≤ get_or ws i 0 → all_below limit (drop i ws) ≡ false
all_below_not limit ws i h high = all_below_step limit ws i h ∙ simp (le-ltb _ limit high)

pub all_below_end : (limit : ℕ) (ws : List ℕ) (i : ℕ) → length ws ≤ i → all_below limit (drop i ws) ≡ true
unfolding all_below
all_below_end limit ws i h = rw (drop_of_length-le ws h)

-- ---- what a check that passes tells

test_passed : (t : Bool) (r : Refusal) → unless t r ≡ passed → t ≡ true
test_passed true r e = refl
test_passed false r e = absurd (err_passes r e)

pub degree_held : (N : ℕ) → degree N ≡ passed → Degree N
degree_held N e = test_degree N (test_passed (is_degree N) _ e)

pub degree_met : (N : ℕ) → Degree N → degree N ≡ passed
degree_met N ok = simp (degree_test N ok)

pub gadget_held : (g L : ℕ) → gadget g L ≡ passed → Lawful g L
gadget_held g L e = test_lawful g L (test_passed (is_lawful g L) _ e)

pub gadget_met : (g L : ℕ) → Lawful g L → gadget g L ≡ passed
gadget_met g L ok = simp (lawful_test g L ok)

pub weight_held : (most W : ℕ) → weight most W ≡ passed → W ≤ most
weight_held most W e = leb-true W most (test_passed (leb W most) _ e)

pub weight_met : (most W : ℕ) → W ≤ most → weight most W ≡ passed
weight_met most W h = simp (le-leb W most h)

pub class_number_held : (M : ℕ) → class_number M ≡ passed → ClassNumber M
class_number_held M e = test_class_number M (test_passed (is_class_number M) _ e)

pub class_number_met : (M : ℕ) → ClassNumber M → class_number M ≡ passed
class_number_met M ok = simp (class_number_test M ok)

pub count_held : (N s : ℕ) → count N s ≡ passed → (1 ≤ s) × (s ≤ N)
count_held N s e =
    let p = both (leb 1 s) (leb s N) (test_passed (leb 1 s && leb s N) _ e) in
    (leb-true 1 s p.0, leb-true s N p.1)

pub count_met : (N s : ℕ) → 1 ≤ s → s ≤ N → count N s ≡ passed
count_met N s some most = simp (le-leb 1 s some, le-leb s N most)

pub depth_held : (most d : ℕ) → depth most d ≡ passed → d ≤ most
depth_held most d e = leb-true d most (test_passed (leb d most) _ e)

pub depth_met : (most d : ℕ) → d ≤ most → depth most d ≡ passed
depth_met most d h = simp (le-leb d most h)

pub position_held : (N p : ℕ) → position N p ≡ passed → p < N
position_held N p e = ltb-true p N (test_passed (ltb p N) _ e)

pub position_met : (N p : ℕ) → p < N → position N p ≡ passed
position_met N p l = simp (lt-ltb p N l)

pub exact_held : (bytes words : ℕ) → exact bytes words ≡ passed → bytes ≡ 4 * words
exact_held bytes words e = eqb-true bytes (4 * words) (test_passed (eqb bytes (4 * words)) _ e)

pub exact_met : (bytes words : ℕ) → bytes ≡ 4 * words → exact bytes words ≡ passed
exact_met bytes words e = simp (eq-eqb bytes (4 * words) e)

pub amplitude_held : (A : ℕ) → amplitude A ≡ passed → A ≤ 2 ^ 31
amplitude_held A e = leb-true A (2 ^ 31) (test_passed (leb A (2 ^ 31)) _ e)

pub amplitude_met : (A : ℕ) → A ≤ 2 ^ 31 → amplitude A ≡ passed
amplitude_met A h = simp (le-leb A (2 ^ 31) h)

pub amplitudes_held : (As : List ℕ) → amplitudes As ≡ passed → (i : ℕ) → i < length As → get_or As i 0 ≤ 2 ^ 31
amplitudes_held As e i h =
    let low : get_or As i 0 < 2 ^ 31 + 1 = all_below_at (2 ^ 31 + 1) As (test_passed (all_below (2 ^ 31 + 1) As) _ e) i h in
    omega arith

pub amplitudes_met : (As : List ℕ) → ((i : ℕ) → i < length As → get_or As i 0 ≤ 2 ^ 31) → amplitudes As ≡ passed
amplitudes_met As h =
    let all : all_below (2 ^ 31 + 1) As ≡ true = below_all (2 ^ 31 + 1) As (λ i l. let low : get_or As i 0 ≤ 2 ^ 31 = h i l in omega arith) in
    simp all

pub classes_held : (M : ℕ) (cs : List ℕ) → classes M cs ≡ passed → (i : ℕ) → i < length cs → get_or cs i 0 < M
classes_held M cs e = all_below_at M cs (test_passed (all_below M cs) _ e)

pub classes_met : (M : ℕ) (cs : List ℕ) → ((i : ℕ) → i < length cs → get_or cs i 0 < M) → classes M cs ≡ passed
classes_met M cs h = simp (below_all M cs h)

pub bit_held : (m : ℕ) → bit m ≡ passed → m ≤ 1
bit_held m e = leb-true m 1 (test_passed (leb m 1) _ e)

pub bit_met : (m : ℕ) → m ≤ 1 → bit m ≡ passed
bit_met m h = simp (le-leb m 1 h)

pub key_held : (K : List ℕ) → key K ≡ passed → (i : ℕ) → i < length K → get_or K i 0 ≤ 1
key_held K e i h = let low : get_or K i 0 < 2 = all_below_at 2 K (test_passed (all_below 2 K) _ e) i h in omega arith

pub key_met : (K : List ℕ) → ((i : ℕ) → i < length K → get_or K i 0 ≤ 1) → key K ≡ passed
key_met K h = let all : all_below 2 K ≡ true = below_all 2 K (λ i l. let low : get_or K i 0 ≤ 1 = h i l in omega arith) in simp all

quiet : (t : Bool) (f : Ledger) (b : ℕ) → number (cond t (Ok f) (Err (Refused.Noise b))) ≡ 0 → t ≡ true
quiet true f b e = refl
quiet false f b e = absurd (omega arith)

pub noise_held : (M b g : ℕ) → number (noise M b g) ≡ 0 → b < 2 ^ 31 / M
noise_held M b g e = ltb-true b (2 ^ 31 / M) (quiet (ltb b (2 ^ 31 / M)) _ b e)

told_most : (t : Bool) (f : Ledger) (b : ℕ) → number (cond t (Ok f) (Err (Refused.Noise b))) ≤ 9
told_most true f b = omega arith
told_most false f b = omega arith

pub noise_most : (M b g : ℕ) → number (noise M b g) ≤ 9
noise_most M b g = told_most (ltb b (2 ^ 31 / M)) _ b

loud : (t : Bool) (f : Ledger) (b : ℕ) → number (cond t (Ok f) (Err (Refused.Noise b))) ≡ 9 → t ≡ false
loud true f b e = absurd (omega arith)
loud false f b e = refl

pub noise_refused : (M b g : ℕ) → number (noise M b g) ≡ 9 → 2 ^ 31 / M ≤ b
noise_refused M b g e = ltb-false b (2 ^ 31 / M) (loud (ltb b (2 ^ 31 / M)) _ b e)

pub noise_met : (M b g : ℕ) → b < 2 ^ 31 / M → noise M b g ≡ Ok (record { bound = b; gates = g })
noise_met M b g h = simp (lt-ltb b (2 ^ 31 / M) h)

-- ---- the greatest magnitude

pub greatest_at : (ws : List ℕ) (i : ℕ) → i < length ws → magnitude (get_or ws i 0) ≤ greatest_magnitude ws
unfolding greatest_magnitude
greatest_at [] i h = absurd (omega arith)
greatest_at (w ∷ ws) zero h = omega arith
greatest_at (w ∷ ws) (suc i) h = let rest : magnitude (get_or ws i 0) ≤ greatest_magnitude ws = greatest_at ws i (omega arith) in omega arith

-- It is the least that no magnitude passes.
pub greatest_le : (ws : List ℕ) (A : ℕ) → ((i : ℕ) → i < length ws → magnitude (get_or ws i 0) ≤ A) → greatest_magnitude ws ≤ A
unfolding greatest_magnitude
greatest_le [] A h = omega arith
greatest_le (w ∷ ws) A h =
    let front : magnitude w ≤ A = h 0 (omega arith) in
    let rest : greatest_magnitude ws ≤ A = greatest_le ws A (λ i l. h (suc i) (omega arith)) in
    omega arith

-- The words from i on, for a loop that takes one word a turn.
pub greatest_step : (ws : List ℕ) (i : ℕ) → i < length ws
    → greatest_magnitude (drop i ws) ≡ max (magnitude (get_or ws i 0)) (greatest_magnitude (drop (i + 1) ws))
unfolding greatest_magnitude
greatest_step ws i h = rw (add-one, drop-cons ws i 0 h)

pub greatest_end : (ws : List ℕ) (i : ℕ) → length ws ≤ i → greatest_magnitude (drop i ws) ≡ 0
unfolding greatest_magnitude
greatest_end ws i h = rw (drop_of_length-le ws h)

-- ---- what a call leaves in a slice

-- "A refusal changes no lent slice."
pub after_refused : {T : Type 0} (a : Result T Refusal) (written before : List ℕ) → (number a ≡ 0 → ⊥) → before ≡ after a written before
unfolding after
after_refused (Ok x) written before refused = absurd (refused refl)
after_refused (Err r) written before refused = refl

-- The same of a refusal that is known.
pub after_err : {T : Type 0} (a : Result T Refusal) (r : Refusal) (written before : List ℕ) → a ≡ Err r → before ≡ after a written before
unfolding after
after_err a r written before e = rw e refl

pub after_written : {T : Type 0} (a : Result T Refusal) (written before : List ℕ) → number a ≡ 0 → after a written before ≡ written
unfolding after
after_written (Ok x) written before e = refl
after_written (Err r) written before e = absurd (let some : 1 ≤ refusal_number r = number_some r in omega arith)

-- An accepted call leaves the bytes of the words that it wrote.
pub after_accepted : {T : Type 0} (a : Result T Refusal) (k : ℕ) (out ws before : List ℕ) → number a ≡ 0 → length out ≡ 4 * k
    → ((i : ℕ) → get_or out i 0 < 256) → words out ≡ ws → out ≡ after a (bytes ws) before
after_accepted a k out ws before e len byte h = sym (after_written a (bytes ws) before e ∙ sym (ap bytes h) ∙ bytes_words k out len byte)
