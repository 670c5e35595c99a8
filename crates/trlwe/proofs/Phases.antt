-- The phases of encryptions and of trivial samples, and what trivial samples are.
-- Assumes nothing.
use mathlib.Core.Path.{◌≡◌, refl, ap, ap₂, sym, ◌∙◌}
use mathlib.Core.List.{List, ◌++◌}
use Prim.Native.Nat.{ℕ, suc, ◌+◌, ◌*◌, ◌%◌, ◌^◌, ◌≤◌, ◌<◌}
use native.Mathlib.Nat.{le_of_lt, mod-lt, mod-mod, mul-zero, zero-add, suc-mul}
use native.Mathlib.Omega.{arith}
use lib.Arith.{digits_lt}
use lib.Dec.{lit<}
use lib.ListN.{length, get_or, replicate, length-append, length-replicate, get_or-replicate, get_or-append}
use lib.Seq.{get_or-append-add}
use Rattle.torus.specs.Sum.{sum, tabulate}
use Rattle.torus.specs.Word.{add, sub}
use Rattle.torus.proofs.Sums.{sum_cong, sum_const}
use Rattle.torus.proofs.Lists.{length_tabulate, tabulate_at, tabulate_const, tabulate_below, append_below}
use Rattle.ring.specs.Polynomial.{coefficients, Agree, product}
use Rattle.ring.proofs.Poly.{nil}
use Rattle.ring.proofs.Terms.{product_agree, product_nil}
use Rattle.trlwe.specs.Sample.{part, masked, phase, body, encryption, trivial}

-- With one mask, as document 01 writes it: b - a·K.
pub phase_one : (N : ℕ) (K sample : List ℕ) (i : ℕ) → i < N
    → phase N 1 K sample i ≡ sub (get_or sample (N + i) 0) (product N (coefficients K) (coefficients sample) i)
unfolding phase masked sum product
phase_one N K sample i l =
    let key : Agree N (part N K 0) (coefficients K) = λ j m. ap (λ x. get_or K x 0) {x = 0 * N + j} {y = j} (omega arith) in
    let mask : Agree N (part N sample 0) (coefficients sample) = λ j m. ap (λ x. get_or sample x 0) {x = 0 * N + j} {y = j} (omega arith) in
    ap₂ sub (ap (λ x. get_or sample x 0) {x = 1 * N + i} {y = N + i} (omega arith))
    (ap (λ x. x % 2 ^ 32) (zero-add _ ∙ product_agree N key mask i l) ∙ mod-mod _ (2 ^ 32))

-- a·K is a word.
pub masked_le : (N k : ℕ) (K x : List ℕ) (i : ℕ) → masked N k K x i ≤ 2 ^ 32
unfolding masked
masked_le N k K x i = le_of_lt (mod-lt _ (lit< tt))

-- A phase is a word.
pub phase_word : (N k : ℕ) (K x : List ℕ) (i : ℕ) → phase N k K x i < 2 ^ 32
unfolding phase
phase_word N k K x i = mod-lt _ (lit< tt)

pub phase_le : (N k : ℕ) (K x : List ℕ) (i : ℕ) → phase N k K x i ≤ 2 ^ 32
phase_le N k K x i = le_of_lt (phase_word N k K x i)

-- a·K depends on the words of the masks alone.
masked_agree : (N k : ℕ) (K a b : List ℕ) → ((t : ℕ) → t < k * N → get_or a t 0 ≡ get_or b t 0) → Agree N (masked N k K a) (masked N k K b)
unfolding masked
masked_agree N k K a b h i l =
    ap (λ x. x % 2 ^ 32) (sum_cong k _ _ (λ c lc. product_agree N (λ j m. refl) (λ j m. h (c * N + j) (digits_lt lc m)) i l))

-- The masks and the body of a list that is made of both.
module _ (N k : ℕ) (a b : List ℕ) (size : length a ≡ k * N) where
  masks_of : (t : ℕ) → t < k * N → get_or (a ++ b) t 0 ≡ get_or a t 0
  masks_of t l = get_or-append a b 0 t (omega arith)

  body_of : (i : ℕ) → part N (a ++ b) k i ≡ get_or b i 0
  body_of i = ap (λ n. get_or (a ++ b) (n + i) 0) (sym size) ∙ get_or-append-add a b i 0

-- What is left of a body when a·K is taken away.
message_left : (s e f : ℕ) → sub ((s % 2 ^ 32 + e + f) % 2 ^ 32) (s % 2 ^ 32) ≡ add f e
message_left s e f = omega arith

-- The phase of an encryption is the message plus the error, word for word.
pub encryption_phase : (N k : ℕ) (K a errors : List ℕ) (f : ℕ → ℕ) → length a ≡ k * N
    → (i : ℕ) → i < N → phase N k K (encryption N k K a errors f) i ≡ add (f i) (coefficients errors i)
unfolding phase encryption body masked
encryption_phase N k K a errors f size i l =
    let b : List ℕ = tabulate N (body N k K a errors f) in
    ap₂ sub (body_of N k a b size i ∙ tabulate_at N _ i l) (masked_agree N k K (a ++ b) a (masks_of N k a b size) i l)
    ∙ message_left _ (coefficients errors i) (f i)

-- With masks that are 0, a·K is 0.
masked_nil : (N k : ℕ) (K a : List ℕ) → ((t : ℕ) → t < k * N → get_or a t 0 ≡ 0) → Agree N (masked N k K a) nil
unfolding masked nil
masked_nil N k K a h i l =
    ap (λ x. x % 2 ^ 32) (sum_cong k _ (λ c. 0) (λ c lc. product_nil N (part N K c) (λ j m. h (c * N + j) (digits_lt lc m)) i l) ∙ sum_const k 0 ∙ mul-zero k)

-- The phase of a trivial sample is its message, whatever the key.
pub trivial_phase : (N k : ℕ) (K : List ℕ) (f : ℕ → ℕ) (i : ℕ) → i < N → f i < 2 ^ 32 → phase N k K (trivial N k f) i ≡ f i
unfolding phase trivial nil
trivial_phase N k K f i l word =
    let a : List ℕ = replicate (k * N) 0 in
    let b : List ℕ = tabulate N f in
    let size : length a ≡ k * N = length-replicate {A = ℕ} (k * N) 0 in
    ap₂ sub (body_of N k a b size i ∙ tabulate_at N f i l)
    (masked_nil N k K (a ++ b) (λ t m. masks_of N k a b size t m ∙ get_or-replicate {A = ℕ} (k * N) t 0 0 m) i l)
    ∙ omega arith

-- A trivial sample has the length of a sample,
pub length_trivial : (N k : ℕ) (f : ℕ → ℕ) → length (trivial N k f) ≡ suc k * N
unfolding trivial
length_trivial N k f =
    length-append (replicate (k * N) 0) (tabulate N f)
    ∙ ap₂ ◌+◌ (length-replicate {A = ℕ} (k * N) 0) (length_tabulate N f) ∙ sym (suc-mul k N)

-- and is of words if its message is.
pub trivial_below : (N k : ℕ) (f : ℕ → ℕ) → ((i : ℕ) → f i < 2 ^ 32) → (u : ℕ) → get_or (trivial N k f) u 0 < 2 ^ 32
unfolding trivial
trivial_below N k f word =
    rw (← tabulate_const (k * N) 0)
    (append_below (2 ^ 32) (tabulate (k * N) (λ i. 0)) (tabulate N f)
    (tabulate_below (2 ^ 32) (k * N) (λ i. 0) (lit< tt) (λ i. lit< tt)) (tabulate_below (2 ^ 32) N f (lit< tt) word))
