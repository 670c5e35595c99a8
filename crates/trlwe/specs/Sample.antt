-- TRLWE samples ("packed samples") with k masks: k mask polynomials and then the body, (k + 1)·N words. A key is k polynomials.
-- Document 01 has k = 1: "A sample is a mask polynomial a, then a body polynomial b, 2·N words." In the thesis (source document
-- 001) Definition 3.2.3 has them with k masks.
-- Assumes nothing.
use Rattle.std.specs.Prelude.{◌≡◌, List, ◌++◌, ℕ, suc, ◌+◌, ◌*◌, ◌%◌, ◌^◌, ◌≤◌, ◌<◌, length, get_or, replicate}
use Rattle.torus.specs.Sum.{sum, tabulate, joined}
use Rattle.torus.specs.Word.{sub}
use Rattle.torus.specs.Bytes.{words}
use Rattle.ring.specs.Polynomial.{Degree, coefficients, product, rotated}
use Rattle.trlwe.specs.Classes.{decode}

-- Polynomial c of a list of polynomials of N words each: mask c of a sample, and its body where c is k; polynomial c of a key.
abbrev pub part : (N : ℕ) (l : List ℕ) (c i : ℕ) → ℕ
part N l c i = get_or l (c * N + i) 0

-- The list of n polynomials of N words each whose polynomial c has the coefficients f c.
unfoldable pub polynomials : (N n : ℕ) (f : ℕ → ℕ → ℕ) → List ℕ
polynomials N n f = joined n (λ c. tabulate N (f c))

-- a·K, coefficient i, as a word: the masks times the key's polynomials, added up.
unfoldable pub masked : (N k : ℕ) (key a : List ℕ) (i : ℕ) → ℕ
masked N k key a i = sum k (λ c. product N (part N key c) (part N a c) i) % 2 ^ 32

-- "Its phase is b - a·K."
unfoldable pub phase : (N k : ℕ) (key sample : List ℕ) (i : ℕ) → ℕ
phase N k key sample i = sub (part N sample k i) (masked N k key sample i)

-- "b = a·K + error + message", coefficient i, with the message f.
unfoldable pub body : (N k : ℕ) (key a errors : List ℕ) (f : ℕ → ℕ) (i : ℕ) → ℕ
body N k key a errors f i = (masked N k key a i + coefficients errors i + f i) % 2 ^ 32

-- An encryption of the message f: the masks a, and this body.
unfoldable pub encryption : (N k : ℕ) (key a errors : List ℕ) (f : ℕ → ℕ) → List ℕ
encryption N k key a errors f = a ++ tabulate N (body N k key a errors f)

-- "A trivial sample has mask 0." Its body is the message f.
unfoldable pub trivial : (N k : ℕ) (f : ℕ → ℕ) → List ℕ
trivial N k f = replicate (k * N) 0 ++ tabulate N f

-- X^(-r) times a sample: polynomial by polynomial, masks and body.
unfoldable pub rotated_sample : (N k r : ℕ) (sample : List ℕ) → List ℕ
rotated_sample N k r sample = polynomials N (suc k) (λ c. rotated N r (part N sample c))

-- Decryption "lists what the phase's coefficients 0 to s - 1 decode to".
unfoldable pub decrypted : (N k M s : ℕ) (key sample : List ℕ) → List ℕ
decrypted N k M s key sample = tabulate s (λ i. decode M (phase N k key sample i))

-- What the code asks of a key, in bytes: k polynomials. "A key K is N words, each 0 or 1."
pub record Key (N k : ℕ) (key : List ℕ) : Type 0 where
  pub degree : Degree N
  pub size : length key ≡ 4 * (k * N)
  pub bits : (i : ℕ) → i < k * N → get_or (words key) i 0 ≤ 1
