-- Scalar samples, which the field calls LWE samples: mask words, and one word more, the body. A key is the words of the key's
-- polynomials, one after another. Extraction is SampleExtract_p of the thesis (source document 001, section 4.1.2).
-- Assumes nothing.
use Rattle.std.specs.Prelude.{cond, List, [], ◌∷◌, ◌++◌, ℕ, ◌+◌, ◌-◌, ◌*◌, ◌/◌, ◌%◌, ◌^◌, leb, get_or}
use Rattle.torus.specs.Sum.{sum, tabulate}
use Rattle.torus.specs.Word.{sub}
use Rattle.trlwe.specs.Sample.{part}

-- "Its phase is b_p less the sum of mask word j times key word j", with n mask words.
unfoldable pub scalar_phase : (n : ℕ) (key scalar : List ℕ) → ℕ
scalar_phase n key scalar = sub (get_or scalar n 0) (sum n (λ j. get_or scalar j 0 * get_or key j 0) % 2 ^ 32)

-- Sample extraction: "mask word j is a_(p-j) for j up to p, else -a_(N+p-j)".
unfoldable pub extracted_word : (N p : ℕ) (a : ℕ → ℕ) (j : ℕ) → ℕ
extracted_word N p a j = cond (leb j p) (a (p - j)) (sub 0 (a (N + p - j)))

-- "Extract coefficient p as a scalar sample": the words of each mask in turn, "then b_p".
unfoldable pub extracted : (N k p : ℕ) (sample : List ℕ) → List ℕ
extracted N k p sample =
    tabulate (k * N) (λ t. extracted_word N p (part N sample (t / N)) (t % N)) ++ (part N sample k p ∷ [])
