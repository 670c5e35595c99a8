-- X^(-r) times a sample: its phase, for k masks.
-- Assumes nothing.
use mathlib.Core.Path.{◌≡◌, refl, ap, ap₂, sym, ◌∙◌}
use mathlib.Core.List.{List}
use Prim.Native.Nat.{ℕ, suc, ◌+◌, ◌*◌, ◌-◌, ◌%◌, ◌^◌, ◌≤◌, ◌<◌}
use native.Mathlib.Nat.{le_of_lt, mod-lt, mod-mod, mul-add, mul_comm}
use native.Mathlib.Decide.{dec_lt}
use native.Mathlib.Omega.{arith}
use lib.Dec.{lit<}
use lib.ListN.{get_or}
use Rattle.torus.specs.Sum.{sum}
use Rattle.torus.specs.Word.{sub}
use Rattle.torus.proofs.Sums.{sum_cong, sum_mul}
use Rattle.torus.proofs.Near.{Near, near_refl, near_path, near_sym, near_mod, near_eq, near_congruent, congruent_trans, congruent_add, congruent_scale, congruent_sum, sub_near}
use Rattle.ring.specs.Polynomial.{Agree, product, rotated}
use Rattle.ring.proofs.Terms.{product_agree}
use Rattle.ring.proofs.Rotation.{rotated_low, rotated_high, minus_near, product_rotated, product_word}
use Rattle.trlwe.specs.Sample.{part, masked, phase, rotated_sample}
use Rattle.trlwe.proofs.Polynomials.{part_polynomials}

-- Differences that are congruent are equal.
subs_eq : (a b c d : ℕ) → Near (2 ^ 32) 0 (sub a b) (sub c d) → sub a b ≡ sub c d
subs_eq a b c d h = sym (mod-mod (a + (2 ^ 32 - b)) (2 ^ 32)) ∙ near_eq h ∙ mod-mod (c + (2 ^ 32 - d)) (2 ^ 32)

-- A sum of words whose signs are changed.
sum_minus : (k : ℕ) (f : ℕ → ℕ) → ((c : ℕ) → f c < 2 ^ 32) → Near (2 ^ 32) 0 (sum k (λ c. sub 0 (f c))) (4294967295 * sum k f)
sum_minus k f word =
    near_congruent
    (congruent_sum k _ (λ c. f c * 4294967295) (λ c l. near_congruent (minus_near (f c) (le_of_lt (word c))) (near_path (mul_comm 4294967295 (f c)))))
    (near_path (sum_mul k f 4294967295 ∙ mul_comm (sum k f) 4294967295))

-- A body and a·K with their signs changed: so is the sign of their difference.
sub_minus : (b k : ℕ) (f : ℕ → ℕ) → b < 2 ^ 32 → ((c : ℕ) → f c < 2 ^ 32)
    → sub (sub 0 b) (sum k (λ c. sub 0 (f c)) % 2 ^ 32) ≡ sub 0 (sub b (sum k f % 2 ^ 32))
sub_minus b k f hb word =
    let z : ℕ = 4294967295 in
    let T : ℕ = sum k f in
    let S : ℕ = sum k (λ c. sub 0 (f c)) in
    let left : Near (2 ^ 32) 0 (sub (sub 0 b) (S % 2 ^ 32)) (z * b + z * (z * T)) =
    congruent_trans (sub_near (sub 0 b) (S % 2 ^ 32) (le_of_lt (mod-lt S (lit< tt))))
    (congruent_add (minus_near b (le_of_lt hb)) (congruent_scale z (congruent_trans (near_mod S) (sum_minus k f word)))) in
    let right : Near (2 ^ 32) 0 (sub 0 (sub b (T % 2 ^ 32))) (z * (b + z * T)) =
    congruent_trans (minus_near (sub b (T % 2 ^ 32)) (le_of_lt (mod-lt _ (lit< tt))))
    (congruent_scale z (congruent_trans (sub_near b (T % 2 ^ 32) (le_of_lt (mod-lt T (lit< tt))))
    (congruent_add (near_refl b) (congruent_scale z (near_mod T))))) in
    subs_eq (sub 0 b) (S % 2 ^ 32) 0 (sub b (T % 2 ^ 32))
    (congruent_trans left (congruent_trans (near_path (sym (mul-add z b (z * T)))) (near_sym right)))

module _ (N k r : ℕ) (K x : List ℕ) (h : r ≤ N) (word : (t : ℕ) → get_or x t 0 < 2 ^ 32) where
  -- A polynomial of the rotated sample.
  part_rotated : (c : ℕ) → c < suc k → Agree N (part N (rotated_sample N k r x) c) (rotated N r (part N x c))
  unfolding rotated_sample
  part_rotated c lc i li = part_polynomials N (suc k) _ c i lc li

  -- A mask of it times a polynomial of the key.
  mask_rotated : (c : ℕ) → c < suc k
      → Agree N (product N (part N K c) (part N (rotated_sample N k r x) c)) (rotated N r (product N (part N K c) (part N x c)))
  mask_rotated c lc i li =
      product_agree N (λ j lj. refl) (part_rotated c lc) i li
      ∙ product_rotated N r (part N K c) (part N x c) h (λ j lj. word (c * N + j)) i li

  -- The phase of X^(-r)·x is X^(-r) times the phase of x, word for word.
  pub phase_rotated : Agree N (phase N k K (rotated_sample N k r x)) (rotated N r (phase N k K x))
  unfolding phase masked
  phase_rotated i l =
      ap₂ sub (part_rotated k (omega arith) i l) (ap (λ s. s % 2 ^ 32) (sum_cong k _ _ (λ c lc. mask_rotated c (omega arith) i l)))
      ∙ go (dec_lt (i + r) N)
    where
      a : ℕ → ℕ → ℕ
      a c = product N (part N K c) (part N x c)

      go : Dec (i + r < N)
          → sub (rotated N r (part N x k) i) (sum k (λ c. rotated N r (a c) i) % 2 ^ 32) ≡ rotated N r (λ j. sub (part N x k j) (sum k (λ c. a c j) % 2 ^ 32)) i
      go (yes m) =
          ap₂ sub (rotated_low N r (part N x k) i m) (ap (λ s. s % 2 ^ 32) (sum_cong k _ _ (λ c lc. rotated_low N r (a c) i m)))
          ∙ sym (rotated_low N r _ i m)
      go (no n) =
          let m : N ≤ i + r = omega arith in
          let j : ℕ = i + r - N in
          ap₂ sub (rotated_high N r (part N x k) i m)
          (ap (λ s. s % 2 ^ 32) (sum_cong k _ _ (λ c lc. rotated_high N r (a c) i m)))
          ∙ sub_minus (part N x k j) k (λ c. a c j) (word (k * N + j)) (λ c. product_word N (part N K c) (part N x c) j)
          ∙ sym (rotated_high N r _ i m)
