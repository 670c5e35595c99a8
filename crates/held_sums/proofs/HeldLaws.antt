-- Sums that are held by their leaves: none, one row more, and the way back.
-- Assumes nothing.
use mathlib.Core.Path.{◌≡◌, refl, ap, sym, ◌∙◌, subst, fun_ext}
use mathlib.Core.List.{List}
use Prim.Native.Nat.{ℕ, suc, ◌+◌, ◌*◌, ◌-◌, ◌/◌, ◌%◌, ◌^◌, ◌<◌}
use native.Mathlib.Nat.{le_refl, add-zero}
use native.Mathlib.Omega.{arith}
use lib.ListN.{get_or, length, take, drop, replicate, length-take}
use lib.Pow.{pow_pos}
use lib.Seq.{get_or-take}
use Rattle.torus.specs.Sum.{sum, chunk}
use Rattle.torus.proofs.Lists.{tabulate_const, tabulate_below, drop_below, all_below}
use Rattle.torus.proofs.Joined.{chunk_at, chunk_below, chunk_inside, length_chunk}
use Rattle.ring.specs.Polynomial.{Agree, coefficients}
use Rattle.ring.proofs.Poly.{Poly, nil, mul_linear_left}
use Rattle.ring.proofs.Terms.{mul_agree}
use Rattle.butterflies.specs.Same.{Same}
use Rattle.ntt.specs.Nodes.{At}
use Rattle.ntt.specs.Transforms.{Leaves}
use Rattle.butterflies.proofs.SameLaws.{same_trans, same_path}
use Rattle.ntt.proofs.NodeLaws.{at_none, at_cong}
use Rattle.butterflies.specs.Butterflies.{Below}
use Rattle.twiddles.specs.declared.Prime.{Prime}
use Rattle.twiddles.specs.Primes.{modulus}
use Rattle.twiddles.specs.Tables.{roots_of}
use Rattle.residues.specs.Residues.{residue, residues, Within}
use Rattle.held_sums.specs.Sums.{product_modulo, MoreRow, Back, Columns, row_sums, Zeros, Held, OneMore, ReadBack}
use Rattle.residues.proofs.Words.{low_word}
use Rattle.held_sums.proofs.Rows.{product_modulo_mul}
use Rattle.held_sums.proofs.ColumnLaws.{in_part}

-- ---- one row more

residues_agree : (p N : ℕ) (a b : Poly) → Agree N a b → Agree N (residues p a) (residues p b)
unfolding residues
residues_agree p N a b h i l = rw (h i l)

-- At one prime.
row_more : (p n R : ℕ) (t : List ℕ) (y b : ℕ → Poly) (small row a c : List ℕ)
    → Agree (2 ^ n) (y R) (coefficients small) → Agree (2 ^ n) (b R) (coefficients row)
    → MoreRow p n t small row a c → Leaves p n t (row_sums p (2 ^ n) R y b) a → Leaves p n t (row_sums p (2 ^ n) (suc R) y b) c
unfolding row_sums sum
row_more p n R t y b small row a c hy hb m h =
    at_cong p (p - 1) n (coefficients t) 1 n _ _ (coefficients c) (le_refl n)
    (λ i l. same_path (ap (λ x. sum R (λ r. product_modulo p (2 ^ n) (residues p (y r)) (residues p (b r)) i) + x)
    (sym (product_modulo_mul p (2 ^ n) (residues p (coefficients small)) (residues p (coefficients row)) i l)
    ∙ mul_agree (p - 1) (2 ^ n) (λ j lj. sym (residues_agree p (2 ^ n) (y R) (coefficients small) hy j lj))
    (λ j lj. sym (residues_agree p (2 ^ n) (b R) (coefficients row) hb j lj)) i l
    ∙ product_modulo_mul p (2 ^ n) (residues p (y R)) (residues p (b R)) i l)))
    (m.leaves _ h)

-- The bound of all sums, from those of each polynomial.
grown : (m K : ℕ) (a c : List ℕ) → 0 < m → length a ≡ K * m → length c ≡ length a
    → ((d : ℕ) → d < K → (R : ℕ) → Within R (chunk m d a) → Within (suc R) (chunk m d c)) → (R : ℕ) → Within R a → Within (suc R) c
grown m K a c pos ea ec h R w i l =
    let at = in_part m K i c pos (ec ∙ ea) l in
    rw (← at.2) (h (i / m) at.0 R (λ j lj.
    let lm : j < m = rw (length_chunk m (i / m) a (omega (arith, ea, chunk_inside (i / m) K m at.0))) at lj in
    rw (chunk_at m (i / m) a j lm) (w (i / m * m + j) (omega (arith, ea, chunk_inside (i / m) K m at.0))))
    (i % m) (rw (length_chunk m (i / m) c (omega (arith, ea, ec, chunk_inside (i / m) K m at.0))) at.1))

module _ (prime : Prime) (n N k p : ℕ) (t : List ℕ) (ep : p ≡ modulus prime) (et : t ≡ roots_of prime) (e : N ≡ 2 ^ n) where
  pub one_more : (small row sums sums' : List ℕ) → length sums ≡ suc k * 2 ^ n → length sums' ≡ length sums
      → Columns n k (λ d. MoreRow p n t small (chunk (2 ^ n) d row)) sums sums' → OneMore prime n N k small row sums sums'
  unfolding OneMore
  one_more small row sums sums' size len h R y b hy hb H = record {
    leaves = λ c lc.
        let hy' : Agree (2 ^ n) (y R) (coefficients small) = rw e at hy in
        let hb' : Agree (2 ^ n) (b R c) (coefficients (chunk (2 ^ n) c row)) = rw e at (hb c lc) in
        let H' : Leaves (modulus prime) n (roots_of prime) (row_sums (modulus prime) (2 ^ n) R y (λ r. b r c)) (chunk (2 ^ n) c sums) = rw e at (H.leaves c lc) in
        rw e (row_more (modulus prime) n R (roots_of prime) y (λ r. b r c) small (chunk (2 ^ n) c row) _ _ hy' hb' (rw (ep, et) at (h c lc)) H');
    within = grown (2 ^ n) (suc k) sums sums' (pow_pos n) size len (λ d l. (h d (omega arith)).within) R H.within;
  }

  -- ---- the way back

  pub read_back : (sums a₀ a : List ℕ) → Columns n k (λ d x. Back p n t (chunk (2 ^ n) d sums)) a₀ a → ReadBack prime n N k sums a
  unfolding ReadBack
  read_back sums a₀ a h R y b H c i lc li =
      let q = modulus prime in
      let li' : i < 2 ^ n = rw e at li in
      let H' : Leaves q n (roots_of prime) (row_sums q (2 ^ n) R y (λ r. b r c)) (chunk (2 ^ n) c sums) = rw e at (H.leaves c lc) in
      let h' : Back q n (roots_of prime) (chunk (2 ^ n) c sums) (chunk (2 ^ n) c a) = rw (ep, et) at (h c lc) in
      let g : Same q (get_or a (c * 2 ^ n + i) 0) (row_sums q (2 ^ n) R y (λ r. b r c) i) =
      same_trans (same_path (sym (chunk_at (2 ^ n) c a i li'))) (h'.is (row_sums q (2 ^ n) R y (λ r. b r c)) H' i li') in
      rw e g

  pub read_below : (sums a₀ a : List ℕ) → length a ≡ suc k * 2 ^ n → Columns n k (λ d x. Back p n t (chunk (2 ^ n) d sums)) a₀ a → Below (modulus prime) a
  read_below sums a₀ a size h i l =
      let at = in_part (2 ^ n) (suc k) i a (pow_pos n) size l in
      rw (← ep, ← at.2) ((h (i / 2 ^ n) (omega (arith, at.0))).below (i % 2 ^ n)
      (rw (length_chunk (2 ^ n) (i / 2 ^ n) a (omega (arith, size, chunk_inside (i / 2 ^ n) (suc k) (2 ^ n) at.0))) at.1))

-- ---- no row, and a row of digits 0

-- A list of which every element is 0.
zero_leaves : (p n : ℕ) (t l : List ℕ) → Zeros l → Leaves p n t nil l
zero_leaves p n t l h = subst (At p (p - 1) n (coefficients t) 1 n nil) (sym (fun_ext h)) (at_none p (p - 1) n (coefficients t))

zero_chunk : (m c : ℕ) (l : List ℕ) → Zeros l → Zeros (chunk m c l)
zero_chunk m c l h i =
    let g : get_or (chunk m c l) i 0 < 1 = chunk_below 1 m c l (omega arith) (λ j. rw (h j) (omega arith)) i in
    omega arith

pub held_none : (prime : Prime) (n N k : ℕ) (y : ℕ → Poly) (b : ℕ → ℕ → Poly) (sums : List ℕ) → Zeros sums → Held prime n N k 0 y b sums
unfolding row_sums sum nil
held_none prime n N k y b sums h = record {
  leaves = λ c lc. zero_leaves (modulus prime) n (roots_of prime) (chunk N c sums) (zero_chunk N c sums h);
  within = λ i l. rw (h i) (omega arith);
}

residues_nil : (p N : ℕ) (a : Poly) → Agree N a nil → Agree N (residues p a) nil
unfolding residues residue nil
residues_nil p N a h i l = rw (h i l, (low_word 0 (omega arith)).0, (low_word 0 (omega arith)).1) (omega arith)

row_none : (p n R : ℕ) (t : List ℕ) (y b : ℕ → Poly) (a : List ℕ) → Agree (2 ^ n) (y R) nil
    → Leaves p n t (row_sums p (2 ^ n) R y b) a → Leaves p n t (row_sums p (2 ^ n) (suc R) y b) a
unfolding row_sums sum nil
row_none p n R t y b a hy h =
    at_cong p (p - 1) n (coefficients t) 1 n _ _ (coefficients a) (le_refl n)
    (λ i l. same_path (sym (add-zero _) ∙ ap (λ x. sum R (λ r. product_modulo p (2 ^ n) (residues p (y r)) (residues p (b r)) i) + x)
    (sym (sym (product_modulo_mul p (2 ^ n) (residues p (y R)) (residues p (b R)) i l)
    ∙ mul_agree (p - 1) (2 ^ n) (residues_nil p (2 ^ n) (y R) hy) (λ j lj. refl) i l
    ∙ ap (λ f. f i) (mul_linear_left (p - 1) (2 ^ n) (residues p (b R))).on_nil))))
    h

-- A row whose small factor is 0 changes nothing.
pub none_more : (prime : Prime) (n N k : ℕ) (small row sums : List ℕ) → N ≡ 2 ^ n → Agree N (coefficients small) (λ i. 0)
    → OneMore prime n N k small row sums sums
unfolding OneMore nil
none_more prime n N k small row sums e z R y b hy hb H = record {
  leaves = λ c lc.
      let hz : Agree N (y R) nil = λ i l. hy i l ∙ z i l in
      let hy' : Agree (2 ^ n) (y R) nil = rw e at hz in
      let H' : Leaves (modulus prime) n (roots_of prime) (row_sums (modulus prime) (2 ^ n) R y (λ r. b r c)) (chunk (2 ^ n) c sums) = rw e at (H.leaves c lc) in
      rw e (row_none (modulus prime) n R (roots_of prime) y (λ r. b r c) (chunk (2 ^ n) c sums) hy' H');
  within = λ i l. omega (arith, H.within i l);
}

-- The front of a list of 0s.
pub zeros_front : (q m : ℕ) → Zeros (take q (drop 0 (replicate m 0)))
zeros_front q m i =
    let g : get_or (take q (drop 0 (replicate m 0))) i 0 < 1 =
    all_below 1 (take q (drop 0 (replicate m 0))) (omega arith)
    (λ j l. let lj : j < q = omega (arith, length-take {A = ℕ} q (drop 0 (replicate m 0))) in
    rw (get_or-take {A = ℕ} q (drop 0 (replicate m 0)) j 0 lj) (drop_below 1 0 (replicate m 0) (zero m) j)) i in
    omega arith
  where
    zero : (m j : ℕ) → get_or (replicate m 0) j 0 < 1
    zero m j = rw (sym (tabulate_const m 0)) (tabulate_below 1 m (λ i. 0) (omega arith) (λ i. omega arith) j)
