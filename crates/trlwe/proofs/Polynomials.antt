-- Lists of polynomials, given by their coefficients.
-- Assumes nothing.
use mathlib.Core.Path.{◌≡◌, ap, sym, ◌∙◌}
use mathlib.Core.List.{List}
use Prim.Native.Nat.{ℕ, ◌+◌, ◌*◌, ◌/◌, ◌%◌, ◌<◌}
use native.Mathlib.Nat.{mod-lt, div-add-mod', div-lt_iff_lt-mul}
use native.Mathlib.Omega.{arith}
use lib.ListN.{length, get_or}
use lib.Seq.{ext_get_or}
use Rattle.torus.specs.Sum.{tabulate}
use Rattle.torus.proofs.Lists.{length_tabulate, tabulate_at, tabulate_cong, tabulate_below}
use Rattle.torus.proofs.Joined.{Each, length_joined, joined_cong, joined_at, joined_below}
use Rattle.trlwe.specs.Sample.{part, polynomials}

each : (N n : ℕ) (f : ℕ → ℕ → ℕ) → Each n N (λ c. tabulate N (f c))
each N n f c l = length_tabulate N (f c)

pub length_polynomials : (N n : ℕ) (f : ℕ → ℕ → ℕ) → length (polynomials N n f) ≡ n * N
unfolding polynomials
length_polynomials N n f = length_joined n N _ (each N n f)

pub part_polynomials : (N n : ℕ) (f : ℕ → ℕ → ℕ) (c i : ℕ) → c < n → i < N → part N (polynomials N n f) c i ≡ f c i
unfolding polynomials
part_polynomials N n f c i lc li = joined_at n N _ (each N n f) c i lc li ∙ tabulate_at N (f c) i li

pub polynomials_cong : (N n : ℕ) (f h : ℕ → ℕ → ℕ) → ((c i : ℕ) → c < n → i < N → f c i ≡ h c i) → polynomials N n f ≡ polynomials N n h
unfolding polynomials
polynomials_cong N n f h e = joined_cong n _ _ (λ c lc. tabulate_cong N (f c) (h c) (λ i li. e c i lc li))

pub polynomials_below : (m N n : ℕ) (f : ℕ → ℕ → ℕ) → 0 < m → ((c i : ℕ) → f c i < m) → (t : ℕ) → get_or (polynomials N n f) t 0 < m
unfolding polynomials
polynomials_below m N n f z h = joined_below m n _ z (λ c. tabulate_below m N (f c) z (h c))

-- A list is made up of its polynomials.
pub polynomials_self : (N n : ℕ) (l : List ℕ) → 0 < N → length l ≡ n * N → polynomials N n (part N l) ≡ l
polynomials_self N n l pos size =
    ext_get_or 0 _ _ (length_polynomials N n (part N l) ∙ sym size)
    (λ t h.
    let inside : t < n * N = omega (arith, length_polynomials N n (part N l)) in
    let split : t ≡ t / N * N + t % N = sym (div-add-mod' t N) in
    ap (λ u. get_or (polynomials N n (part N l)) u 0) split
    ∙ part_polynomials N n (part N l) (t / N) (t % N) ((div-lt_iff_lt-mul pos).1 inside) (mod-lt t pos)
    ∙ ap (λ u. get_or l u 0) (sym split))
