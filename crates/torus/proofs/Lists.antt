-- Lists given by their elements, and what a loop makes that stores one element a turn.
-- Assumes nothing.
use Rattle.std.proofs.Common.{◌≡◌, ℕ, zero, suc, ◌+◌, ◌<◌, ◌≤◌, ◌⊎◌, List, [], ◌∷◌, ◌++◌, length, get_or, take, drop, set, replicate, sym, refl, ap, ◌∙◌, ap₂, inl, inr, le_refl, le_of_suc-le-suc, eq-or-lt_of_le, add-one, arith, length-set, drop_of_length-le, length-take-le, get_or-drop, take_all, get_or-set_other, get_or-take, get_or-set_same, ext_get_or}
use native.Mathlib.Decide.{dec_lt}
use lib.ListN.{get_or-eq_default}
use lib.Seq.{set_split}
use Rattle.torus.specs.Sum.{tabulate}

pub length_tabulate : (n : ℕ) (f : ℕ → ℕ) → length (tabulate n f) ≡ n
unfolding tabulate
length_tabulate zero f = refl
length_tabulate (suc n) f = ap suc (length_tabulate n (λ i. f (suc i)))

pub tabulate_at : (n : ℕ) (f : ℕ → ℕ) (i : ℕ) → i < n → get_or (tabulate n f) i 0 ≡ f i
unfolding tabulate
tabulate_at zero f i h = absurd (omega arith)
tabulate_at (suc n) f zero h = refl
tabulate_at (suc n) f (suc i) h = tabulate_at n (λ i. f (suc i)) i (omega arith)

pub tabulate_cong : (n : ℕ) (f g : ℕ → ℕ) → ((i : ℕ) → i < n → f i ≡ g i) → tabulate n f ≡ tabulate n g
unfolding tabulate
tabulate_cong zero f g h = refl
tabulate_cong (suc n) f g h = ap₂ ◌∷◌ (h 0 (omega arith)) (tabulate_cong n _ _ (λ i l. h (suc i) (omega arith)))

-- A list is the table of its elements.
pub tabulate_self : (n : ℕ) (l : List ℕ) → length l ≡ n → tabulate n (λ i. get_or l i 0) ≡ l
unfolding tabulate
tabulate_self zero [] e = refl
tabulate_self zero (x ∷ l) e = absurd (omega arith)
tabulate_self (suc n) [] e = absurd (omega arith)
tabulate_self (suc n) (x ∷ l) e = ap (λ m. x ∷ m) (tabulate_self n l (omega arith))

-- A list is its first n elements, one by one, and the rest.
pub tabulate_front : (n : ℕ) (l : List ℕ) → n ≤ length l → tabulate n (λ i. get_or l i 0) ++ drop n l ≡ l
unfolding tabulate
tabulate_front zero l h = refl
tabulate_front (suc n) [] h = absurd (omega arith)
tabulate_front (suc n) (x ∷ l) h = ap (λ m. x ∷ m) (tabulate_front n l (omega arith))

pub tabulate_const : (n a : ℕ) → tabulate n (λ i. a) ≡ replicate n a
unfolding tabulate
tabulate_const zero a = refl
tabulate_const (suc n) a = ap (λ l. a ∷ l) (tabulate_const n a)

-- ---- bounds

pub tabulate_below : (m n : ℕ) (f : ℕ → ℕ) → 0 < m → ((i : ℕ) → f i < m) → (i : ℕ) → get_or (tabulate n f) i 0 < m
unfolding tabulate
tabulate_below m zero f z h i = z
tabulate_below m (suc n) f z h zero = h 0
tabulate_below m (suc n) f z h (suc i) = tabulate_below m n (λ j. f (suc j)) z (λ j. h (suc j)) i

pub append_below : (m : ℕ) (s t : List ℕ) → ((i : ℕ) → get_or s i 0 < m) → ((i : ℕ) → get_or t i 0 < m) → (i : ℕ) → get_or (s ++ t) i 0 < m
append_below m [] t hs ht i = ht i
append_below m (x ∷ s) t hs ht zero = hs 0
append_below m (x ∷ s) t hs ht (suc i) = append_below m s t (λ j. hs (suc j)) ht i

pub drop_below : (m k : ℕ) (l : List ℕ) → ((i : ℕ) → get_or l i 0 < m) → (i : ℕ) → get_or (drop k l) i 0 < m
drop_below m k l h i = rw (get_or-drop k l i 0) (h (k + i))

-- What is read behind the end of a list is 0.
pub all_below : (m : ℕ) (l : List ℕ) → 0 < m → ((i : ℕ) → i < length l → get_or l i 0 < m) → (i : ℕ) → get_or l i 0 < m
all_below m l some below i = go (dec_lt i (length l))
  where
    go : Dec (i < length l) → get_or l i 0 < m
    go (yes h) = below i h
    go (no n) = let end : length l ≤ i = omega arith in rw (get_or-eq_default l 0 end) some

-- ---- loops

-- l with its first n elements replaced by f 0 to f (n - 1): what a loop that stores f i at i has made after n turns.
unfoldable pub filled : ℕ → (ℕ → ℕ) → List ℕ → List ℕ
filled zero f l = l
filled (suc n) f l = set (filled n f l) n (f n)

pub filled_none : (f : ℕ → ℕ) (l : List ℕ) → l ≡ filled 0 f l
unfolding filled
filled_none f l = refl

-- One turn more: v is stored at n.
pub filled_more : (n : ℕ) (f : ℕ → ℕ) (l out : List ℕ) (v : ℕ) → out ≡ filled n f l → v ≡ f n → set out n v ≡ filled (n + 1) f l
unfolding filled
filled_more n f l out v e h = rw (add-one n) (ap₂ (λ m x. set m n x) e h)

pub length_filled : (n : ℕ) (f : ℕ → ℕ) (l : List ℕ) → length (filled n f l) ≡ length l
unfolding filled
length_filled zero f l = refl
length_filled (suc n) f l = length-set (filled n f l) n (f n) ∙ length_filled n f l

-- What is not yet replaced.
pub filled_later : (n : ℕ) (f : ℕ → ℕ) (l : List ℕ) (i : ℕ) → n ≤ i → get_or (filled n f l) i 0 ≡ get_or l i 0
unfolding filled
filled_later zero f l i h = refl
filled_later (suc n) f l i h = get_or-set_other (filled n f l) n i (f n) 0 (omega arith) ∙ filled_later n f l i (omega arith)

-- One turn more of a loop in place: word n and g n are joined by op.
pub filled_in_place : (op : ℕ → ℕ → ℕ) (n : ℕ) (g : ℕ → ℕ) (l out : List ℕ) (x y v : ℕ)
    → out ≡ filled n (λ i. op (get_or l i 0) (g i)) l → x ≡ get_or out n 0 → y ≡ g n → v ≡ op x y
    → set out n v ≡ filled (n + 1) (λ i. op (get_or l i 0) (g i)) l
filled_in_place op n g l out x y v e ex ey ev =
    filled_more n _ l out v e (ev ∙ ap₂ op (ex ∙ ap (λ m. get_or m n 0) e ∙ filled_later n _ l n (le_refl n)) ey)

filled_case : (n : ℕ) (f : ℕ → ℕ) (l : List ℕ) (i : ℕ) → n < length l → (i < n → get_or (filled n f l) i 0 ≡ f i)
    → (i ≡ n) ⊎ (i < n) → get_or (set (filled n f l) n (f n)) i 0 ≡ f i
filled_case n f l i b ih (inl e) = rw e (get_or-set_same (filled n f l) n (f n) 0 (rw (length_filled n f l) b))
filled_case n f l i b ih (inr h) = get_or-set_other (filled n f l) n i (f n) 0 (omega arith) ∙ ih h

-- What is replaced.
pub filled_before : (n : ℕ) (f : ℕ → ℕ) (l : List ℕ) (i : ℕ) → n ≤ length l → i < n → get_or (filled n f l) i 0 ≡ f i
unfolding filled
filled_before zero f l i b h = absurd (omega arith)
filled_before (suc n) f l i b h =
    filled_case n f l i b (filled_before n f l i (omega arith)) (eq-or-lt_of_le (le_of_suc-le-suc h))

-- The first n elements of the list are the table.
pub filled_front : (n : ℕ) (f : ℕ → ℕ) (l : List ℕ) → n ≤ length l → take n (filled n f l) ≡ tabulate n f
filled_front n f l b =
    let size : length (take n (filled n f l)) ≡ n = length-take-le n (filled n f l) (rw (length_filled n f l) b) in
    ext_get_or 0 (take n (filled n f l)) (tabulate n f) (size ∙ sym (length_tabulate n f))
    (λ i h.
    let li : i < n = omega (arith, size) in
    get_or-take n (filled n f l) i 0 li ∙ filled_before n f l i b li ∙ sym (tabulate_at n f i li))

-- All turns are done.
pub filled_all : (n : ℕ) (f : ℕ → ℕ) (l : List ℕ) → length l ≡ n → filled n f l ≡ tabulate n f
filled_all n f l e =
    let size : length (filled n f l) ≤ n = omega (arith, length_filled n f l) in
    sym (take_all n (filled n f l) size) ∙ filled_front n f l (omega arith)

-- The same of a loop that ended after k turns.
pub filled_done : (n k : ℕ) (f : ℕ → ℕ) (l out : List ℕ) → out ≡ filled k f l → k ≡ n → length l ≡ n → out ≡ tabulate n f
filled_done n k f l out e done size = e ∙ rw done (filled_all n f l size)

-- All turns are done, and b is stored in the one place that is left.
pub filled_last : (n : ℕ) (f : ℕ → ℕ) (l : List ℕ) (b : ℕ) → length l ≡ n + 1 → set (filled n f l) n b ≡ tabulate n f ++ b ∷ []
filled_last n f l b e =
    let size : length (filled n f l) ≡ n + 1 = length_filled n f l ∙ e in
    let none : length (filled n f l) ≤ suc n = omega arith in
    set_split (filled n f l) n b (omega arith)
    ∙ ap₂ (λ s t. s ++ b ∷ t) (filled_front n f l (omega arith)) (drop_of_length-le (filled n f l) none)
