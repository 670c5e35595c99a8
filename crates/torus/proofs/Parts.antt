-- Laws of words in bytes: one word, parts of a slice that are lent and come back, and every byte.
-- Assumes nothing.
use Rattle.std.proofs.Common.{◌≡◌, ℕ, zero, suc, ◌+◌, ◌-◌, ◌*◌, ◌/◌, ◌%◌, ◌^◌, ◌<◌, ◌≤◌, List, [], ◌∷◌, ◌++◌, length, get_or, take, drop, set, replicate, sym, refl, ap, ◌∙◌, ap₂, le_of_eq, add-zero, mod-lt, arith, lit<, length-drop, length-take-le, get_or-drop, take_all}
use Rattle.torus.specs.Bytes.{AreBytes, word, words, bytes}

-- 4 · i by steps of four, as `words` goes.
abbrev quad : ℕ → ℕ
quad zero = zero
quad (suc i) = suc (suc (suc (suc (quad i))))

quad_eq : (i : ℕ) → quad i ≡ 4 * i
quad_eq zero = refl
quad_eq (suc i) = let h : quad i ≡ 4 * i = quad_eq i in omega arith

-- k steps more.
abbrev more : ℕ → ℕ → ℕ
more zero n = n
more (suc k) n = suc (more k n)

quad_more : (k i : ℕ) → more k (quad i) ≡ 4 * i + k
quad_more zero i = quad_eq i ∙ sym (add-zero (4 * i))
quad_more (suc k) i = let h : more k (quad i) ≡ 4 * i + k = quad_more k i in omega arith

pub length_words : (s : List ℕ) → length (words s) ≡ length s / 4
unfolding words
length_words [] = refl
length_words (a ∷ []) = refl
length_words (a ∷ b ∷ []) = refl
length_words (a ∷ b ∷ c ∷ []) = refl
length_words (a ∷ b ∷ c ∷ d ∷ s) = let h : length (words s) ≡ length s / 4 = length_words s in omega arith

-- ---- one word

at_quad : (s : List ℕ) (i : ℕ) → 4 * i + 4 ≤ length s
    → get_or (words s) i 0 ≡ word (get_or s (quad i) 0) (get_or s (suc (quad i)) 0) (get_or s (suc (suc (quad i))) 0) (get_or s (suc (suc (suc (quad i)))) 0)
unfolding words
at_quad [] i h = absurd (omega arith)
at_quad (a ∷ []) i h = absurd (omega arith)
at_quad (a ∷ b ∷ []) i h = absurd (omega arith)
at_quad (a ∷ b ∷ c ∷ []) i h = absurd (omega arith)
at_quad (a ∷ b ∷ c ∷ d ∷ s) zero h = refl
at_quad (a ∷ b ∷ c ∷ d ∷ s) (suc i) h = at_quad s i (omega arith)

pub words_at : (s : List ℕ) (i : ℕ) → 4 * i + 4 ≤ length s
    → get_or (words s) i 0 ≡ word (get_or s (4 * i) 0) (get_or s (4 * i + 1) 0) (get_or s (4 * i + 2) 0) (get_or s (4 * i + 3) 0)
words_at s i h = rw (← quad_more 3, ← quad_more 2, ← quad_more 1, ← quad_eq) (at_quad s i h)

set_quad : (s : List ℕ) (i a b c d : ℕ) → 4 * i + 4 ≤ length s
    → words (set (set (set (set s (quad i) a) (suc (quad i)) b) (suc (suc (quad i))) c) (suc (suc (suc (quad i)))) d) ≡ set (words s) i (word a b c d)
unfolding words
set_quad [] i a b c d h = refl
set_quad (x ∷ []) i a b c d h = absurd (omega arith)
set_quad (x ∷ y ∷ []) i a b c d h = absurd (omega arith)
set_quad (x ∷ y ∷ z ∷ []) i a b c d h = absurd (omega arith)
set_quad (x ∷ y ∷ z ∷ w ∷ s) zero a b c d h = refl
set_quad (x ∷ y ∷ z ∷ w ∷ s) (suc i) a b c d h = ap (λ l. word x y z w ∷ l) (set_quad s i a b c d (omega arith))

-- Four bytes that make up w, stored in place of word i.
pub words_set : (s : List ℕ) (i a b c d w : ℕ) → 4 * i + 4 ≤ length s → word a b c d ≡ w
    → words (set (set (set (set s (4 * i) a) (4 * i + 1) b) (4 * i + 2) c) (4 * i + 3) d) ≡ set (words s) i w
words_set s i a b c d w h e = rw (← quad_more 3, ← quad_more 2, ← quad_more 1, ← quad_eq) (set_quad s i a b c d h ∙ ap (λ v. set (words s) i v) e)

-- ---- parts

drop_quad : (k : ℕ) (s : List ℕ) → words (drop (quad k) s) ≡ drop k (words s)
unfolding words
drop_quad zero s = refl
drop_quad (suc k) [] = refl
drop_quad (suc k) (a ∷ []) = refl
drop_quad (suc k) (a ∷ b ∷ []) = refl
drop_quad (suc k) (a ∷ b ∷ c ∷ []) = refl
drop_quad (suc k) (a ∷ b ∷ c ∷ d ∷ s) = drop_quad k s

pub words_drop : (k : ℕ) (s : List ℕ) → words (drop (4 * k) s) ≡ drop k (words s)
words_drop k s = rw (← quad_eq) (drop_quad k s)

take_quad : (k : ℕ) (s : List ℕ) → words (take (quad k) s) ≡ take k (words s)
unfolding words
take_quad zero s = refl
take_quad (suc k) [] = refl
take_quad (suc k) (a ∷ []) = refl
take_quad (suc k) (a ∷ b ∷ []) = refl
take_quad (suc k) (a ∷ b ∷ c ∷ []) = refl
take_quad (suc k) (a ∷ b ∷ c ∷ d ∷ s) = ap (λ l. word a b c d ∷ l) (take_quad k s)

pub words_take : (k : ℕ) (s : List ℕ) → words (take (4 * k) s) ≡ take k (words s)
words_take k s = rw (← quad_eq) (take_quad k s)

pub words_append : (k : ℕ) (s t : List ℕ) → length s ≡ 4 * k → words (s ++ t) ≡ words s ++ words t
unfolding words
words_append k [] t h = refl
words_append k (a ∷ []) t h = absurd (omega arith)
words_append k (a ∷ b ∷ []) t h = absurd (omega arith)
words_append k (a ∷ b ∷ c ∷ []) t h = absurd (omega arith)
words_append zero (a ∷ b ∷ c ∷ d ∷ s) t h = absurd (omega arith)
words_append (suc k) (a ∷ b ∷ c ∷ d ∷ s) t h = ap (λ l. word a b c d ∷ l) (words_append k s t (omega arith))

-- What a function reads that is lent `&xs[p..p + q]`: p and q count bytes, a and k words.
pub words_lent : (a k p q : ℕ) (xs : List ℕ) → p ≡ 4 * a → q ≡ 4 * k → words (take q (drop p xs)) ≡ take k (drop a (words xs))
words_lent a k p q xs e f = rw (e, f, words_take, words_drop)

-- What a slice holds when a part that was lent as `&mut xs[p..p + q]` is back as ys.
pub words_back : (a k p q : ℕ) (xs ys : List ℕ) → p ≡ 4 * a → q ≡ 4 * k → p ≤ length xs → length ys ≡ q
    → words (take p xs ++ (ys ++ drop q (drop p xs))) ≡ take a (words xs) ++ (words ys ++ drop k (drop a (words xs)))
words_back a k p q xs ys e f h g =
    let lt : length (take p xs) ≡ 4 * a = length-take-le p xs h ∙ e in
    let ly : length ys ≡ 4 * k = g ∙ f in
    words_append a (take p xs) (ys ++ drop q (drop p xs)) lt
    ∙ ap (λ (l : List ℕ). words (take p xs) ++ l) (words_append k ys (drop q (drop p xs)) ly)
    ∙ rw (e, f, words_take, words_drop, words_drop)

-- The front of a slice, of n words, that was lent as `&mut xs[0..q]` is back as ys.
pub front_back : (n q : ℕ) (xs ys : List ℕ) → q ≡ 4 * n → length ys ≡ q
    → words (take 0 xs ++ (ys ++ drop q (drop 0 xs))) ≡ words ys ++ drop n (words xs)
front_back n q xs ys e len = words_back 0 n 0 q xs ys refl e (omega arith) len

-- A front that is lent as `&xs[0..q]` has q elements.
pub front_length : (q : ℕ) (xs : List ℕ) → q ≤ length xs → length (take (q - 0) (drop 0 xs)) ≡ q
front_length q xs h = length-take-le (q - 0) xs (omega arith) ∙ omega arith

-- The rest of a slice, lent as `&xs[p..]`.
pub back_all : (p : ℕ) (xs : List ℕ) → take (length xs - p) (drop p xs) ≡ drop p xs
back_all p xs = take_all (length xs - p) (drop p xs) (le_of_eq (length-drop p xs))

-- ---- every byte

-- The words of a list of bytes are words.
pub words_word : (s : List ℕ) → ((i : ℕ) → get_or s i 0 < 256) → (i : ℕ) → get_or (words s) i 0 < 2 ^ 32
unfolding words
words_word [] f i = lit< tt
words_word (a ∷ []) f i = lit< tt
words_word (a ∷ b ∷ []) f i = lit< tt
words_word (a ∷ b ∷ c ∷ []) f i = lit< tt
words_word (a ∷ b ∷ c ∷ d ∷ s) f zero =
    let fa : a < 256 = f 0 in
    let fb : b < 256 = f 1 in
    let fc : c < 256 = f 2 in
    let fd : d < 256 = f 3 in
    omega arith
words_word (a ∷ b ∷ c ∷ d ∷ s) f (suc i) = words_word s (λ j. f (suc (suc (suc (suc j))))) i

-- A list of whole words of bytes is told by its words, so that an equation on words is one on every byte.
pub bytes_words : (k : ℕ) (s : List ℕ) → length s ≡ 4 * k → ((i : ℕ) → get_or s i 0 < 256) → bytes (words s) ≡ s
unfolding words bytes
bytes_words k [] h f = refl
bytes_words k (a ∷ []) h f = absurd (omega arith)
bytes_words k (a ∷ b ∷ []) h f = absurd (omega arith)
bytes_words k (a ∷ b ∷ c ∷ []) h f = absurd (omega arith)
bytes_words zero (a ∷ b ∷ c ∷ d ∷ s) h f = absurd (omega arith)
bytes_words (suc k) (a ∷ b ∷ c ∷ d ∷ s) h f =
    let fa : a < 256 = f 0 in
    let fb : b < 256 = f 1 in
    let fc : c < 256 = f 2 in
    let fd : d < 256 = f 3 in
    let r : bytes (words s) ≡ s = bytes_words k s (omega arith) (λ i. f (suc (suc (suc (suc i))))) in
    let ea : word a b c d % 256 ≡ a = omega arith in
    let qb : word a b c d / 256 ≡ b + 256 * c + 65536 * d = omega arith in
    let qc : word a b c d / 65536 ≡ c + 256 * d = omega arith in
    let qd : word a b c d / 16777216 ≡ d = omega arith in
    let eb : word a b c d / 256 % 256 ≡ b = rw qb (omega arith) in
    let ec : word a b c d / 65536 % 256 ≡ c = rw qc (omega arith) in
    let ed : word a b c d / 16777216 % 256 ≡ d = rw qd (omega arith) in
    cc

-- The bytes behind the first k words are those of the words behind them.
pub drop_bytes : (k n : ℕ) (s : List ℕ) → AreBytes s → length s ≡ 4 * (k + n) → drop (4 * k) s ≡ bytes (drop k (words s))
drop_bytes k n s byte size =
    let rest : length (drop (4 * k) s) ≡ 4 * n = length-drop (4 * k) s ∙ omega arith in
    sym (bytes_words n (drop (4 * k) s) rest (λ i. rw (get_or-drop (4 * k) s i 0) (byte (4 * k + i)))) ∙ ap bytes (words_drop k s)

pub length_bytes : (ws : List ℕ) → length (bytes ws) ≡ 4 * length ws
unfolding bytes
length_bytes [] = refl
length_bytes (w ∷ ws) = let rest : length (bytes ws) ≡ 4 * length ws = length_bytes ws in omega arith

-- And a list of words by its bytes.
pub words_bytes : (ws : List ℕ) → ((i : ℕ) → get_or ws i 0 < 2 ^ 32) → words (bytes ws) ≡ ws
unfolding words bytes
words_bytes [] f = refl
words_bytes (w ∷ ws) f =
    let below : w < 2 ^ 32 = f 0 in
    let rest : words (bytes ws) ≡ ws = words_bytes ws (λ i. f (suc i)) in
    let b : w / 256 ≡ w / 256 % 256 + 256 * (w / 65536) = omega arith in
    let c : w / 65536 ≡ w / 65536 % 256 + 256 * (w / 16777216) = omega arith in
    let d : w / 16777216 % 256 ≡ w / 16777216 = omega arith in
    let whole : word (w % 256) (w / 256 % 256) (w / 65536 % 256) (w / 16777216 % 256) ≡ w = omega arith in
    ap₂ ◌∷◌ whole rest

-- Words that are 0 are bytes that are 0.
pub bytes_zero : (n : ℕ) → bytes (replicate n 0) ≡ replicate (4 * n) 0
unfolding bytes
bytes_zero zero = refl
bytes_zero (suc n) =
    let four : 4 * suc n ≡ suc (suc (suc (suc (4 * n)))) = omega arith in
    rw (bytes_zero n, four)

-- Bytes that are 0 are words that are 0.
pub words_zero : (n : ℕ) → words (replicate n 0) ≡ replicate (n / 4) 0
unfolding words
words_zero zero = refl
words_zero (suc zero) = refl
words_zero (suc (suc zero)) = refl
words_zero (suc (suc (suc zero))) = refl
words_zero (suc (suc (suc (suc n)))) =
    let four : suc (suc (suc (suc n))) / 4 ≡ suc (n / 4) = omega arith in
    rw (words_zero n, four)

-- Bytes of words are bytes.
pub bytes_are : (ws : List ℕ) → AreBytes (bytes ws)
unfolding bytes
bytes_are [] i = lit< tt
bytes_are (w ∷ ws) zero = mod-lt _ (lit< tt)
bytes_are (w ∷ ws) (suc zero) = mod-lt _ (lit< tt)
bytes_are (w ∷ ws) (suc (suc zero)) = mod-lt _ (lit< tt)
bytes_are (w ∷ ws) (suc (suc (suc zero))) = mod-lt _ (lit< tt)
bytes_are (w ∷ ws) (suc (suc (suc (suc i)))) = bytes_are ws i
