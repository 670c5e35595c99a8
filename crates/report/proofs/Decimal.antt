-- Numbers in decimal: how long the text of a number is, that it says the number, and that it is the text which the library writes.
-- Assumes nothing.
use mathlib.Core.Path.{◌≡◌, refl, ap, ◌∙◌}
use mathlib.Core.List.{List, [], ◌∷◌, ◌++◌}
use Prim.Native.Nat.{ℕ, zero, suc, ◌+◌, ◌-◌, ◌*◌, ◌/◌, ◌%◌, ◌^◌, ◌≤◌, ◌<◌}
use native.Mathlib.Decide.{dec_lt}
use native.Mathlib.Omega.{arith}
use borrow.Author.Tests.{lt-ltb, le-ltb}
use lib.ListN.{length, get_or, length-append}
use Rattle.std.specs.Fmt as Fmt
use Rattle.std.proofs.lemmas.Fmt.{decimal_digit, decimal_step}
use Rattle.report.specs.Text.{decimal_up_to, decimal}

-- A number of one digit.
one_digit : (k n : ℕ) → n < 10 → decimal_up_to k n ≡ (48 + n) ∷ []
unfolding decimal_up_to
one_digit zero n h = refl
one_digit (suc k) n h = rw (lt-ltb n 10 h)

-- A number of more digits: the last one stands behind the others.
more_digits : (k n : ℕ) → 10 ≤ n → decimal_up_to (suc k) n ≡ decimal_up_to k (n / 10) ++ ((48 + n % 10) ∷ [])
unfolding decimal_up_to
more_digits k n h = rw (le-ltb n 10 h)

-- The two cases.
one_or_more : (P : List ℕ → Type 0) (k n : ℕ) → (n < 10 → P ((48 + n) ∷ []))
    → (10 ≤ n → P (decimal_up_to k (n / 10) ++ ((48 + n % 10) ∷ []))) → P (decimal_up_to (suc k) n)
one_or_more P k n one more = go (dec_lt n 10)
  where
    go : Dec (n < 10) → P (decimal_up_to (suc k) n)
    go (yes h) = rw (one_digit (suc k) n h) (one h)
    go (no h) = let l : 10 ≤ n = omega arith in rw (more_digits k n l) (more l)

-- ---- the length

length_digits : (k n : ℕ) → length (decimal_up_to k n) ≤ suc k
unfolding decimal_up_to
length_digits zero n = omega arith
length_digits (suc k) n =
    let others : length (decimal_up_to k (n / 10)) ≤ suc k = length_digits k (n / 10) in
    one_or_more (λ s. length s ≤ suc (suc k)) k n (λ one. omega arith)
    (λ more. omega (arith, length-append (decimal_up_to k (n / 10)) ((48 + n % 10) ∷ [])))

pub length_decimal : (n : ℕ) → length (decimal n) ≤ 20
unfolding decimal
length_decimal n = length_digits 19 n

-- ---- what the text says

-- What holds of a number of one digit, and of a number of more where it holds of the digits before the last, holds of every number.
by_digits : (P : ℕ → List ℕ → Type 0) → ((n : ℕ) → n < 10 → P n ((48 + n) ∷ []))
    → ((n : ℕ) (s : List ℕ) → 10 ≤ n → P (n / 10) s → P n (s ++ ((48 + n % 10) ∷ [])))
    → (k n : ℕ) → n < 10 ^ suc k → P n (decimal_up_to k n)
by_digits P one more zero n h = rw (one_digit zero n (omega arith)) (one n (omega arith))
by_digits P one more (suc k) n h =
    let others : P (n / 10) (decimal_up_to k (n / 10)) = by_digits P one more k (n / 10) (omega arith) in
    one_or_more (P n) k n (one n) (λ l. more n (decimal_up_to k (n / 10)) l others)

-- The number that the digits of a text say behind those of v.
unfoldable pub value_from : ℕ → List ℕ → ℕ
value_from v [] = v
value_from v (c ∷ s) = value_from (10 * v + (c - 48)) s

-- The number that a text says.
abbrev pub value : List ℕ → ℕ
value s = value_from 0 s

value_last : (s : List ℕ) (v c : ℕ) → value_from v (s ++ (c ∷ [])) ≡ 10 * value_from v s + (c - 48)
unfolding value_from
value_last [] v c = refl
value_last (d ∷ s) v c = value_last s (10 * v + (d - 48)) c

-- The text of a number says the number.
pub decimal_value : (n : ℕ) → n < 10 ^ 20 → value (decimal n) ≡ n
unfolding decimal value_from
decimal_value n h =
    by_digits (λ m s. value s ≡ m) (λ m one. omega arith) (λ m s more e. omega (arith, value_last s 0 (48 + m % 10))) 19 n h

-- Every character of a text is that of a digit.
abbrev pub AllDigits : List ℕ → Type 0
AllDigits s = (i : ℕ) → i < length s → (48 ≤ get_or s i 0) × (get_or s i 0 < 58)

digits_last : (s : List ℕ) (d : ℕ) → d < 10 → AllDigits s → AllDigits (s ++ ((48 + d) ∷ []))
digits_last [] d h all zero l = (omega arith, omega arith)
digits_last [] d h all (suc i) l = absurd (omega arith)
digits_last (c ∷ s) d h all zero l = all 0 (omega arith)
digits_last (c ∷ s) d h all (suc i) l = digits_last s d h (λ j m. all (suc j) (omega arith)) i (omega arith)

pub decimal_digits : (n : ℕ) → n < 10 ^ 20 → AllDigits (decimal n)
unfolding decimal
decimal_digits n h =
    by_digits (λ m s. AllDigits s) (λ m one. digits_last [] m one (λ i l. absurd (omega arith)))
    (λ m s more all. digits_last s (m % 10) (omega arith) all) 19 n h

-- Some digit, and the first is not 0 where the number is not.
abbrev Begins : ℕ → List ℕ → Type 0
Begins n s = (0 < length s) × (get_or s 0 0 ≡ 48 → n ≡ 0)

begins_more : (n : ℕ) (s : List ℕ) → 10 ≤ n → Begins (n / 10) s → Begins n (s ++ ((48 + n % 10) ∷ []))
begins_more n (c ∷ s) more (some, first) = (omega arith, λ e. omega (arith, first e))
begins_more n [] more (some, first) = absurd (omega arith)

-- No number but 0 begins with the digit 0.
pub decimal_first : (n : ℕ) → n < 10 ^ 20 → get_or (decimal n) 0 0 ≡ 48 → n ≡ 0
unfolding decimal
decimal_first n h = (by_digits Begins (λ m one. (omega arith, λ e. omega arith)) begins_more 19 n h).1

-- ---- the text that the library writes

-- It is the same.
pub same_decimal : (n : ℕ) → n < 2 ^ 64 → Fmt.decimal n ≡ decimal n
unfolding decimal
same_decimal n h =
    by_digits (λ m s. m < 2 ^ 64 → Fmt.decimal m ≡ s) (λ m one l. decimal_digit m one)
    (λ m s more e l. decimal_step m more l ∙ ap (λ t. t ++ ((48 + m % 10) ∷ [])) (e (omega arith))) 19 n (omega arith) h
