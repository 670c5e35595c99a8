-- The limit and the layout of a job file, said once: how large it may be, and where its header has what. The header is section one, that is a
-- count c and c numbers, and the count d of section two behind it. What reads a file goes by these definitions.
-- Assumes nothing.
use Rattle.std.specs.Prelude.{Bool, cond, List, ℕ, ◌+◌, eqb, get_or}

-- "reads one from standard input into a buffer of 65,536 bytes": no file has more.
abbrev pub largest_file : ℕ
largest_file = 65536

-- "Section one: count 5, then N, g, L, M, s": the counts that it may have.
abbrev pub is_first_count : (c : ℕ) → Bool
is_first_count c = eqb c 5

-- "each after its count": section one begins with its own,
abbrev pub first_count : (ws : List ℕ) → ℕ
first_count ws = get_or ws 0 0

-- and number i of it, from 0 up, stands behind that.
abbrev pub header_number : (i : ℕ) (ws : List ℕ) → ℕ
header_number i ws = get_or ws (1 + i) 0

-- Section two begins behind c numbers, with the count d. A file with any other count is refused, and is read as if it had five.
abbrev pub depth_at : (c : ℕ) → ℕ
depth_at c = 1 + cond (is_first_count c) c 5

-- The words of the header: seven with the count 5, so that a lawful file isn't "under 28" bytes.
abbrev pub header_words : (c : ℕ) → ℕ
header_words c = 1 + depth_at c
