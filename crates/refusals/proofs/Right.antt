-- Each row of the table of refusals is right, and so is each limit, by a test that is computed over each group of calls.
-- Assumes nothing.
use mathlib.Core.Path.{◌≡◌, refl, sym, ap₂, ◌∙◌}
use mathlib.Core.Bool.{true, false}
use mathlib.Core.List.{List, [], ◌∷◌, ◌++◌, map, map-append, Memᴰ}
use lib.Count.{ones, count_trailing_zeros}
use lib.Dec.{eqb}
use borrow.Author.Tests.{eq-eqb}
use Rattle.torus.specs.Sum.{sum, tabulate, joined}
use Rattle.torus.specs.Word.{magnitude}
use Rattle.torus.specs.Bytes.{words, bytes}
use Rattle.gadget.specs.Digits.{precision}
use Rattle.answers.specs.Answers.{greatest_magnitude}
use Rattle.answers.specs.Checks.{all_below}
use Rattle.trlwe.specs.Calls as Trlwe
use Rattle.lwe.specs.Calls as Lwe
use Rattle.trgsw.specs.Parameters.{masks}
use Rattle.trgsw.specs.External.{charge}
use Rattle.selectors.specs.Calls as Selectors
use Rattle.gates.specs.Calls as Gates
use Rattle.trees.specs.LookedUp.{largest, charges}
use Rattle.tables.specs.Numbers.{rotations}
use Rattle.lookup.specs.Calls as Lookup
use Rattle.jobfile.specs.File.{file_packing}
use Rattle.jobfile.specs.Reader.{read_job, file_refusal, job_answer}
use Rattle.refusals.specs.Rows.{Row, Limit, Call, refusal_rows}
use Rattle.refusals.specs.Table.{samples, blocks, lookups, hidden_lookups, files, group_rows, group_limits, rows, limit_rows}

-- ---- the tests

-- Over all rows, what is given is what is wanted.
abbrev RowTest : List Row → Type 0
RowTest rs = map (λ (r : Row). r.got) rs ≡ map (λ (r : Row). r.want) rs

-- Over all limits, the number that is given is not the unwanted one.
abbrev LimitTest : List Limit → Type 0
LimitTest ls = map (λ (l : Limit). eqb l.got l.unwanted) ls ≡ map (λ (l : Limit). false) ls

-- Both tests of a group of calls. Who unfolds it, computes with all these definitions.
Tested : List Call → Type 0
unfolding group_rows group_limits refusal_rows Trlwe.encrypt_classes Trlwe.decrypt_classes Lwe.decrypt_scalar Lwe.extract
    Selectors.encrypt_selector Gates.external_product Gates.cmux Lookup.lookup job_answer file_refusal read_job file_packing masks rotations
    greatest_magnitude largest charges charge sum precision magnitude words bytes tabulate joined ones count_trailing_zeros all_below
Tested calls = RowTest (group_rows calls) × LimitTest (group_limits calls)

samples_tested : Tested samples
unfolding Tested
samples_tested = (refl, refl)

blocks_tested : Tested blocks
unfolding Tested
blocks_tested = (refl, refl)

lookups_tested : Tested lookups
unfolding Tested
lookups_tested = (refl, refl)

hidden_tested : Tested hidden_lookups
unfolding Tested
hidden_tested = (refl, refl)

files_tested : Tested files
unfolding Tested
files_tested = (refl, refl)

-- ---- rows

row_test : (calls : List Call) → Tested calls → RowTest (group_rows calls)
unfolding Tested
row_test calls t = t.0

join_rows : (rs qs : List Row) → RowTest rs → RowTest qs → RowTest (rs ++ qs)
join_rows rs qs t u = map-append _ rs qs ∙ ap₂ ◌++◌ t u ∙ sym (map-append _ rs qs)

all_rows : RowTest rows
unfolding rows
all_rows =
    join_rows (group_rows samples) _ (row_test samples samples_tested)
    (join_rows (group_rows blocks) _ (row_test blocks blocks_tested)
    (join_rows (group_rows lookups) _ (row_test lookups lookups_tested)
    (join_rows (group_rows hidden_lookups) _ (row_test hidden_lookups hidden_tested)
    (join_rows (group_rows files) [] (row_test files files_tested) refl))))

each_row : (rs : List Row) → RowTest rs → (r : Row) → Memᴰ r rs → r.got ≡ r.want
each_row [] t r m = elim m [ ]
each_row (q ∷ qs) t r (Memᴰ.head e) = cc
each_row (q ∷ qs) t r (Memᴰ.tail m) = each_row qs (cc) r m

pub refusals : (r : Row) → Memᴰ r rows → r.got ≡ r.want
refusals = each_row rows all_rows

-- ---- limits

limit_test : (calls : List Call) → Tested calls → LimitTest (group_limits calls)
unfolding Tested
limit_test calls t = t.1

join_limits : (ls ks : List Limit) → LimitTest ls → LimitTest ks → LimitTest (ls ++ ks)
join_limits ls ks t u = map-append _ ls ks ∙ ap₂ ◌++◌ t u ∙ sym (map-append _ ls ks)

all_limits : LimitTest limit_rows
unfolding limit_rows
all_limits =
    join_limits (group_limits samples) _ (limit_test samples samples_tested)
    (join_limits (group_limits blocks) _ (limit_test blocks blocks_tested)
    (join_limits (group_limits lookups) _ (limit_test lookups lookups_tested)
    (join_limits (group_limits hidden_lookups) _ (limit_test hidden_lookups hidden_tested)
    (join_limits (group_limits files) [] (limit_test files files_tested) refl))))

each_limit : (ls : List Limit) → LimitTest ls → (l : Limit) → Memᴰ l ls → eqb l.got l.unwanted ≡ false
each_limit [] t l m = elim m [ ]
each_limit (k ∷ ks) t l (Memᴰ.head e) = cc
each_limit (k ∷ ks) t l (Memᴰ.tail m) = each_limit ks (cc) l m

pub limits : (l : Limit) → Memᴰ l limit_rows → l.got ≡ l.unwanted → ⊥
limits l m e =
    let same : eqb l.got l.unwanted ≡ true = eq-eqb l.got l.unwanted e in
    let apart : eqb l.got l.unwanted ≡ false = each_limit limit_rows all_limits l m in
    cc
