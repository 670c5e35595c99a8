-- Demand 3 for jobs that are read from a file, from the file's bytes to the classes; that nothing lawful is thrown out, and that what is
-- accepted is a job file.
-- Assumes nothing.
use mathlib.Core.Path.{◌≡◌, refl, ap, sym, ◌∙◌}
use mathlib.Core.Bool.{Bool, and-false}
use mathlib.Core.List.{List}
use Prim.Native.Nat.{ℕ, ◌≤◌, ◌<◌}
use native.Mathlib.Omega.{arith}
use native.Mathlib.Nat.{le_of_eq}
use lib.Dec.{eqb}
use lib.ListN.{length}
use borrow.Author.Tests.{eq-eqb, ne_eqb, lt-ltb, le-ltb}
use Rattle.torus.specs.Bytes.{AreBytes, words}
use Rattle.std.specs.Prelude.{Err}
use Rattle.answers.specs.Answers.{number}
use Rattle.answers.specs.Checks.{◌or_else◌}
use Rattle.answers.specs.Checks as Check
use Rattle.answers.specs.declared.Refusal.TheVariants as Refused
use Rattle.tables.specs.declared.Packing.TheVariants.{Horizontal, Vertical}
use Rattle.tables.specs.declared.Visibility.TheVariants.{Public}
use Rattle.trlwe.specs.Sample.{Key}
use Rattle.trgsw.specs.Parameters.{masks, SchemeKey, unweighted_refusal}
use Rattle.trgsw.proofs.Checked.{unweighted_most, unweighted_told}
use Rattle.trgsw.proofs.Told.{every_key}
use Rattle.answers.proofs.Laws.{check_most, first_most, past_other}
use Rattle.tables.proofs.Passed.{sizes, sizes_most}
use Rattle.lookup.proofs.Accepted.{lookup_twelve}
use Rattle.tables.specs.Numbers.{most_classes, most_selectors, LawfulNumbers, numbers}
use Rattle.lookup.specs.Job.{Job, weighing}
use Rattle.lookup.specs.Calls.{lookup, IsAccepted}
use Rattle.accuracy.specs.Rule.{Premises, Accurate, AccurateHorizontal, AccurateVertical, Encrypted}
use Rattle.accuracy.proofs.Accuracy.{accuracy_public, accurate_horizontal, accurate_vertical}
use Rattle.accuracy.proofs.Told.{public_tells}
use Rattle.accuracy.proofs.EndToEnd.{encrypted_lookup}
use Rattle.jobfile.specs.Layout.{largest_file}
use Rattle.jobfile.specs.File.{file_packing, job_file, Whole, WellFormed}
use Rattle.jobfile.specs.Reader.{Begins, read_job, beginning, table_count, sections, file_refusal, job_answer, job_sample}
use Rattle.jobfile.proofs.Passed.{refused_sections}
use Rattle.jobfile.proofs.Held.{answer_lookup}
use Rattle.jobfile.proofs.Texts.{accepted_lookup, accepted_sample}
use Rattle.jobfile.proofs.RoundTrip.{read_made, made_passes, passes_well_formed, well_formed_passes}

-- "nothing lawful is thrown out": a file made of a whole job with lawful numbers, which is not too large, is answered as the job is.
pub made_answer : (j : Job) → Whole j → LawfulNumbers j.numbers → length (job_file j) ≤ largest_file → job_answer (job_file j) ≡ lookup j
made_answer j whole lawful most = answer_lookup (job_file j) (made_passes j whole lawful most) ∙ ap lookup (read_made j whole)

-- A well-formed file is answered as its job is.
pub well_formed_answer : (file : List ℕ) (w : WellFormed file) → job_answer file ≡ lookup w.job
well_formed_answer file w =
    let p = well_formed_passes file w in
    answer_lookup file p.0 ∙ ap lookup p.1

-- What begins as a job does, has lawful numbers and is not well-formed, is refused with 5: "for any other wrong length or section
-- three count".
pub malformed_answer : (file : List ℕ) → AreBytes file → Begins file → LawfulNumbers (read_job file).numbers → (WellFormed file → ⊥)
    → job_answer file ≡ Err Refused.Length
unfolding job_answer
malformed_answer file byte begins lawful never =
    rw (refused_sections file begins lawful (λ e. never (passes_well_formed file e byte)))

-- What is accepted is a job file.
pub accepted_well_formed : (file : List ℕ) → AreBytes file → number (job_answer file) ≡ 0 → WellFormed file
accepted_well_formed file byte e = passes_well_formed file (accepted_lookup file e).0 byte

-- ---- the packing

-- A file's table is public.
file_public : (file : List ℕ) → (read_job file).numbers.visibility ≡ Public
unfolding read_job
file_public file = refl

read_packing : (file : List ℕ) → (read_job file).numbers.packing ≡ file_packing (read_job file).numbers.s (read_job file).numbers.d
unfolding read_job
read_packing file = refl

pub packing_few : (s d : ℕ) → d ≤ 10 → file_packing s d ≡ Horizontal
unfolding file_packing
packing_few s d few = rw (le-ltb 10 d few, and-false (eqb s 1))

pub packing_other : (s d : ℕ) → (s ≡ 1 → ⊥) → file_packing s d ≡ Horizontal
unfolding file_packing
packing_other s d other = rw (ne_eqb s 1 other)

pub packing_many : (s d : ℕ) → s ≡ 1 → 10 < d → file_packing s d ≡ Vertical
unfolding file_packing
packing_many s d one many = rw (eq-eqb s 1 one, lt-ltb 10 d many)

-- ---- the weight

-- "Job files mean W = N": a file that passes its checks is answered as the lookup that declares this weight.
pub file_weight : (file : List ℕ) → let j = read_job file in job_answer file ≡ (file_refusal file or_else lookup (weighing j j.numbers.scheme.N))
unfolding job_answer read_job
file_weight file = refl

pub file_full : (file : List ℕ) → (read_job file).numbers.scheme.W ≡ (read_job file).numbers.scheme.N
unfolding read_job
file_full file = refl

-- So its numbers are judged by "refusals 1 to 4" alone, without 12,
pub file_judged : (file : List ℕ) → let x = (read_job file).numbers in
    (unweighted_refusal x.scheme.N x.scheme.g x.scheme.L or_else Check.class_number x.M
    or_else Check.count (most_classes x.packing x.scheme.N) x.s or_else Check.depth (most_selectors x.packing) x.d) ≡ numbers x
unfolding read_job
file_judged file = rw (unweighted_told _ _ _) refl

-- which no file is answered;
file_most : (file : List ℕ) → number (file_refusal file) ≤ 5
unfolding file_refusal
file_most file =
    let x = (read_job file).numbers in
    let judged : number (numbers x) ≤ 5 =
    rw (sym (file_judged file))
    (first_most (unweighted_refusal x.scheme.N x.scheme.g x.scheme.L) (sizes x) 5 (omega (arith, unweighted_most x.scheme.N x.scheme.g x.scheme.L)) (omega (arith, sizes_most x))) in
    let five : (t : Bool) → number (Check.unless t Refused.Length) ≤ 5 = λ t. check_most t Refused.Length 5 (omega arith) in
    first_most (beginning file) _ 5 (five _)
    (first_most (numbers x) (sections x file) 5 judged (first_most (Check.exact (length file) _) (table_count x file) 5 (five _) (five _)))

pub file_twelve : (file : List ℕ) → number (job_answer file) ≡ 12 → ⊥
unfolding job_answer
file_twelve file e =
    let p = past_other (file_refusal file) 12 (lookup (read_job file)) (λ n. omega (arith, file_most file, n)) e in
    let heavy = (lookup_twelve (read_job file) p.1).1 in
    omega (arith, heavy, file_full file)

-- and every key is one of its keys.
pub file_key : (file key : List ℕ) → let x = (read_job file).numbers.scheme in Key x.N (masks x) key → SchemeKey x key
file_key file key = every_key (read_job file).numbers.scheme key (le_of_eq (sym (file_full file)))

-- ---- the accuracy rule

pub file_accuracy : (file : List ℕ) → number (job_answer file) ≡ 0 → (bits : ℕ → ℕ) (key out : List ℕ) → Premises (read_job file) bits key out
    → Accurate (read_job file) bits key (words (read_job file).table) out (job_answer file) (job_sample file)
file_accuracy file e bits key out given =
    let p = accepted_lookup file e in
    rw (accepted_sample file e, answer_lookup file p.0) (accuracy_public (read_job file) p.1 (file_public file) bits key out given)

-- In a file with ten selectors or fewer: each coefficient is within the bound of the encoding of the entry that the bits name.
pub file_accuracy_horizontal : (file : List ℕ) → number (job_answer file) ≡ 0 → (bits : ℕ → ℕ) (key out : List ℕ) → Premises (read_job file) bits key out
    → (read_job file).numbers.d ≤ 10 → AccurateHorizontal (read_job file) bits key (words (read_job file).table) out (job_answer file) (job_sample file)
file_accuracy_horizontal file e bits key out given few =
    accurate_horizontal (read_job file) bits key (words (read_job file).table) out (job_answer file) (job_sample file)
    (read_packing file ∙ packing_few (read_job file).numbers.s (read_job file).numbers.d few) (file_accuracy file e bits key out given)

-- In a file with one class an entry and more than ten selectors: coefficient 0 is within the bound of the encoding of the class that the
-- bits name.
pub file_accuracy_vertical : (file : List ℕ) → number (job_answer file) ≡ 0 → (bits : ℕ → ℕ) (key out : List ℕ) → Premises (read_job file) bits key out
    → (read_job file).numbers.s ≡ 1 → 10 < (read_job file).numbers.d → AccurateVertical (read_job file) bits key (words (read_job file).table) out (job_answer file) (job_sample file)
file_accuracy_vertical file e bits key out given one many =
    accurate_vertical (read_job file) bits key (words (read_job file).table) out (job_answer file) (job_sample file) (accepted_lookup file e).1 given
    (public_tells (read_job file) key (file_public file))
    (read_packing file ∙ packing_many (read_job file).numbers.s (read_job file).numbers.d one many) (file_accuracy file e bits key out given)

-- A job from encryption to decryption, by way of a file: a broker encrypts each selector's bit and makes a file of the blocks, no amplitude
-- declared below the bound that the encryption reported, and of a table; if the file is accepted, the rule holds of what is printed for it.
pub encrypted_file : (j : Job) (bits : ℕ → ℕ) (masks errors room : ℕ → List ℕ) (key out : List ℕ) → Whole j → number (job_answer (job_file j)) ≡ 0
    → Encrypted j bits masks errors room key out → Accurate j bits key (words j.table) out (job_answer (job_file j)) (job_sample (job_file j))
encrypted_file j bits masks errors room key out whole e given =
    let same : read_job (job_file j) ≡ j = read_made j whole in
    let p = accepted_lookup (job_file j) e in
    let accepted : IsAccepted j = rw same at p.1 in
    rw (accepted_sample (job_file j) e, answer_lookup (job_file j) p.0, same)
    (encrypted_lookup j bits masks errors room key (words j.table) out accepted given (public_tells j key (ap (λ x. x.visibility) whole.numbers)))
