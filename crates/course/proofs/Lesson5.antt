-- Lesson 5, job files: the exercises, each with its solution.
-- Assumes nothing.
use Rattle.std.proofs.Common.{◌≡◌, ℕ, ◌≤◌, List, [], ◌∷◌, sym, refl, ap, ◌∙◌, arith}
use lib.Count.{ones}
use Rattle.std.specs.Prelude.{Err}
use Rattle.torus.specs.Sum.{sum, tabulate, joined}
use Rattle.torus.specs.Bytes.{words, bytes}
use Rattle.answers.specs.Answers.{number, bound, gates}
use Rattle.answers.specs.Checks.{all_below}
use Rattle.answers.specs.declared.Refusal.TheVariants as Refused
use Rattle.tables.specs.declared.Packing.TheVariants.{Horizontal, Vertical}
use Rattle.tables.specs.declared.Visibility.TheVariants.{Public}
use Rattle.trees.specs.LookedUp.{largest, charges}
use Rattle.trgsw.specs.Parameters as Parameters
use Rattle.trgsw.specs.Parameters.{masks}
use Rattle.tables.specs.Numbers.{rotations}
use Rattle.lookup.specs.Job.{Job}
use Rattle.lookup.specs.Calls.{lookup}
use Rattle.instances.proofs.Instance.{numbers_j}
use Rattle.report.specs.Text.{ascii, decimal, decimal_up_to}
use Rattle.report.specs.Report.{numbers, line, answer_lines}
use Rattle.jobfile.specs.File.{file_packing, job_file, Whole}
use Rattle.jobfile.specs.Reader.{Begins, read_job, file_size, file_refusal, job_answer}
use Rattle.jobfile.specs.Output.{output}
use Rattle.jobfile.proofs.Passed.{Passes, beginning_met, refusal_held}
use Rattle.jobfile.proofs.RoundTrip.{read_made}
use Rattle.jobfile.proofs.Texts.{accepted_lookup, output_refused}

-- Exercise 5.1. Compute how many words the file of Job J has (N = 1, L = 2, s = 1, d = 1), and that of a job with N = 4, L = 3,
-- s = 2 and d = 3.
pub size_j : file_size 5 numbers_j ≡ 19
unfolding masks
size_j = refl

pub size_larger : file_size 5 (record { packing = Horizontal; visibility = Public; scheme = Parameters.scheme_of 4 8 3; M = 16; s = 2; d = 3 }) ≡ 171
unfolding masks
size_larger = refl

-- Exercise 5.2. A file that ends with the count d = 0 lacks section three: compute its answer. Add the section, one class 8,
-- and compute the number, the bound and the gates.
abbrev pub start : List ℕ
start = 5 ∷ 1 ∷ 16 ∷ 2 ∷ 16 ∷ 1 ∷ 0 ∷ []

abbrev pub whole : List ℕ
whole = 5 ∷ 1 ∷ 16 ∷ 2 ∷ 16 ∷ 1 ∷ 0 ∷ 1 ∷ 8 ∷ []

pub start_refused : job_answer (bytes start) ≡ Err Refused.Length
unfolding job_answer file_refusal read_job file_packing rotations masks words bytes ones joined tabulate
start_refused = refl

pub whole_accepted : (number (job_answer (bytes whole)) ≡ 0)
    × (bound (job_answer (bytes whole)) ≡ 0) × (gates (job_answer (bytes whole)) ≡ 0)
unfolding job_answer file_refusal read_job file_packing rotations masks lookup largest charges sum words bytes ones all_below joined tabulate
whole_accepted = (refl, refl, refl)

-- Exercise 5.3. A file that begins as a job file does and has N = 3 is answered 1, whatever else it holds; and this is what is
-- printed.
pub three_refused : (file : List ℕ) → Begins file → (read_job file).numbers.scheme.N ≡ 3 → job_answer file ≡ Err Refused.Degree
unfolding job_answer file_refusal ones
three_refused file begins three = rw (beginning_met file begins, three) refl

pub three_printed : (file : List ℕ) → Begins file → (read_job file).numbers.scheme.N ≡ 3 → output file ≡ ascii "answer 1\nbound 0\n"
unfolding line numbers ascii decimal decimal_up_to
three_printed file begins three =
    let e = three_refused file begins three in
    output_refused file (λ z. let one : ◌≡◌ {A = ℕ} 1 0 = sym (ap number e) ∙ z in omega arith) ∙ ap answer_lines e

-- Exercise 5.4. Job files are small: with N = 1,024 and L = 2 an accepted file has at most one selector.
pub one_selector : (file : List ℕ) → number (job_answer file) ≡ 0 → (read_job file).numbers.scheme.N ≡ 1024 → (read_job file).numbers.scheme.L ≡ 2
    → (read_job file).numbers.d ≤ 1
unfolding masks
one_selector file e degree digits =
    let ok : Passes file = refusal_held file (accepted_lookup file e).0 in
    let size = ok.fits.size in
    omega (arith, ok.begins.most, rw (degree, digits) at size)

-- Exercise 5.5. Two whole jobs with the same file are the same job.
pub file_injective : (i j : Job) → Whole i → Whole j → job_file i ≡ job_file j → i ≡ j
file_injective i j wi wj e = sym (read_made i wi) ∙ ap read_job e ∙ read_made j wj

-- Exercise 5.6. Up to which d is a file with s = 1 packed horizontally, and from which on vertically? And what is a file with two classes
-- an entry and d = 11 answered?
pub packed_by_depth : (file_packing 1 10 ≡ Horizontal) × (file_packing 1 11 ≡ Vertical)
unfolding file_packing
packed_by_depth = (refl, refl)

pub eleven_refused : job_answer (bytes (5 ∷ 2 ∷ 8 ∷ 2 ∷ 16 ∷ 2 ∷ 11 ∷ [])) ≡ Err Refused.Depth
unfolding job_answer file_refusal read_job file_packing words bytes ones
eleven_refused = refl
