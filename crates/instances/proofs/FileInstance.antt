-- Job J of document 01 as a file: what is printed for it, that it meets every premise of the accuracy rule, and files with one fault. All
-- is computed from the bytes.
-- Assumes nothing.
use mathlib.Core.Path.{◌≡◌, refl}
use mathlib.Core.List.{List, [], ◌∷◌}
use Prim.Native.Nat.{ℕ, ◌*◌, ◌^◌, ◌≤◌}
use native.Mathlib.Nat.{le_refl}
use lib.Count.{ones}
use lib.Dec.{lit<}
use lib.ListN.{get_or}
use Rattle.torus.specs.Sum.{sum, tabulate, joined}
use Rattle.torus.specs.Word.{distance}
use Rattle.torus.specs.Bytes.{words, bytes}
use Rattle.gadget.specs.Digits.{precision, rounded, digit}
use Rattle.ring.specs.Polynomial.{product, rotated}
use Rattle.answers.specs.Answers.{number, bound, after}
use Rattle.answers.specs.Checks.{all_below}
use Rattle.trlwe.specs.Classes.{encode, message}
use Rattle.trlwe.specs.Sample.{polynomials, phase, trivial}
use Rattle.trlwe.specs.Calls.{decrypt_classes, decrypt_classes_classes}
use Rattle.trgsw.specs.Block.{Holds}
use Rattle.trgsw.specs.External.{external, difference, cmux_sample, charge}
use Rattle.instances.proofs.BlockInstance.{set_j, at_0, key_j, keyed_j, holds_j}
use Rattle.trees.specs.Tree.{tree, entry_number}
use Rattle.trgsw.specs.Parameters.{masks, parameters}
use Rattle.tables.specs.Numbers.{rotations}
use Rattle.trees.specs.LookedUp.{selector, tree_sample, blind_rotation, looked_up, largest, charges}
use Rattle.lookup.specs.Calls.{lookup, lookup_sample}
use Rattle.instances.proofs.Instance.{class_room, numbers_j}
use Rattle.report.specs.Text.{ascii, decimal, decimal_up_to}
use Rattle.report.specs.Report.{numbers, line, word_lines, report}
use Rattle.jobfile.specs.File.{file_packing}
use Rattle.jobfile.specs.Reader.{read_job, file_refusal, job_answer, job_sample}
use Rattle.jobfile.specs.Output.{output}
use Rattle.jobfile.proofs.Accuracy.{file_accuracy}

-- "Job J, as words", with the amplitude A.
abbrev pub words_j : (A : ℕ) → List ℕ
words_j A = 5 ∷ 1 ∷ 16 ∷ 2 ∷ 16 ∷ 1 ∷ 1 ∷ A ∷ 65536 ∷ 0 ∷ 1 ∷ 0 ∷ 0 ∷ 65536 ∷ 0 ∷ 1 ∷ 2 ∷ 3 ∷ 8 ∷ []

abbrev pub file_j : (A : ℕ) → List ℕ
file_j A = bytes (words_j A)

-- "The output is whole".
pub output_j : output (file_j 7) ≡ ascii "answer 0\nbound 917504\ngates 1\nmask 0 0\nbody 0 2147483648\n"
unfolding output report line numbers word_lines ascii decimal decimal_up_to job_sample job_answer file_refusal read_job
    masks rotations file_packing lookup_sample lookup after largest charges sum charge precision words bytes ones all_below
    looked_up blind_rotation tree_sample tree trivial message encode cmux_sample polynomials joined tabulate external difference product digit rounded
output_j = refl

-- "with 1024, 134217728, answer 9"
pub output_1024 : output (file_j 1024) ≡ ascii "answer 9\nbound 134217728\n"
unfolding output report line numbers ascii decimal decimal_up_to job_sample job_answer file_refusal read_job
    masks rotations file_packing lookup largest charges sum charge precision words bytes ones all_below joined tabulate
output_1024 = refl

-- "A refusal prints only the answer and bound lines": the empty input.
pub output_none : output [] ≡ ascii "answer 5\nbound 0\n"
unfolding output report line numbers ascii decimal decimal_up_to job_sample job_answer file_refusal read_job words
output_none = refl

-- ---- the accuracy rule

accepted_j : number (job_answer (file_j 7)) ≡ 0
unfolding job_answer file_refusal read_job masks rotations file_packing lookup largest charges sum charge precision words bytes ones all_below joined tabulate
accepted_j = refl

bound_j : bound (job_answer (file_j 7)) ≡ 917504
unfolding job_answer file_refusal read_job masks rotations file_packing lookup largest charges sum charge precision words bytes ones all_below joined tabulate
bound_j = refl

-- Its premises are met under the key 1, and it says of the file that its sample decrypts to class 8, that of entry 1.
pub rule_j : (distance (phase 1 1 (words key_j) (words (job_sample (file_j 7))) 0) (8 * 2 ^ 28) ≤ 917504)
    × (number (decrypt_classes 1 16 1 key_j (job_sample (file_j 7)) class_room) ≡ 0)
    × (decrypt_classes_classes 1 16 1 key_j (job_sample (file_j 7)) class_room ≡ bytes (8 ∷ []))
unfolding read_job file_packing masks rotations words bytes entry_number sum message encode rotated joined tabulate
rule_j =
    let rule =
    file_accuracy (file_j 7) accepted_j (λ i. 1) key_j class_room (record {
      key_fits = keyed_j;
      bit = λ i l. le_refl 1;
      holds = at_0 (λ i. Holds set_j 1 (get_or (7 ∷ []) i 0) (words key_j) (selector (parameters numbers_j.scheme) i (65536 ∷ 0 ∷ 1 ∷ 0 ∷ 0 ∷ 65536 ∷ 0 ∷ 1 ∷ []))) holds_j;
      out_length = refl;
    }) in
    (rw (← bound_j) (rule.within 0 (lit< tt)), rule.decrypts, rule.lists)
