-- The tables of logs with crosslocks hold of the rules, by computation. Assumes nothing.
use mathlib.Core.Path.{◌≡◌, refl, sym, ap, ap₂, fun_ext, ◌∙◌}
use mathlib.Core.Bool.{Bool, true, false, ◌&&◌}
use mathlib.Core.List.{List, [], ◌∷◌, map}
use Prim.Native.Nat.{ℕ, ◌<◌}
use lib.Dec.{T}
use lib.ListN.{length}
use borrow.Author.Tests.{lt-leb}
use Rattle.rules.specs.Limits.{core_count}
use Rattle.rules.specs.Record.{Bytes, Event, acquire, release, interrupt, cross_acquire, commit, cross_release, core_of, event_of, is_malformed, Names}
use Rattle.rules.specs.HeldLocks.{Core}
use Rattle.rules.specs.Decision.{cyclic}
use Rattle.rules.specs.Verdict.{refusal}
use Rattle.rules.specs.Graph.{dependency}
use Rattle.rules.specs.Crosslocks.{Crosslocks, count_below, is_idle, with, after_cross}
use Rattle.rules.specs.Run.{State, Result, step, answers, run}
use Rattle.rules.proofs.Booleans.{and_cases}
use Rattle.rules.proofs.Steps.{StepCases, was_refused, was_clean, was_fault, stepped}
use Rattle.rules.proofs.Quick.{quickly, quickly_same, quick_state, quick_state_lem}
use Rattle.rules.proofs.Examples.{same_numbers, same_numbers_lem, T_true}
use Rattle.rules.specs.Examples.{plain, Example, example, MarkCase, mark_case, NumberCase, number_case, all_clean, ends_with, fault_at, takes, frees, does, says}
use Rattle.rules.specs.CrossExamples.{cross_takes, commits, cross_frees, crossed, completion, cross_table, undeclared, Cell, SheetCase, sheet_case, sheet_byte, taken_since, visited, hard_over_soft, sheet_cases, KeptCase, kept_case, two_taken, kept_cases, FullCase, full_case, filled_to, full_cases, sixteen, list_full, list_and_count_full, unmarked, in_handler, cross_marks, cross_numbers}

-- What is computed is one test, over runs that are quicker than `run` and `answers` and the same: where it fails, that is told at once.
abbrev Runs : Type 0
Runs = ℕ → State → List Bytes → State

abbrev Answering : Type 0
Answering = ℕ → State → List Bytes → List ℕ

quick_runs : quick_state ≡ run
quick_runs = fun_ext (λ K. fun_ext (λ s. fun_ext (λ rs. quick_state_lem K s rs)))

quick_answers : quickly ≡ answers
quick_answers = fun_ext (λ K. fun_ext (λ s. fun_ext (λ rs. quickly_same K s rs)))

module _ {A : Type 0} (given : Runs → Answering → A → List ℕ) (expected : A → List ℕ) where
  abbrev all_given : List A → Bool
  all_given [] = true
  all_given (e ∷ es) = same_numbers (given quick_state quickly e) (expected e) && all_given es

  computed : (es : List A) → T (all_given es) → map (given run answers) es ≡ map expected es
  computed es t = ap₂ (λ (runs : Runs) (a : Answering). map (given runs a) es) (sym quick_runs) (sym quick_answers) ∙ by es (T_true (all_given es) t)
    where
      by : (es : List A) → all_given es ≡ true → map (given quick_state quickly) es ≡ map expected es
      by [] h = refl
      by (e ∷ es) h =
          let p = and_cases (same_numbers (given quick_state quickly e) (expected e)) (all_given es) h in
          ap₂ ◌∷◌ (same_numbers_lem _ _ p.0) (by es p.1)

abbrev answers_of : State → Runs → Answering → Example → List ℕ
answers_of s runs answer e = answer 4 s e.log

quick_table : T (all_given (answers_of crossed) (λ e. e.given) cross_table)
unfolding cross_table completion example all_clean ends_with fault_at takes frees does says cross_takes commits cross_frees is_malformed count_below refusal dependency cyclic
quick_table = tt

pub cross_table_holds : map (λ (e : Example). answers 4 crossed e.log) cross_table ≡ map (λ (e : Example). e.given) cross_table
cross_table_holds = computed (answers_of crossed) (λ e. e.given) cross_table quick_table

quick_undeclared : T (all_given (answers_of plain) (λ e. e.given) (undeclared ∷ []))
unfolding undeclared example takes says cross_takes commits cross_frees is_malformed count_below refusal dependency cyclic
quick_undeclared = tt

pub undeclared_holds : map (λ (e : Example). answers 4 plain e.log) (undeclared ∷ []) ≡ undeclared.given ∷ []
undeclared_holds = computed (answers_of plain) (λ e. e.given) (undeclared ∷ []) quick_undeclared

-- What is drawn.
abbrev bytes_of : Runs → Answering → SheetCase → List ℕ
bytes_of runs answer e = let d = (runs 4 crossed e.log).graph.locks in map (λ (x : Cell). sheet_byte (d x.from x.to)) e.cells

abbrev bytes_given : SheetCase → List ℕ
bytes_given e = map (λ (x : Cell). x.byte) e.cells

quick_sheets : T (all_given bytes_of bytes_given sheet_cases)
unfolding sheet_cases sheet_case taken_since visited hard_over_soft takes frees does says cross_takes commits cross_frees is_malformed count_below refusal dependency cyclic
quick_sheets = tt

pub sheets_hold : map (bytes_of run answers) sheet_cases ≡ map bytes_given sheet_cases
sheets_hold = computed bytes_of bytes_given sheet_cases quick_sheets

-- The history.
abbrev kept_of : Runs → Answering → KeptCase → List ℕ
kept_of runs answer e = let x = (runs 4 crossed e.log).cross in length x.history ∷ x.since 2 ∷ x.since 3 ∷ []

quick_kept : T (all_given kept_of (λ e. e.numbers) kept_cases)
unfolding kept_cases kept_case two_taken visited takes frees does says cross_takes commits cross_frees is_malformed count_below refusal dependency cyclic
quick_kept = tt

pub kept_holds : map (kept_of run answers) kept_cases ≡ map (λ (e : KeptCase). e.numbers) kept_cases
kept_holds = computed kept_of (λ e. e.numbers) kept_cases quick_kept

-- Full frames, histories and counts.
abbrev full_given : Runs → Answering → FullCase → List ℕ
full_given runs answer e = answer 4 (filled_to e.kept e.accepted (runs 4 crossed e.before)) e.log

quick_full : T (all_given full_given (λ e. e.given) full_cases)
unfolding full_cases full_case takes frees does says cross_takes commits cross_frees is_malformed count_below refusal dependency cyclic
quick_full = tt

pub full_holds : map (full_given run answers) full_cases ≡ map (λ (e : FullCase). e.given) full_cases
full_holds = computed full_given (λ e. e.given) full_cases quick_full

-- Sixteen in progress.
abbrev list_given : ℕ → Runs → Answering → Example → List ℕ
list_given accepted runs answer e = answer 17 (sixteen accepted) e.log

quick_list : T (all_given (list_given 16) (λ e. e.given) (list_full ∷ []))
unfolding list_full example says cross_takes commits cross_frees is_malformed count_below refusal dependency cyclic
quick_list = tt

pub list_full_lem : map (list_given 16 run answers) (list_full ∷ []) ≡ list_full.given ∷ []
list_full_lem = computed (list_given 16) (λ e. e.given) (list_full ∷ []) quick_list

quick_both_full : T (all_given (list_given 4294967295) (λ e. e.given) (list_and_count_full ∷ []))
unfolding list_and_count_full example says cross_takes commits cross_frees is_malformed count_below refusal dependency cyclic
quick_both_full = tt

pub list_and_count_full_lem : map (list_given 4294967295 run answers) (list_and_count_full ∷ []) ≡ list_and_count_full.given ∷ []
list_and_count_full_lem = computed (list_given 4294967295) (λ e. e.given) (list_and_count_full ∷ []) quick_both_full

-- Every class that there may be is looked at.
pub last_class_counts : is_idle (with 63 (λ c. false)) ≡ false
unfolding count_below
last_class_counts = refl

-- Marks.
abbrev mark_of : Runs → MarkCase → Bool
mark_of runs e = (runs 4 (unmarked (runs 4 crossed in_handler)) e.log).graph.marks e.class e.level e.usage

quick_marks : map (mark_of quick_state) cross_marks ≡ map (λ (e : MarkCase). e.set) cross_marks
unfolding in_handler cross_marks mark_case takes does says cross_takes commits cross_frees is_malformed count_below refusal dependency cyclic
quick_marks = refl

pub cross_marks_hold : map (mark_of run) cross_marks ≡ map (λ (e : MarkCase). e.set) cross_marks
cross_marks_hold = ap (λ (runs : Runs). map (mark_of runs) cross_marks) (sym quick_runs) ∙ quick_marks

-- Numbers.
abbrev numbers_of : Runs → Answering → NumberCase → List ℕ
numbers_of runs answer e = let j = (runs 4 crossed e.log).journal in j.accepted ∷ j.seen e.from e.to ∷ []

quick_numbers : T (all_given numbers_of (λ e. e.numbers) cross_numbers)
unfolding cross_numbers number_case completion taken_since takes frees says cross_takes commits cross_frees is_malformed count_below refusal dependency cyclic
quick_numbers = tt

pub cross_numbers_hold : map (numbers_of run answers) cross_numbers ≡ map (λ (e : NumberCase). e.numbers) cross_numbers
cross_numbers_hold = computed numbers_of (λ e. e.numbers) cross_numbers quick_numbers

-- Kinds 10 to 12 name their core.
pub cross_take_names : (core class : ℕ) → core < core_count → Names (cross_takes core class) core
unfolding cross_takes says is_malformed
cross_take_names core class c = record { formed = rw (lt-leb core_count core c) refl; is_core = refl }

pub commit_names : (core class : ℕ) → core < core_count → Names (commits core class) core
unfolding commits says is_malformed
commit_names core class c = record { formed = rw (lt-leb core_count core c) refl; is_core = refl }

pub cross_release_names : (core class : ℕ) → core < core_count → Names (cross_frees core class) core
unfolding cross_frees says is_malformed
cross_release_names core class c = record { formed = rw (lt-leb core_count core c) refl; is_core = refl }

-- What is declared stays so, whatever is accepted.
declared_on : (ev : Event) (i : ℕ) (core : Core) (x : Crosslocks) → (after_cross ev i core x).declared ≡ x.declared
declared_on (acquire c m) i core x = refl
declared_on (release c m) i core x = refl
declared_on (interrupt e) i core x = refl
declared_on (cross_acquire c) i core x = refl
declared_on (commit c) i core x = refl
declared_on (cross_release c) i core x = refl

declared_by : {K : ℕ} {s : State} {r : Bytes} {o : Result} → StepCases K s r o → o.state.cross.declared ≡ s.cross.declared
declared_by (was_refused x e) = refl
declared_by {s} {r} (was_clean e c) = declared_on (event_of r) (core_of r) (s.cores (core_of r)) s.cross
declared_by {s} {r} (was_fault e c) = declared_on (event_of r) (core_of r) (s.cores (core_of r)) s.cross

pub declared_kept : (K : ℕ) (s : State) (rs : List Bytes) → (run K s rs).cross.declared ≡ s.cross.declared
declared_kept K s [] = refl
declared_kept K s (r ∷ rs) = declared_kept K (step K s r).state rs ∙ declared_by (stepped K s r)
