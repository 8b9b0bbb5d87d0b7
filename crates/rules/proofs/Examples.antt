-- The tables of examples hold of the rules, by computation. Assumes nothing.
use mathlib.Core.Path.{◌≡◌, refl, sym, ap, ap₂, fun_ext, ◌∙◌}
use mathlib.Core.Bool.{Bool, true, false, ◌&&◌, false≢true}
use mathlib.Core.List.{List, [], ◌∷◌, map}
use mathlib.Core.Option.{some}
use Prim.Native.Nat.{ℕ, ◌<◌}
use lib.Dec.{T, eqb}
use lib.ListN.{length}
use borrow.Author.Tests.{eqb-true, lt-leb}
use Rattle.rules.specs.Limits.{core_count, mode_count}
use Rattle.rules.specs.Record.{Bytes, is_malformed, Names}
use Rattle.rules.specs.Decision.{cyclic, reaches}
use Rattle.rules.specs.Verdict.{number, refusal}
use Rattle.rules.specs.HeldLocks.{release_newest}
use Rattle.rules.specs.Graph.{dependency}
use Rattle.rules.specs.KindNames.{EN}
use Rattle.rules.specs.CycleDecision.{is_cycle, least_cycle}
use Rattle.rules.specs.Crosslocks.{count_below}
use Rattle.rules.specs.Join.{join}
use Rattle.rules.specs.Run.{State, answers, run, graph_at}
use Rattle.rules.proofs.Booleans.{and_cases}
use Rattle.rules.proofs.Quick.{quickly, quickly_same, quick_state, quick_state_lem}
use Rattle.rules.proofs.FewClasses.{classes_named, all_named, few_answers}
use Rattle.rules.specs.Examples.{plain, exclusive, read, recursive, try_exclusive, lock_of, NumberCase, number_case, number_cases, LimitCase, limit_case, limit_cases, JoinCase, join_case, join_cases, DrawnCase, drawn_case, drawn_cases, MarkCase, mark_case, mark_cases, Example, cycle_cases, CycleCase, cycle_case, table, tries, release_cases, example, p2, p6, all_clean, ends_with, fault_at, takes, frees, does, says}

abbrev pub same_numbers : List ℕ → List ℕ → Bool
same_numbers [] [] = true
same_numbers [] (y ∷ ys) = false
same_numbers (x ∷ xs) [] = false
same_numbers (x ∷ xs) (y ∷ ys) = eqb x y && same_numbers xs ys

pub same_numbers_lem : (xs ys : List ℕ) → same_numbers xs ys ≡ true → xs ≡ ys
same_numbers_lem [] [] h = refl
same_numbers_lem [] (y ∷ ys) h = absurd (false≢true h)
same_numbers_lem (x ∷ xs) [] h = absurd (false≢true h)
same_numbers_lem (x ∷ xs) (y ∷ ys) h =
    let p = and_cases (eqb x y) (same_numbers xs ys) h in
    ap₂ ◌∷◌ (eqb-true x y p.0) (same_numbers_lem xs ys p.1)

pub T_true : (b : Bool) → T b → b ≡ true
T_true true t = refl
T_true false t = absurd t

-- What is computed is one test over `quickly`, which is `answers`, at as few classes as the log names: where it fails, that is told at once.
abbrev all_given : ℕ → List Example → Bool
all_given K [] = true
all_given K (e ∷ es) =
    (all_named (classes_named K e.log) K e.log && same_numbers (quickly (classes_named K e.log) plain e.log) e.given) && all_given K es

computed : (K : ℕ) (es : List Example) → T (all_given K es) → map (λ (e : Example). answers K plain e.log) es ≡ map (λ (e : Example). e.given) es
computed K es t = by es (T_true (all_given K es) t)
  where
    by : (es : List Example) → all_given K es ≡ true → map (λ (e : Example). answers K plain e.log) es ≡ map (λ (e : Example). e.given) es
    by [] h = refl
    by (e ∷ es) h =
        let n = classes_named K e.log in
        let p = and_cases (all_named n K e.log && same_numbers (quickly n plain e.log) e.given) (all_given K es) h in
        let q = and_cases (all_named n K e.log) (same_numbers (quickly n plain e.log) e.given) p.0 in
        ap₂ ◌∷◌ (few_answers n K e.log q.0 ∙ sym (quickly_same n plain e.log) ∙ same_numbers_lem _ _ q.1) (by es p.1)

quick_table : T (all_given 8 table)
unfolding table example p2 p6 all_clean ends_with fault_at takes frees does says is_malformed count_below refusal dependency cyclic
quick_table = tt

pub table_holds : map (λ (e : Example). answers 8 plain e.log) table ≡ map (λ (e : Example). e.given) table
table_holds = computed 8 table quick_table

quick_tries : T (all_given 4 tries)
unfolding tries example all_clean ends_with fault_at takes frees does says is_malformed count_below refusal dependency cyclic
quick_tries = tt

pub tries_hold : map (λ (e : Example). answers 4 plain e.log) tries ≡ map (λ (e : Example). e.given) tries
tries_hold = computed 4 tries quick_tries

quick_releases : T (all_given 3 release_cases)
unfolding release_cases example all_clean takes frees does says is_malformed count_below refusal dependency cyclic
quick_releases = tt

pub releases_hold : map (λ (e : Example). answers 3 plain e.log) release_cases ≡ map (λ (e : Example). e.given) release_cases
releases_hold = computed 3 release_cases quick_releases

-- A release in any mode names its core.
pub release_names : (core class mode : ℕ) → core < core_count → mode < mode_count → Names (frees core class mode) core
unfolding frees says is_malformed
release_names core class mode c m = record { formed = rw (lt-leb core_count core c, lt-leb mode_count mode m) refl; is_core = refl }

-- What holds of each row holds of the table.
of_each : {A B : Type 0} {f g : A → B} (rows : List A) → ((e : A) → f e ≡ g e) → map f rows ≡ map g rows
of_each {A} {B} rows h = ap (λ (f : A → B). map f rows) (fun_ext h)

-- Each log of the table of cycles ends in a fault, and that is the cycle shown.
quick_close : map (λ (e : CycleCase). quickly e.classes plain e.log) cycle_cases ≡ map (λ (e : CycleCase). fault_at (length e.log)) cycle_cases
unfolding cycle_cases cycle_case p2 ends_with fault_at takes frees does says is_malformed count_below refusal dependency cyclic
quick_close = refl

pub cycles_close : map (λ (e : CycleCase). answers e.classes plain e.log) cycle_cases ≡ map (λ (e : CycleCase). fault_at (length e.log)) cycle_cases
cycles_close = of_each cycle_cases (λ e. sym (quickly_same e.classes plain e.log)) ∙ quick_close

quick_shown : map (λ (e : CycleCase). least_cycle e.classes (quick_state e.classes plain e.log).graph) cycle_cases ≡ map (λ (e : CycleCase). some e.shown) cycle_cases
unfolding cycle_cases cycle_case p2 takes frees does says is_malformed count_below refusal dependency cyclic least_cycle is_cycle
quick_shown = refl

pub cycles_shown : map (λ (e : CycleCase). least_cycle e.classes (run e.classes plain e.log).graph) cycle_cases ≡ map (λ (e : CycleCase). some e.shown) cycle_cases
cycles_shown = of_each cycle_cases (λ e. ap (λ (s : State). least_cycle e.classes s.graph) (sym (quick_state_lem e.classes plain e.log))) ∙ quick_shown

-- Rules that show in no answer, or in few: no dependency crosses frames, a try is marked unsafe and not safe, a release takes the newest.
pub draws : map (λ (e : DrawnCase). (run 5 plain e.log).graph.locks e.from e.to EN) drawn_cases ≡ map (λ (e : DrawnCase). e.drawn) drawn_cases
unfolding drawn_cases drawn_case takes does says is_malformed count_below refusal dependency cyclic
draws = refl

pub marks_hold : map (λ (e : MarkCase). (run 4 plain e.log).graph.marks e.class e.level e.usage) mark_cases ≡ map (λ (e : MarkCase). e.set) mark_cases
unfolding mark_cases mark_case takes does says is_malformed count_below refusal dependency cyclic
marks_hold = refl

pub newest_released : release_newest 0 (lock_of 0 read ∷ lock_of 1 exclusive ∷ lock_of 0 recursive ∷ []) ≡ lock_of 0 read ∷ lock_of 1 exclusive ∷ []
newest_released = refl

-- Whatever its origin: whether the release fits is asked before (Verdict.antt).
pub try_released : release_newest 1 (lock_of 1 exclusive ∷ lock_of 1 try_exclusive ∷ []) ≡ lock_of 1 exclusive ∷ []
try_released = refl

-- The question is not the fault test: after P6, which is clean, class 0 reaches itself.
pub p6_asked : map (reaches 8 (graph_at 8 plain p6 1) 0) (0 ∷ 1 ∷ []) ≡ true ∷ false ∷ []
unfolding p6 takes says is_malformed count_below refusal dependency cyclic reaches
p6_asked = refl

-- Request e, over three classes.
pub numbers_hold
    : map (λ (e : NumberCase). let j = (run 3 plain e.log).journal in j.accepted ∷ j.seen e.from e.to ∷ []) number_cases
    ≡ map (λ (e : NumberCase). e.numbers) number_cases
unfolding number_cases number_case p2 takes frees does says is_malformed count_below refusal dependency cyclic
numbers_hold = refl

-- A state with so many records accepted.
abbrev with_accepted : ℕ → State → State
with_accepted n s =
    record { is_closed = s.is_closed; cores = s.cores; graph = s.graph; cross = s.cross; journal = record { accepted = n; seen = s.journal.seen } }

quick_limits : map (λ (e : LimitCase). answers 3 (with_accepted e.accepted (quick_state 3 plain e.before)) e.log) limit_cases
    ≡ map (λ (e : LimitCase). e.given) limit_cases
unfolding limit_cases limit_case takes frees does says is_malformed count_below refusal dependency cyclic
quick_limits = refl

pub limits_hold : map (λ (e : LimitCase). answers 3 (with_accepted e.accepted (run 3 plain e.before)) e.log) limit_cases
    ≡ map (λ (e : LimitCase). e.given) limit_cases
limits_hold = of_each limit_cases (λ e. ap (λ (s : State). answers 3 (with_accepted e.accepted s) e.log) (sym (quick_state_lem 3 plain e.before))) ∙ quick_limits

-- Request i.
abbrev join_given : (ℕ → State → List Bytes → State) → JoinCase → List ℕ
join_given runs e =
    let o = join 3 (runs 3 plain e.first) (runs 3 plain e.second) in
    number o.answer ∷ (runs 3 o.state e.after).journal.seen e.from e.to ∷ answers 3 o.state e.after

quick_joins : map (join_given quick_state) join_cases ≡ map (λ (e : JoinCase). e.answer ∷ e.number ∷ e.given) join_cases
unfolding join_cases join_case takes frees does says is_malformed count_below refusal dependency cyclic
quick_joins = refl

pub joins_hold : map (join_given run) join_cases ≡ map (λ (e : JoinCase). e.answer ∷ e.number ∷ e.given) join_cases
joins_hold = ap (λ (runs : ℕ → State → List Bytes → State). map (join_given runs) join_cases) (sym quick_runs) ∙ quick_joins
  where
    quick_runs : quick_state ≡ run
    quick_runs = fun_ext (λ K. fun_ext (λ s. fun_ext (λ rs. quick_state_lem K s rs)))
