-- Merges of the same records, by computation; and why kinds 10 to 12 and the second sheet are left out of the claim. Assumes nothing.
use mathlib.Core.Path.{◌≡◌, refl, sym, ◌∙◌}
use mathlib.Core.Bool.{Bool, true, false, false≢true}
use mathlib.Core.List.{List, [], ◌∷◌, map}
use Prim.Native.Nat.{ℕ, zero, suc}
use native.Mathlib.Omega.{arith}
use lib.Dec.{eqb}
use lib.ListN.{get_or}
use borrow.Author.Tests.{eqb-true}
use Rattle.rules.specs.Record.{Bytes, is_malformed}
use Rattle.rules.specs.Graph.{dependency}
use Rattle.rules.specs.Crosslocks.{count_below}
use Rattle.rules.specs.Decision.{cyclic}
use Rattle.rules.specs.Verdict.{refusal}
use Rattle.rules.specs.Run.{answers, run}
use Rattle.rules.specs.TwoRuns.{Never}
use Rattle.rules.specs.Examples.{plain, says, takes, frees, does, all_clean, ends_with, fault_at, example, Example, p2}
use Rattle.rules.specs.CrossExamples.{crossed, completion, cross_takes, commits}
use Rattle.rules.proofs.CrossLimits.{completion_faults}
use Rattle.merges.specs.Merge.{of_core, SameForEachCore, MergedAlike}
use Rattle.merges.specs.MergeExamples.{p2_late, numbered_early, numbered_late, merge_cases, completion_late}

pub merges_hold : map (λ (e : Example). answers 3 plain e.log) merge_cases ≡ map (λ (e : Example). e.given) merge_cases
unfolding merge_cases p2 p2_late numbered_early numbered_late example all_clean ends_with fault_at takes frees does says is_malformed count_below refusal dependency cyclic
merges_hold = refl

-- Lists that give cores 0 and 1 the same, and no other core a record.
of_two : (xs ys : List Bytes) → ((i : ℕ) → eqb i 0 ≡ true → eqb i 1 ≡ false → of_core i xs ≡ of_core i ys)
    → ((i : ℕ) → eqb i 0 ≡ false → eqb i 1 ≡ true → of_core i xs ≡ of_core i ys) → ((i : ℕ) → eqb i 0 ≡ false → eqb i 1 ≡ false → of_core i xs ≡ of_core i ys)
    → SameForEachCore xs ys
of_two xs ys zeroth first others = record { each = λ i. by i (eqb i 0) refl (eqb i 1) refl }
  where
    by : (i : ℕ) (a : Bool) → eqb i 0 ≡ a → (b : Bool) → eqb i 1 ≡ b → of_core i xs ≡ of_core i ys
    by i true e true f = let x = eqb-true i 0 e in let y = eqb-true i 1 f in absurd (omega arith)
    by i true e false f = zeroth i e f
    by i false e true f = first i e f
    by i false e false f = others i e f

-- These are merges of the same records.
pub p2_merged : SameForEachCore p2 p2_late
unfolding p2 p2_late takes frees says
p2_merged = of_two p2 p2_late (λ i e f. rw (e, f)) (λ i e f. rw (e, f)) (λ i e f. rw (e, f))

pub numbered_merged : SameForEachCore numbered_early numbered_late
unfolding numbered_early numbered_late takes says
numbered_merged = of_two numbered_early numbered_late (λ i e f. rw (e, f)) (λ i e f. rw (e, f)) (λ i e f. rw (e, f))

-- Their first-seen numbers differ.
pub numbers_differ : ((run 3 plain numbered_early).journal.seen 0 1 ≡ 2) × ((run 3 plain numbered_late).journal.seen 0 1 ≡ 3)
unfolding numbered_early numbered_late takes says is_malformed count_below refusal dependency cyclic
numbers_differ = (refl, refl)

-- ---- With crosslocks.

pub completion_merged : SameForEachCore completion completion_late
unfolding completion completion_late takes cross_takes commits says
completion_merged = of_two completion completion_late (λ i e f. rw (e, f)) (λ i e f. rw (e, f)) (λ i e f. rw (e, f))

pub late_is_clean : answers 4 crossed completion_late ≡ 0 ∷ 17 ∷ 0 ∷ 0 ∷ []
unfolding completion_late takes says cross_takes commits is_malformed count_below refusal dependency cyclic
late_is_clean = refl

closed_and_open : ((run 4 crossed completion).is_closed ≡ true) × ((run 4 crossed completion_late).is_closed ≡ false)
unfolding completion completion_late takes says cross_takes commits is_malformed count_below refusal dependency cyclic
closed_and_open = (refl, refl)

never_9 : (given : List ℕ) (a b c d : ℕ) → given ≡ a ∷ b ∷ c ∷ d ∷ [] → (a ≡ 9 → ⊥) → (b ≡ 9 → ⊥) → (c ≡ 9 → ⊥) → (d ≡ 9 → ⊥) → Never 9 given
never_9 given a b c d e na nb nc nd = rw e (record { never = by })
  where
    by : (i : ℕ) → get_or (a ∷ b ∷ c ∷ d ∷ []) i 0 ≡ 9 → ⊥
    by zero h = na h
    by (suc zero) h = nb h
    by (suc (suc zero)) h = nc h
    by (suc (suc (suc zero))) h = nd h
    by (suc (suc (suc (suc i)))) h = omega arith

-- The claim without the limit to ordinary kinds is refuted.
pub without_ordinary : ((xs ys : List Bytes) → SameForEachCore xs ys → Never 9 (answers 4 crossed xs) → Never 9 (answers 4 crossed ys)
    → MergedAlike (run 4 crossed xs) (run 4 crossed ys)) → ⊥
without_ordinary claim =
    let m = claim completion completion_late completion_merged
    (never_9 (answers 4 crossed completion) 0 0 0 1 completion_faults (λ h. omega arith) (λ h. omega arith) (λ h. omega arith) (λ h. omega arith))
    (never_9 (answers 4 crossed completion_late) 0 17 0 0 late_is_clean (λ h. omega arith) (λ h. omega arith) (λ h. omega arith) (λ h. omega arith)) in
    false≢true (sym closed_and_open.1 ∙ sym m.closed ∙ closed_and_open.0)
