-- The logs of specs/RuleExamples.antt hold, by computation, and which rule each breaks. Assumes nothing.
use mathlib.Core.Path.{◌≡◌, refl, sym, ◌∙◌}
use mathlib.Core.Bool.{Bool, true, false, ◌&&◌, ◌||◌, false≢true}
use mathlib.Core.List.Memᴰ
use mathlib.Core.List.{List, [], ◌∷◌, map, Memᴰ}
use mathlib.Core.Logic.{inl, ⊎_elim}
use Prim.Native.Nat.{ℕ, ◌<◌}
use native.Mathlib.Omega.{arith}
use lib.ListN.{get_or}
use Rattle.rules.specs.Record.{Bytes, event_of, is_malformed}
use Rattle.rules.specs.Marks.{hard_irq, soft_irq}
use Rattle.rules.specs.Graph.{dependency}
use Rattle.rules.specs.KindNames.{EN}
use Rattle.rules.specs.Crosslocks.{count_below}
use Rattle.rules.specs.Decision.{cyclic}
use Rattle.rules.specs.Verdict.{refusal}
use Rattle.rules.specs.Run.{answers, run, graph_at}
use Rattle.rules.specs.Examples.{plain, says, takes, frees, does, all_clean, ends_with, fault_at, example, Example, p2}
use Rattle.rules.proofs.Booleans.{or_cases, and_cases}
use Rattle.usage.specs.UsageRules.{LockDependency, one, more, Broken, circle, both, path, is_exclusive, ExclusiveLog}
use Rattle.usage.specs.RuleExamples.{hard_both, soft_both, hard_path, soft_path, two_levels, rule_cases}
use Rattle.usage.proofs.ExclusiveRuns.{rules_exactly}

pub rules_hold : map (λ (e : Example). answers 3 plain e.log) rule_cases ≡ map (λ (e : Example). e.given) rule_cases
unfolding rule_cases p2 hard_both soft_both hard_path soft_path two_levels example all_clean ends_with fault_at takes frees does says is_malformed count_below refusal dependency cyclic
rules_hold = refl

-- A lock dependency of a log over three classes.
link : (rs : List Bytes) (f t : ℕ) → f < 3 → t < 3 → (run 3 plain rs).graph.locks f t EN ≡ true → LockDependency 3 (run 3 plain rs).graph f t
link rs f t l m h = record { from_class = l; to_class = m; drawn = h }

pub p2_circle : Broken 3 (run 3 plain p2).graph
unfolding p2 takes frees says is_malformed count_below refusal dependency cyclic
p2_circle = circle (more (link p2 1 2 (omega arith) (omega arith) refl) (one (link p2 2 1 (omega arith) (omega arith) refl)))

pub hard_both_lem : Broken 3 (run 3 plain hard_both).graph
unfolding hard_both takes frees does says is_malformed count_below refusal dependency cyclic
hard_both_lem = both {l = hard_irq} {c = 2} (omega arith) (record { marked = refl }) (record { marked = refl })

pub soft_both_lem : Broken 3 (run 3 plain soft_both).graph
unfolding soft_both takes frees does says is_malformed count_below refusal dependency cyclic
soft_both_lem = both {l = soft_irq} {c = 2} (omega arith) (record { marked = refl }) (record { marked = refl })

pub hard_path_lem : Broken 3 (run 3 plain hard_path).graph
unfolding hard_path takes frees does says is_malformed count_below refusal dependency cyclic
hard_path_lem =
    path {l = hard_irq} {f = 0} {t = 2} (record { marked = refl })
    (more (link hard_path 0 1 (omega arith) (omega arith) refl) (one (link hard_path 1 2 (omega arith) (omega arith) refl))) (record { marked = refl })

pub soft_path_lem : Broken 3 (run 3 plain soft_path).graph
unfolding soft_path takes frees does says is_malformed count_below refusal dependency cyclic
soft_path_lem = path {l = soft_irq} {f = 0} {t = 1} (record { marked = refl }) (one (link soft_path 0 1 (omega arith) (omega arith) refl)) (record { marked = refl })

-- ---- A log that breaks none, though a soft-safe class leads to a hard-unsafe one.

abbrev all_exclusive : List Bytes → Bool
all_exclusive [] = true
all_exclusive (r ∷ rs) = (is_malformed r || is_exclusive (event_of r)) && all_exclusive rs

exclusive_log : (rs : List Bytes) → all_exclusive rs ≡ true → ExclusiveLog rs
exclusive_log rs h = record { each = λ r m w. by rs h r m w }
  where
    by : (rs : List Bytes) → all_exclusive rs ≡ true → (r : Bytes) → Memᴰ r rs → is_malformed r ≡ false → is_exclusive (event_of r) ≡ true
    by [] h r m w = absurd (Memᴰ.not-nil m)
    by (x ∷ rs) h r (Memᴰ.head e) w =
        let p = (and_cases (is_malformed x || is_exclusive (event_of x)) (all_exclusive rs) h).0 in
        rw e (⊎_elim (λ y. absurd (false≢true (sym (rw e at w) ∙ y))) (λ y. y) (or_cases (is_malformed x) (is_exclusive (event_of x)) p))
    by (x ∷ rs) h r (Memᴰ.tail m) w = by rs (and_cases (is_malformed x || is_exclusive (event_of x)) (all_exclusive rs) h).1 r m w

last_clean : get_or (answers 3 plain two_levels) 6 0 ≡ 0
unfolding two_levels takes frees does says is_malformed count_below refusal dependency cyclic
last_clean = refl

two_exclusive : all_exclusive two_levels ≡ true
unfolding two_levels takes frees does says is_malformed
two_exclusive = refl

pub two_levels_break_none : Broken 3 (graph_at 3 plain two_levels 6) → ⊥
unfolding two_levels
two_levels_break_none b =
    let f = (rules_exactly 3 (λ c. false) two_levels 6 (exclusive_log two_levels two_exclusive) (omega arith) (inl last_clean)).1 b in
    let z = last_clean in
    omega arith
