-- Why demand 3 needs that 19 is not met, from opening: 256 acquires of a core that the first list does not name fill the history, and the first list's fault is gone.
-- By an invariant, as the computation is too long. Assumes nothing.
use mathlib.Core.Path.{◌≡◌, refl, sym, ◌∙◌, ap}
use mathlib.Core.Bool.{Bool, true, false, cond, ◌&&◌, ◌||◌, and-false, false≢true}
use mathlib.Core.List.{List, [], ◌∷◌, ◌++◌}
use mathlib.Core.Logic.{⊎_elim}
use mathlib.Core.Option.{Option, none, some}
use Prim.Native.Nat.{ℕ, zero, suc, ◌+◌, ◌*◌, ◌<◌}
use native.Mathlib.Omega.{arith}
use lib.Dec.{eqb, leb}
use lib.ListN.{length, replicate, length-replicate, replicate-append-replicate}
use borrow.Author.Tests.{eqb-true, lt-leb}
use Rattle.rules.specs.Limits.{max_accepted, max_kept}
use Rattle.rules.specs.Record.{Bytes, is_malformed}
use Rattle.rules.specs.HeldLocks.{HeldLock, fresh_core, same_second, second_by}
use Rattle.rules.specs.Marks.{set_in, marks_of}
use Rattle.rules.specs.Graph.{Kind, Graph, dependency}
use Rattle.rules.specs.KindNames.{ER, EN, some_kind}
use Rattle.rules.specs.Crosslocks.{Kept, Crosslocks, count_below, with}
use Rattle.rules.specs.Decision.{cyclic}
use Rattle.rules.specs.Verdict.{Refusal, clean, number, refusal}
use Rattle.rules.specs.Run.{State, start, situation, drawn_with, accept, Result, decided, settled, step, answers}
use Rattle.rules.specs.Examples.{says, takes, frees}
use Rattle.rules.specs.CrossExamples.{cross_takes, commits, last, pairs_of, filled}
use Rattle.rules.proofs.Booleans.{or_cases, or_right}
use Rattle.rules.proofs.Monotone.{Within, within_self, within_more}

abbrev takes2 : Bytes
takes2 = 0x4C ∷ 0x4B ∷ 2 ∷ 0 ∷ 0 ∷ 0 ∷ []

abbrev frees2 : Bytes
frees2 = 0x4C ∷ 0x4B ∷ 2 ∷ 1 ∷ 0 ∷ 0 ∷ []

abbrev takes0 : Bytes
takes0 = 0x4C ∷ 0x4B ∷ 0 ∷ 0 ∷ 0 ∷ 0 ∷ []

abbrev cross_takes0 : Bytes
cross_takes0 = 0x4C ∷ 0x4B ∷ 0 ∷ 10 ∷ 1 ∷ 0 ∷ []

abbrev rest : List Bytes
rest = (0x4C ∷ 0x4B ∷ 1 ∷ 0 ∷ 0 ∷ 0 ∷ []) ∷ (0x4C ∷ 0x4B ∷ 1 ∷ 11 ∷ 1 ∷ 0 ∷ []) ∷ []

abbrev pairs : ℕ → List Bytes
pairs zero = rest
pairs (suc n) = takes2 ∷ frees2 ∷ pairs n

same_pairs : (n : ℕ) → pairs_of n ≡ pairs n
unfolding pairs_of takes frees commits says
same_pairs zero = refl
same_pairs (suc n) = ap (λ (rs : List Bytes). takes2 ∷ frees2 ∷ rs) (same_pairs n)

same_log : (n : ℕ) → filled n ≡ takes0 ∷ cross_takes0 ∷ pairs n
unfolding filled takes cross_takes says
same_log n = ap (λ (rs : List Bytes). takes0 ∷ cross_takes0 ∷ rs) (same_pairs n)

-- ---- The run. After core 0 holds 0 and waits for the crosslock, and after n pairs of core 2.

abbrev begun : State
begun = accept (accept (start last) takes0) cross_takes0

abbrev kept2 : Option Kept
kept2 = some (record { core = 2; frame = 0; class = 0; mode = 0 })

abbrev cross_after : ℕ → Crosslocks
cross_after n = record { declared = last; progress = with 1 (λ c. false); since = λ d. cond (eqb d 1) 0 0; history = replicate n kept2 }

abbrev after : ℕ → State
after n =
    record {
      is_closed = false;
      cores = begun.cores;
      graph = begun.graph;
      cross = cross_after n;
      journal = record { accepted = 2 + 2 * n; seen = begun.journal.seen };
    }

clean_step : (K : ℕ) (s : State) (r : Bytes) → refusal (situation K s r) ≡ none → cyclic K (accept s r).graph ≡ false
    → step K s r ≡ record { answer = clean; state = accept s r }
clean_step K s r e c = ap (λ (x : Option Refusal). settled K s r x) e ∙ ap (λ (b : Bool). decided b (accept s r)) c

room : (n : ℕ) → n < 256 → leb max_kept (length (replicate n kept2)) ≡ false
room n l = ap (leb max_kept) (length-replicate n kept2) ∙ lt-leb max_kept n l

take_accepted : (n : ℕ) → n < 256 → refusal (situation 2 (after n) takes2) ≡ none
unfolding refusal is_malformed count_below
take_accepted n l =
    let c : leb max_accepted (2 + 2 * n) ≡ false = lt-leb max_accepted (2 + 2 * n) (omega arith) in
    rw (room n l, c)

release_accepted : (n : ℕ) → n < 256 → refusal (situation 2 (accept (after n) takes2) frees2) ≡ none
unfolding refusal is_malformed count_below
release_accepted n l =
    let c : leb max_accepted (suc (2 + 2 * n)) ≡ false = lt-leb max_accepted (suc (2 + 2 * n)) (omega arith) in
    rw c

take_clean : (n : ℕ) → cyclic 2 (accept (after n) takes2).graph ≡ false
unfolding cyclic dependency
take_clean n = refl

release_clean : (n : ℕ) → cyclic 2 (accept (accept (after n) takes2) frees2).graph ≡ false
unfolding cyclic dependency
release_clean n = refl

-- The acquire draws nothing.
no_draw : (n f t : ℕ) (k : Kind) → drawn_with fresh_core (cross_after n) takes2 f t k ≡ false
no_draw n f t k = and-false (eqb t 0 && same_second k.second (second_by 0))

same_cores : (n i : ℕ) → (accept (accept (after n) takes2) frees2).cores i ≡ begun.cores i
same_cores n i = by (eqb i 2) refl
  where
    emptied : (b : Bool) (h : List HeldLock) → cond b [] (cond b h []) ≡ []
    emptied true h = refl
    emptied false h = refl

    by : (b : Bool) → eqb i 2 ≡ b
        → cond b ((accept (accept (after n) takes2) frees2).cores 2) (cond b ((accept (after n) takes2).cores 2) (begun.cores i)) ≡ begun.cores i
    by true e = rw (eqb-true i 2 e) (λ p. record { state = 0; held = λ f. emptied (eqb f 0) (record { class = 0; mode = 0 } ∷ []) p })
    by false e = refl

both_ways : (a b : Bool) → (a ≡ true → b ≡ true) → (b ≡ true → a ≡ true) → a ≡ b
both_ways true b f g = sym (f refl)
both_ways false true f g = g refl
both_ways false false f g = refl

within_both_ways : {g h : Graph} → Within g h → Within h g → g ≡ h
within_both_ways {g} {h} a b =
    λ p. record {
      locks = λ f t k. both_ways (g.locks f t k) (h.locks f t k) (a.locks f t k) (b.locks f t k) p;
      marks = λ c l u. both_ways (g.marks c l u) (h.marks c l u) (a.marks c l u) (b.marks c l u) p;
    }

same_graph : (n : ℕ) → (accept (accept (after n) takes2) frees2).graph ≡ begun.graph
same_graph n =
    within_both_ways
    (record {
      locks = λ f t k h.
          let drawn = drawn_with fresh_core (cross_after n) takes2 f t k in
          ⊎_elim (λ x. ⊎_elim (λ y. y) (λ y. absurd (false≢true (sym (no_draw n f t k) ∙ y))) (or_cases (begun.graph.locks f t k) drawn x))
          (λ x. absurd (false≢true x)) (or_cases (begun.graph.locks f t k || drawn) false h);
      marks = λ c l u h.
          ⊎_elim (λ x. ⊎_elim (λ y. y) (λ y. or_right (false || marks_of (begun.cores 0) c l u) y) (or_cases (begun.graph.marks c l u) _ x))
          (λ x. absurd (false≢true (sym (and-false (set_in l u 0)) ∙ x)))
          (or_cases (begun.graph.marks c l u || marks_of ((accept (after n) takes2).cores 2) c l u) _ h);
    })
    (within_more _ _ (within_more _ _ (within_self begun.graph)))

seen_kept : (z c c' : ℕ) (b : Bool) → b ≡ false → cond (eqb (cond (eqb z 0 && b) c z) 0 && false) c' (cond (eqb z 0 && b) c z) ≡ z
seen_kept z c c' b e =
    let q : cond (eqb z 0 && false) c z ≡ z = ap (λ (d : Bool). cond d c z) (and-false (eqb z 0)) in
    ap (λ (d : Bool). cond (eqb (cond (eqb z 0 && d) c z) 0 && false) c' (cond (eqb z 0 && d) c z)) e
    ∙ ap (λ (w : ℕ). cond (eqb w 0 && false) c' w) q ∙ ap (λ (d : Bool). cond d c' z) (and-false (eqb z 0))

same_seen : (n f t : ℕ) → (accept (accept (after n) takes2) frees2).journal.seen f t ≡ begun.journal.seen f t
same_seen n f t =
    seen_kept (begun.journal.seen f t) _ _ (some_kind (drawn_with fresh_core (cross_after n) takes2 f t))
    (rw (no_draw n f t ER, no_draw n f t EN))

pair_done : (n : ℕ) → accept (accept (after n) takes2) frees2 ≡ after (suc n)
unfolding count_below
pair_done n =
    let h : replicate n kept2 ++ (kept2 ∷ []) ≡ replicate (suc n) kept2 =
    replicate-append-replicate n 1 kept2 ∙ ap (λ (m : ℕ). replicate m kept2) (let q : n + 1 ≡ suc n = omega arith in q) in
    let c : suc (suc (2 + 2 * n)) ≡ 2 + 2 * suc n = omega arith in
    λ p. record {
      is_closed = false;
      cores = λ i. same_cores n i p;
      graph = same_graph n p;
      cross = record { declared = last; progress = with 1 (λ c. false); since = λ d. cond (eqb d 1) 0 0; history = h p };
      journal = record { accepted = c p; seen = λ f t. same_seen n f t p };
    }

-- Two zeros for each pair.
abbrev pub zeros : ℕ → List ℕ → List ℕ
zeros zero ns = ns
zeros (suc m) ns = 0 ∷ 0 ∷ zeros m ns

full_rest : answers 2 (after 256) rest ≡ 19 ∷ 0 ∷ []
unfolding refusal is_malformed cyclic dependency count_below
full_rest = refl

answers_pairs : (m n : ℕ) → n + m ≡ 256 → answers 2 (after n) (pairs m) ≡ zeros m (19 ∷ 0 ∷ [])
answers_pairs zero n e = ap (λ (k : ℕ). answers 2 (after k) rest) (let q : n ≡ 256 = omega arith in q) ∙ full_rest
answers_pairs (suc m) n e =
    let k : n < 256 = omega arith in
    let a = clean_step 2 (after n) takes2 (take_accepted n k) (take_clean n) in
    let b = clean_step 2 (accept (after n) takes2) frees2 (release_accepted n k) (release_clean n) in
    ap (λ (o : Result). number o.answer ∷ answers 2 o.state (frees2 ∷ pairs m)) a
    ∙ ap (λ (o : Result). 0 ∷ number o.answer ∷ answers 2 o.state (pairs m)) b
    ∙ ap (λ (s : State). 0 ∷ 0 ∷ answers 2 s (pairs m)) (pair_done n)
    ∙ ap (λ (ns : List ℕ). 0 ∷ 0 ∷ ns) (answers_pairs m (suc n) (omega arith))

first_step : step 2 (start last) takes0 ≡ record { answer = clean; state = accept (start last) takes0 }
unfolding refusal is_malformed cyclic dependency count_below
first_step = clean_step 2 (start last) takes0 refl refl

second_step : step 2 (accept (start last) takes0) cross_takes0 ≡ record { answer = clean; state = begun }
unfolding refusal is_malformed cyclic dependency count_below
second_step = clean_step 2 (accept (start last) takes0) cross_takes0 refl refl

begun_after : begun ≡ after 0
unfolding count_below
begun_after = refl

begins : (rs : List Bytes) → answers 2 (start last) (takes0 ∷ cross_takes0 ∷ rs) ≡ 0 ∷ 0 ∷ answers 2 (after 0) rs
begins rs =
    ap (λ (o : Result). number o.answer ∷ answers 2 o.state (cross_takes0 ∷ rs)) first_step
    ∙ ap (λ (o : Result). 0 ∷ number o.answer ∷ answers 2 o.state rs) second_step ∙ ap (λ (s : State). 0 ∷ 0 ∷ answers 2 s rs) begun_after

-- Without the added records the fourth is a fault.
pub unfilled_faults : answers 2 (start last) (filled 0) ≡ 0 ∷ 0 ∷ 0 ∷ 1 ∷ []
unfolding filled pairs_of takes cross_takes commits says refusal is_malformed cyclic dependency count_below
unfilled_faults = refl

-- With them there is none: the first list's acquire is refused with 19.
pub filled_clears : answers 2 (start last) (filled 256) ≡ zeros 257 (19 ∷ 0 ∷ [])
filled_clears =
    ap (answers 2 (start last)) (same_log 256) ∙ begins (pairs 256) ∙ ap (λ (ns : List ℕ). 0 ∷ 0 ∷ ns) (answers_pairs 256 0 refl)
