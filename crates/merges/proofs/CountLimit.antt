-- Why no record may be answered 9: core 1 acquires a class twice, which is a fault, and core 0 has as many records as leave room for one of the two. Which of the
-- cores comes first then decides. Assumes nothing.
use mathlib.Core.Path.{◌≡◌, refl, sym, ◌∙◌, ap}
use mathlib.Core.Bool.{Bool, true, false, cond, and-false, false≢true}
use mathlib.Core.List.Memᴰ
use mathlib.Core.List.{List, [], ◌∷◌, ◌++◌, append-nil, Memᴰ}
use mathlib.Core.Logic.{⊎_elim}
use mathlib.Core.Option.{none}
use Prim.Native.Nat.{ℕ, zero, suc, ◌+◌, ◌≤◌, ◌<◌}
use native.Mathlib.Omega.{arith}
use lib.Dec.{eqb}
use lib.ListN.{replicate}
use borrow.Author.Tests.{eqb-true, lt-leb}
use Rattle.rules.specs.Limits.{max_accepted}
use Rattle.rules.specs.Record.{Bytes, core_of, event_of, is_malformed, is_cross}
use Rattle.rules.specs.HeldLocks.{fresh_core}
use Rattle.rules.specs.Marks.{set_in}
use Rattle.rules.specs.Graph.{empty_graph, dependency}
use Rattle.rules.specs.Crosslocks.{declaring, count_below}
use Rattle.rules.specs.Decision.{cyclic}
use Rattle.rules.specs.Verdict.{refusal}
use Rattle.rules.specs.Run.{State, situation, accept, decided, settled, step, run}
use Rattle.rules.specs.Examples.{plain, exclusive, says, takes, does, hard_on}
use Rattle.merges.specs.Merge.{of_core, SameForEachCore, Ordinary, MergedAlike}
use Rattle.merges.proofs.Merged.{stays_closed, empty_acyclic}

-- As opening leaves it, with so many records accepted.
abbrev counted : ℕ → State
counted n =
    record { is_closed = false; cores = λ i. fresh_core; graph = empty_graph; cross = declaring (λ c. false); journal = record { accepted = n; seen = λ f t. 0 } }

-- A hard on with nothing held changes the count only.
accept_on_lem : (n : ℕ) → accept (counted n) (does 0 hard_on) ≡ counted (suc n)
unfolding does says
accept_on_lem n =
    λ p. record {
      is_closed = false;
      cores = λ i. same i p;
      graph = record { locks = λ f t k. false; marks = λ c l u. and-false (set_in l u 0) p };
      cross = declaring (λ c. false);
      journal = record { accepted = suc n; seen = λ f t. 0 };
    }
  where
    same : (i : ℕ) → cond (eqb i 0) fresh_core fresh_core ≡ fresh_core
    same i = by (eqb i 0)
      where
        by : (b : Bool) → cond b fresh_core fresh_core ≡ fresh_core
        by true = refl
        by false = refl

not_refused : (n : ℕ) → n < max_accepted → refusal (situation 1 (counted n) (does 0 hard_on)) ≡ none
unfolding refusal does says is_malformed
not_refused n l = rw (lt-leb max_accepted n l)

step_on : (n : ℕ) → n < max_accepted → (step 1 (counted n) (does 0 hard_on)).state ≡ counted (suc n)
step_on n l =
    ap (λ x. (settled 1 (counted n) (does 0 hard_on) x).state) (not_refused n l)
    ∙ ap (λ (t : State). (decided (cyclic 1 t.graph) t).state) (accept_on_lem n)
    ∙ ap (λ (b : Bool). (decided b (counted (suc n))).state) (empty_acyclic 1)

ons : ℕ → List Bytes
ons n = replicate n (does 0 hard_on)

runs_on : (m n : ℕ) → m + n ≤ max_accepted → run 1 (counted n) (ons m) ≡ counted (m + n)
unfolding ons
runs_on zero n l = ap counted (omega arith)
runs_on (suc m) n l = ap (λ (t : State). run 1 t (ons m)) (step_on n (omega arith)) ∙ runs_on m (suc n) (omega arith) ∙ ap counted (omega arith)

run_append : (K : ℕ) (s : State) (xs ys : List Bytes) → run K s (xs ++ ys) ≡ run K (run K s xs) ys
run_append K s [] ys = refl
run_append K s (x ∷ xs) ys = run_append K (step K s x).state xs ys

-- ---- The two lists.

twice : List Bytes
twice = takes 1 0 exclusive ∷ takes 1 0 exclusive ∷ []

of_append : (i : ℕ) (xs ys : List Bytes) → of_core i (xs ++ ys) ≡ of_core i xs ++ of_core i ys
of_append i [] ys = refl
of_append i (x ∷ xs) ys = by (eqb i (core_of x)) (of_append i xs ys)
  where
    by : (b : Bool) → of_core i (xs ++ ys) ≡ of_core i xs ++ of_core i ys
        → cond b (x ∷ of_core i (xs ++ ys)) (of_core i (xs ++ ys)) ≡ cond b (x ∷ of_core i xs) (of_core i xs) ++ of_core i ys
    by true h = ap (λ (l : List Bytes). x ∷ l) h
    by false h = h

of_ons : (i n : ℕ) → eqb i 0 ≡ false → of_core i (ons n) ≡ []
unfolding ons does says
of_ons i zero e = refl
of_ons i (suc n) e = rw e (of_ons i n e)

of_twice : (i : ℕ) → eqb i 0 ≡ true → of_core i twice ≡ []
unfolding twice takes says
of_twice i e = rw (eqb-true i 0 e)

-- One of the two parts has nothing of a core.
either_way : (n : ℕ) → SameForEachCore (twice ++ ons n) (ons n ++ twice)
either_way n = record { each = λ i. of_append i twice (ons n) ∙ by i (eqb i 0) refl ∙ sym (of_append i (ons n) twice) }
  where
    by : (i : ℕ) (b : Bool) → eqb i 0 ≡ b → of_core i twice ++ of_core i (ons n) ≡ of_core i (ons n) ++ of_core i twice
    by i true e = rw (of_twice i e) (sym (append-nil (of_core i (ons n))))
    by i false e = rw (of_ons i n e) (append-nil (of_core i twice))

twice_ordinary : {r : Bytes} → Memᴰ r twice → is_cross (event_of r) ≡ false
unfolding twice takes says
twice_ordinary (Memᴰ.head e) = rw e
twice_ordinary (Memᴰ.tail (Memᴰ.head e)) = rw e
twice_ordinary (Memᴰ.tail (Memᴰ.tail m)) = absurd (Memᴰ.not-nil m)

ons_ordinary : (n : ℕ) {r : Bytes} → Memᴰ r (ons n) → is_cross (event_of r) ≡ false
unfolding ons does says
ons_ordinary zero m = absurd (Memᴰ.not-nil m)
ons_ordinary (suc n) (Memᴰ.head e) = rw e
ons_ordinary (suc n) (Memᴰ.tail m) = ons_ordinary n m

ordinary : (n : ℕ) → Ordinary (twice ++ ons n)
ordinary n = record { each = λ r m w. ⊎_elim twice_ordinary (ons_ordinary n) (Memᴰ.append_cases twice m) }

-- With core 1 first, a fault; with core 0 first, 9 instead.
first_closes : (run 1 plain twice).is_closed ≡ true
unfolding twice takes says is_malformed count_below refusal dependency cyclic
first_closes = refl

last_stays_open : (run 1 (counted 4294967294) twice).is_closed ≡ false
unfolding twice takes says is_malformed count_below refusal dependency cyclic
last_stays_open = refl

-- The claim without that limit is refuted.
pub without_9 : ((xs ys : List Bytes) → Ordinary xs → SameForEachCore xs ys → MergedAlike (run 1 plain xs) (run 1 plain ys)) → ⊥
without_9 claim =
    let n : ℕ = 4294967294 in
    let m = claim (twice ++ ons n) (ons n ++ twice) (ordinary n) (either_way n) in
    let one : (run 1 plain (twice ++ ons n)).is_closed ≡ true =
    ap (λ (t : State). t.is_closed) (run_append 1 plain twice (ons n)) ∙ stays_closed 1 (run 1 plain twice) (ons n) first_closes in
    let two : (run 1 plain (ons n ++ twice)).is_closed ≡ false =
    ap (λ (t : State). t.is_closed) (run_append 1 plain (ons n) twice) ∙ ap (λ (t : State). (run 1 t twice).is_closed) (runs_on n 0 (omega arith)) ∙ last_stays_open in
    false≢true (sym two ∙ sym m.closed ∙ one)
