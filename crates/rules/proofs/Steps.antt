-- A single run: what a step comes to, what closes the validator, what a closed one answers. Assumes nothing.
use mathlib.Core.Path.{◌≡◌, refl, sym, ◌∙◌, ap}
use mathlib.Core.Bool.{Bool, true, false, false≢true}
use mathlib.Core.List.Memᴰ
use mathlib.Core.List.{List, [], ◌∷◌, Memᴰ}
use mathlib.Core.Logic.{◌⊎◌, inl, inr, ◌↔◌}
use mathlib.Core.Option.{Option, none, some}
use Prim.Native.Nat.{ℕ, zero, suc, ◌<◌, zero-le, suc-le-suc}
use native.Mathlib.Nat.{le_of_suc-le-suc, not-suc-le-zero}
use native.Mathlib.Omega.{arith}
use lib.ListN.{length, get_or, take, replicate, get_or-replicate}
use Rattle.rules.specs.Record.{Bytes}
use Rattle.rules.specs.StrongPath.{ClosedStrongPath}
use Rattle.rules.specs.Decision.{cyclic}
use Rattle.rules.specs.Verdict.{Refusal, closed, malformed, no_class, wrong_sort, no_transition, still_held, not_held, too_deep, in_progress, not_in_progress, list_full, history_full, count_full, clean, fault, refused, refusal_number, number, order, Situation, applies, first_that_applies, refusal}
use Rattle.rules.specs.Run.{State, situation, accept, close, Result, settled, step, answers, run, graph_at}
use Rattle.rules.specs.TwoRuns.{FaultBy}
use Rattle.rules.proofs.Decided.{cyclic_sound, cyclic_complete}

-- The three things that a step can come to.
pub data StepCases (K : ℕ) (s : State) (r : Bytes) : Result → Type 0 where
  was_refused : (x : Refusal) → refusal (situation K s r) ≡ some x → StepCases K s r (record { answer = refused x; state = s })
  was_clean : refusal (situation K s r) ≡ none → cyclic K (accept s r).graph ≡ false → StepCases K s r (record { answer = clean; state = accept s r })
  was_fault : refusal (situation K s r) ≡ none → cyclic K (accept s r).graph ≡ true
      → StepCases K s r (record { answer = fault; state = close (accept s r) })

pub stepped : (K : ℕ) (s : State) (r : Bytes) → StepCases K s r (step K s r)
stepped K s r = by (refusal (situation K s r)) refl (cyclic K (accept s r).graph) refl
  where
    by : (x : Option Refusal) → refusal (situation K s r) ≡ x → (b : Bool) → cyclic K (accept s r).graph ≡ b → StepCases K s r (settled K s r x)
    by (some x) e b c = was_refused x e
    by none e true c = rw c (was_fault e c)
    by none e false c = rw c (was_clean e c)

-- The number of a refusal is neither 0 nor 1.
pub refused_number : (x : Refusal) → 1 < refusal_number x
refused_number closed = omega arith
refused_number malformed = omega arith
refused_number no_class = omega arith
refused_number wrong_sort = omega arith
refused_number no_transition = omega arith
refused_number still_held = omega arith
refused_number not_held = omega arith
refused_number too_deep = omega arith
refused_number in_progress = omega arith
refused_number not_in_progress = omega arith
refused_number list_full = omega arith
refused_number history_full = omega arith
refused_number count_full = omega arith

-- A fault closes the validator, and the graph then has a cycle.
pub record Faulted (K : ℕ) (o : Result) : Type 0 where
  pub shut : o.state.is_closed ≡ true
  pub cycle : cyclic K o.state.graph ≡ true

faulted_by : {K : ℕ} {s : State} {r : Bytes} {o : Result} → StepCases K s r o → number o.answer ≡ 1 → Faulted K o
faulted_by (was_refused x e) h = absurd (let n = refused_number x in omega arith)
faulted_by (was_clean e c) h = absurd (omega arith)
faulted_by (was_fault e c) h = record { shut = refl; cycle = c }

pub faulted : (K : ℕ) (s : State) (r : Bytes) → number (step K s r).answer ≡ 1 → Faulted K (step K s r)
faulted K s r h = faulted_by (stepped K s r) h

-- A closed validator refuses every record with 10 and stays as it is.
pub closed_step : (K : ℕ) (s : State) (r : Bytes) → s.is_closed ≡ true → step K s r ≡ record { answer = refused closed; state = s }
unfolding refusal
closed_step K s r h = rw h

pub closed_answers : (K : ℕ) (s : State) (rs : List Bytes) → s.is_closed ≡ true → answers K s rs ≡ replicate (length rs) 10
closed_answers K s [] h = refl
closed_answers K s (r ∷ rs) h =
    ap {B = List ℕ} (λ (o : Result). number o.answer ∷ answers K o.state rs) (closed_step K s r h)
    ∙ ap {B = List ℕ} (λ (l : List ℕ). 10 ∷ l) (closed_answers K s rs h)

no_fault_in : (n j : ℕ) → get_or (replicate {A = ℕ} n 10) j 0 ≡ 1 → ⊥
no_fault_in zero j h = omega arith
no_fault_in (suc n) zero h = omega arith
no_fault_in (suc n) (suc j) h = no_fault_in n j h

pub closed_no_fault : (K : ℕ) (s : State) (rs : List Bytes) (j : ℕ) → s.is_closed ≡ true → get_or (answers K s rs) j 0 ≡ 1 → ⊥
closed_no_fault K s rs j c h = no_fault_in (length rs) j (rw (closed_answers K s rs c) at h)

-- ---- Demand 1: a refusal changes nothing; an open validator is closed by its first fault and by nothing else.

refused_by : {K : ℕ} {s : State} {r : Bytes} {o : Result} (x : Refusal) → StepCases K s r o → o.answer ≡ refused x → o.state ≡ s
refused_by x (was_refused y e) h = refl
refused_by x (was_clean e c) h = let z : ◌≡◌ {A = ℕ} 0 1 = cc in absurd (omega arith)
refused_by x (was_fault e c) h = let z : ◌≡◌ {A = ℕ} 0 1 = cc in absurd (omega arith)

pub refusal_changes_nothing : (K : ℕ) (s : State) (r : Bytes) (x : Refusal) → (step K s r).answer ≡ refused x → (step K s r).state ≡ s
refusal_changes_nothing K s r x h = refused_by x (stepped K s r) h

step_closes : {K : ℕ} {s : State} {r : Bytes} {o : Result} → StepCases K s r o → s.is_closed ≡ false → o.state.is_closed ≡ true
    → number o.answer ≡ 1
step_closes (was_refused x e) h c = absurd (false≢true (sym h ∙ c))
step_closes (was_clean e q) h c = absurd (false≢true (sym h ∙ c))
step_closes (was_fault e q) h c = refl

closed_run : (K : ℕ) (s : State) (rs : List Bytes) → s.is_closed ≡ true → run K s rs ≡ s
closed_run K s [] h = refl
closed_run K s (r ∷ rs) h = ap (λ (o : Result). run K o.state rs) (closed_step K s r h) ∙ closed_run K s rs h

pub run_closed_by_fault : (K : ℕ) (s : State) (rs : List Bytes) → s.is_closed ≡ false → (run K s rs).is_closed ≡ true
    → FaultBy (answers K s rs) (length rs)
run_closed_by_fault K s [] h c = absurd (false≢true (sym h ∙ c))
run_closed_by_fault K s (r ∷ rs) h c = by (step K s r).state.is_closed refl (run_closed_by_fault K (step K s r).state rs)
  where
    by : (b : Bool) → (step K s r).state.is_closed ≡ b
        → ((step K s r).state.is_closed ≡ false → (run K (step K s r).state rs).is_closed ≡ true → FaultBy (answers K (step K s r).state rs) (length rs))
        → FaultBy (answers K s (r ∷ rs)) (suc (length rs))
    by true e ih = record { at = 0; by = zero-le; is_fault = step_closes (stepped K s r) h e }
    by false e ih = let f = ih e c in record { at = suc f.at; by = suc-le-suc f.by; is_fault = f.is_fault }

fault_closes : (K : ℕ) (s : State) (rs : List Bytes) (i : ℕ) → get_or (answers K s rs) i 0 ≡ 1 → (run K s rs).is_closed ≡ true
fault_closes K s [] i h = absurd (omega arith)
fault_closes K s (r ∷ rs) zero h =
    let c = (faulted K s r h).shut in
    ap (λ (t : State). t.is_closed) (closed_run K (step K s r).state rs c) ∙ c
fault_closes K s (r ∷ rs) (suc i) h = fault_closes K (step K s r).state rs i h

pub closed_exactly : (K : ℕ) (s : State) (rs : List Bytes) → s.is_closed ≡ false
    → (run K s rs).is_closed ≡ true ↔ FaultBy (answers K s rs) (length rs)
closed_exactly K s rs h = (run_closed_by_fault K s rs h, λ f. fault_closes K s rs f.at f.is_fault)

-- After a fault every record gets 10.
pub shut_after : (K : ℕ) (s : State) (rs : List Bytes) (i j : ℕ) → i < j → j < length rs → get_or (answers K s rs) i 0 ≡ 1
    → get_or (answers K s rs) j 0 ≡ 10
shut_after K s [] i j l m h = absurd (not-suc-le-zero m)
shut_after K s (r ∷ rs) i zero l m h = absurd (not-suc-le-zero l)
shut_after K s (r ∷ rs) zero (suc j) l m h =
    let o = step K s r in
    rw (closed_answers K o.state rs (faulted K s r h).shut) (get_or-replicate (length rs) j 10 0 (le_of_suc-le-suc m))
shut_after K s (r ∷ rs) (suc i) (suc j) l m h =
    shut_after K (step K s r).state rs i j (le_of_suc-le-suc l) (le_of_suc-le-suc m) h

-- A fault comes only with a cycle in the graph of the records up to it.
pub fault_cycle : (K : ℕ) (s : State) (rs : List Bytes) (j : ℕ) → get_or (answers K s rs) j 0 ≡ 1
    → cyclic K (run K s (take (suc j) rs)).graph ≡ true
fault_cycle K s [] j h = absurd (omega arith)
fault_cycle K s (r ∷ rs) zero h = (faulted K s r h).cycle
fault_cycle K s (r ∷ rs) (suc j) h = fault_cycle K (step K s r).state rs j h

-- ---- Demand 2: of an accepted record the answer is a fault exactly when the graph then has a closed strong path.

clean_by : {K : ℕ} {s : State} {r : Bytes} {o : Result} → StepCases K s r o → number o.answer ≡ 0 → cyclic K o.state.graph ≡ false
clean_by (was_refused x e) h = absurd (let n = refused_number x in omega arith)
clean_by (was_clean e c) h = c
clean_by (was_fault e c) h = absurd (omega arith)

-- Of one record, in any state.
pub step_exactly : (K : ℕ) (s : State) (r : Bytes) → (number (step K s r).answer ≡ 0) ⊎ (number (step K s r).answer ≡ 1)
    → (number (step K s r).answer ≡ 1) ↔ ClosedStrongPath K (step K s r).state.graph
step_exactly K s r (inl z) =
    let none_there = clean_by (stepped K s r) z in
    (λ h. absurd (omega arith), λ p. absurd (false≢true (sym none_there ∙ cyclic_complete K (step K s r).state.graph p)))
step_exactly K s r (inr z) = (λ h. cyclic_sound K (step K s r).state.graph (faulted K s r h).cycle, λ p. z)

clean_acyclic : (K : ℕ) (s : State) (rs : List Bytes) (j : ℕ) → j < length rs → get_or (answers K s rs) j 0 ≡ 0
    → cyclic K (run K s (take (suc j) rs)).graph ≡ false
clean_acyclic K s [] j l h = absurd (not-suc-le-zero l)
clean_acyclic K s (r ∷ rs) zero l h = clean_by (stepped K s r) h
clean_acyclic K s (r ∷ rs) (suc j) l h = clean_acyclic K (step K s r).state rs j (le_of_suc-le-suc l) h

pub fault_exactly : (K : ℕ) (s : State) (rs : List Bytes) (i : ℕ) → i < length rs
    → (get_or (answers K s rs) i 0 ≡ 0) ⊎ (get_or (answers K s rs) i 0 ≡ 1)
    → (get_or (answers K s rs) i 0 ≡ 1) ↔ ClosedStrongPath K (graph_at K s rs i)
fault_exactly K s rs i l (inl z) =
    let none_there = clean_acyclic K s rs i l z in
    (λ h. absurd (omega arith), λ p. absurd (false≢true (sym none_there ∙ cyclic_complete K (graph_at K s rs i) p)))
fault_exactly K s rs i l (inr z) = (λ h. cyclic_sound K (graph_at K s rs i) (fault_cycle K s rs i h), λ p. z)

-- ---- What an accepted record has passed.

in_order : (x : Refusal) → Memᴰ x order
in_order closed = Memᴰ.head refl
in_order malformed = search (Memᴰ.head, Memᴰ.tail) depth 15
in_order no_class = search (Memᴰ.head, Memᴰ.tail) depth 15
in_order wrong_sort = search (Memᴰ.head, Memᴰ.tail) depth 15
in_order no_transition = search (Memᴰ.head, Memᴰ.tail) depth 15
in_order still_held = search (Memᴰ.head, Memᴰ.tail) depth 15
in_order not_held = search (Memᴰ.head, Memᴰ.tail) depth 15
in_order too_deep = search (Memᴰ.head, Memᴰ.tail) depth 15
in_order in_progress = search (Memᴰ.head, Memᴰ.tail) depth 15
in_order not_in_progress = search (Memᴰ.head, Memᴰ.tail) depth 15
in_order list_full = search (Memᴰ.head, Memᴰ.tail) depth 15
in_order history_full = search (Memᴰ.head, Memᴰ.tail) depth 15
in_order count_full = search (Memᴰ.head, Memᴰ.tail) depth 15

none_applies : (rs : List Refusal) (s : Situation) (x : Refusal) → first_that_applies rs s ≡ none → Memᴰ x rs → applies x s ≡ false
none_applies (y ∷ rs) s x h m = by (applies y s) refl (Memᴰ.cases_cons m) (none_applies rs s x)
  where
    by : (b : Bool) → applies y s ≡ b → (x ≡ y) ⊎ Memᴰ x rs
        → (first_that_applies rs s ≡ none → Memᴰ x rs → applies x s ≡ false) → applies x s ≡ false
    by true e q ih = let z : ◌≡◌ {A = Option Refusal} (some y) none = rw e at h in cc
    by false e (inl q) ih = rw q e
    by false e (inr m') ih = ih (rw e at h) m'
none_applies [] s x h m = absurd (Memᴰ.not-nil m)

-- No refusal applies to an accepted record.
pub accepted_passes : (s : Situation) (x : Refusal) → refusal s ≡ none → applies x s ≡ false
unfolding refusal
accepted_passes s x h = none_applies order s x h (in_order x)

-- ---- Two situations that differ only in how full something is.

-- They agree on every refusal that is no limit, and a limit that the first meets the second meets.
pub record Alike (is_limit : Refusal → Bool) (s₁ s₂ : Situation) : Type 0 where
  pub same : (x : Refusal) → is_limit x ≡ false → applies x s₁ ≡ applies x s₂
  pub fuller : (x : Refusal) → is_limit x ≡ true → applies x s₁ ≡ true → applies x s₂ ≡ true

first_alike : (is_limit : Refusal → Bool) (rs : List Refusal) {s₁ s₂ : Situation} → Alike is_limit s₁ s₂
    → ((y : Refusal) → is_limit y ≡ true → first_that_applies rs s₂ ≡ some y → ⊥) → first_that_applies rs s₂ ≡ first_that_applies rs s₁
first_alike is_limit [] a room = refl
first_alike is_limit (y ∷ rs) {s₁} {s₂} a room = by (is_limit y) refl (applies y s₁) refl (applies y s₂) refl (first_alike is_limit rs a)
  where
    by : (l : Bool) → is_limit y ≡ l → (b₁ : Bool) → applies y s₁ ≡ b₁ → (b₂ : Bool) → applies y s₂ ≡ b₂
        → (((z : Refusal) → is_limit z ≡ true → first_that_applies rs s₂ ≡ some z → ⊥) → first_that_applies rs s₂ ≡ first_that_applies rs s₁)
        → first_that_applies (y ∷ rs) s₂ ≡ first_that_applies (y ∷ rs) s₁
    by l q true e₁ true e₂ ih = rw (e₁, e₂)
    by l q false e₁ false e₂ ih = rw (e₁, e₂) (ih (λ z lz h. room z lz (rw e₂ h)))
    by false q true e₁ false e₂ ih = absurd (false≢true (sym e₂ ∙ sym (a.same y q) ∙ e₁))
    by false q false e₁ true e₂ ih = absurd (false≢true (sym e₁ ∙ a.same y q ∙ e₂))
    by true q true e₁ false e₂ ih = absurd (false≢true (sym e₂ ∙ a.fuller y q e₁))
    by true q false e₁ true e₂ ih = absurd (room y q (rw e₂))

-- They are refused alike, or the second meets a limit.
pub refused_alike : (is_limit : Refusal → Bool) {s₁ s₂ : Situation} → Alike is_limit s₁ s₂
    → ((y : Refusal) → is_limit y ≡ true → refusal s₂ ≡ some y → ⊥) → refusal s₂ ≡ refusal s₁
unfolding refusal
refused_alike is_limit a room = first_alike is_limit order a room
