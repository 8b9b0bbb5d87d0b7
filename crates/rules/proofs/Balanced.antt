-- The balance law: each accepted acquire adds one held lock of its class to its frame, each accepted release takes one away, and nothing else
-- changes a frame. Assumes nothing.
use mathlib.Core.Path.{◌≡◌, refl, ap, ◌∙◌}
use mathlib.Core.Bool.{Bool, true, false, cond, ◌&&◌, ◌||◌, false≢true, or-true}
use mathlib.Core.List.{List, [], ◌∷◌, ◌++◌}
use mathlib.Core.Option.{none}
use Prim.Native.Nat.{ℕ, ◌+◌}
use native.Mathlib.Omega.{arith}
use lib.Dec.{eqb}
use borrow.Author.Tests.{eqb-true, not-false}
use Rattle.rules.specs.Record.{Bytes, Event, acquire, release, interrupt, cross_acquire, commit, cross_release, core_of, event_of}
use Rattle.rules.specs.Context.{Frame, frame_of}
use Rattle.rules.specs.HeldLocks.{HeldLock, is_held, newest_is, release_newest, Core, current, after_event}
use Rattle.rules.specs.Verdict.{not_held, refusal, release_missing}
use Rattle.rules.specs.Run.{State, situation, accept, Result, step, run}
use Rattle.rules.specs.Balance.{acquires, releases, is_accepted, count_if, concerns, tally, standing, Balance}
use Rattle.rules.proofs.Booleans.{and_cases}
use Rattle.rules.proofs.Steps.{StepCases, was_refused, was_clean, was_fault, stepped, accepted_passes}

pub count_add : (b : Bool) (n : ℕ) → count_if b n ≡ count_if b 0 + n
count_add true n = omega arith
count_add false n = omega arith

standing_append : (c : ℕ) (hs : List HeldLock) (h : HeldLock) → standing c (hs ++ (h ∷ [])) ≡ standing c hs + count_if (eqb c h.class) 0
standing_append c [] h = omega arith
standing_append c (x ∷ hs) h =
    let ih = standing_append c hs h in
    let p = count_add (eqb c x.class) (standing c hs) in
    let q = count_add (eqb c x.class) (standing c (hs ++ (h ∷ []))) in
    omega arith

standing_release : (c x : ℕ) (hs : List HeldLock) → is_held x hs ≡ true
    → standing c (release_newest x hs) + count_if (eqb c x) 0 ≡ standing c hs
standing_release c x [] h = absurd (false≢true h)
standing_release c x (y ∷ hs) h = by (is_held x hs) refl (eqb x y.class) refl (standing_release c x hs)
  where
    by : (later : Bool) → is_held x hs ≡ later → (here : Bool) → eqb x y.class ≡ here
        → (is_held x hs ≡ true → standing c (release_newest x hs) + count_if (eqb c x) 0 ≡ standing c hs)
        → standing c (release_newest x (y ∷ hs)) + count_if (eqb c x) 0 ≡ standing c (y ∷ hs)
    by true e here q ih =
        let k = ih e in
        let p = count_add (eqb c y.class) (standing c hs) in
        let r = count_add (eqb c y.class) (standing c (release_newest x hs)) in
        rw e (omega arith)
    by false e true q ih =
        let p = count_add (eqb c y.class) (standing c hs) in
        let k = eqb-true x y.class q in
        rw (e, q, k) (omega arith)
    by false e false q ih = absurd (false≢true (rw (e, q) at h))

-- A release that fits finds a lock of its class.
pub newest_held : (c m : ℕ) (hs : List HeldLock) → newest_is c m hs ≡ true → is_held c hs ≡ true
newest_held c m [] h = h
newest_held c m (y ∷ hs) h = by (is_held c hs) _ h
  where
    by : (later fits : Bool) → cond later (newest_is c m hs) (eqb c y.class && fits) ≡ true → ((eqb c y.class && true) || later) ≡ true
    by true fits e = or-true (eqb c y.class && true)
    by false fits e = rw (and_cases (eqb c y.class) fits e).0 refl

-- A core, frame by frame, over one accepted event.
core_balance : (c : ℕ) (f : Frame) (core : Core) (ev : Event) → release_missing core ev ≡ false
    → standing c ((after_event ev core).held f) + count_if (eqb f (frame_of core.state) && releases c ev) 0
    ≡ standing c (core.held f) + count_if (eqb f (frame_of core.state) && acquires c ev) 0
core_balance c f core (interrupt e) m = refl
core_balance c f core (cross_acquire x) m = refl
core_balance c f core (commit x) m = refl
core_balance c f core (cross_release x) m = refl
core_balance c f core (acquire x mode) m = by (eqb f (frame_of core.state)) refl
  where
    by : (b : Bool) → eqb f (frame_of core.state) ≡ b
        → standing c (cond b (current core ++ (record { class = x; mode = mode } ∷ [])) (core.held f)) + count_if (b && false) 0
        ≡ standing c (core.held f) + count_if (b && eqb c x) 0
    by true e = rw (eqb-true f (frame_of core.state) e) (let p = standing_append c (current core) (record { class = x; mode = mode }) in omega arith)
    by false e = refl
core_balance c f core (release x mode) m = by (eqb f (frame_of core.state)) refl
  where
    by : (b : Bool) → eqb f (frame_of core.state) ≡ b
        → standing c (cond b (release_newest x (current core)) (core.held f)) + count_if (b && eqb c x) 0
        ≡ standing c (core.held f) + count_if (b && false) 0
    by true e =
        rw (eqb-true f (frame_of core.state) e)
        (let p = standing_release c x (current core) (newest_held x mode (current core) (not-false (newest_is x mode (current core)) m)) in omega arith)
    by false e = refl

module _ (K : ℕ) (i : ℕ) (f : Frame) (c : ℕ) where
  accept_balance : (s : State) (r : Bytes) → refusal (situation K s r) ≡ none
      → standing c (((accept s r).cores i).held f) + count_if (concerns i f (releases c) s r) 0
      ≡ standing c ((s.cores i).held f) + count_if (concerns i f (acquires c) s r) 0
  accept_balance s r h = by (eqb i (core_of r)) refl
    where
      by : (b : Bool) → eqb i (core_of r) ≡ b
          → standing c ((cond b (after_event (event_of r) (s.cores (core_of r))) (s.cores i)).held f)
          + count_if (b && (eqb f (frame_of (s.cores i).state) && releases c (event_of r))) 0
          ≡ standing c ((s.cores i).held f) + count_if (b && (eqb f (frame_of (s.cores i).state) && acquires c (event_of r))) 0
      by true e =
          rw (eqb-true i (core_of r) e) (core_balance c f (s.cores (core_of r)) (event_of r) (accepted_passes (situation K s r) not_held h))
      by false e = refl

  step_balance : {s : State} {r : Bytes} {o : Result} → StepCases K s r o
      → standing c ((o.state.cores i).held f) + count_if (is_accepted o.answer && concerns i f (releases c) s r) 0
      ≡ standing c ((s.cores i).held f) + count_if (is_accepted o.answer && concerns i f (acquires c) s r) 0
  step_balance (was_refused x e) = refl
  step_balance {s} {r} (was_clean e q) = accept_balance s r e
  step_balance {s} {r} (was_fault e q) = accept_balance s r e

  run_balance : (s : State) (rs : List Bytes)
      → standing c (((run K s rs).cores i).held f) + tally K i f (releases c) s rs ≡ standing c ((s.cores i).held f) + tally K i f (acquires c) s rs
  run_balance s [] = refl
  run_balance s (r ∷ rs) =
      let o = step K s r in
      let h = step_balance (stepped K s r) in
      let ih = run_balance o.state rs in
      let p = count_add (is_accepted o.answer && concerns i f (releases c) s r) (tally K i f (releases c) o.state rs) in
      let q = count_add (is_accepted o.answer && concerns i f (acquires c) s r) (tally K i f (acquires c) o.state rs) in
      omega arith

pub balanced : (K : ℕ) (s : State) → ((i : ℕ) (f : Frame) → (s.cores i).held f ≡ []) → (rs : List Bytes) (i : ℕ) (f : Frame) (c : ℕ) → Balance K s rs i f c
balanced K s fresh rs i f c =
    let e : standing c ((s.cores i).held f) ≡ 0 = ap (standing c) (fresh i f) in
    record { balance = run_balance K i f c s rs ∙ (omega arith) }
