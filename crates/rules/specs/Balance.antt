-- "For each frame and class, holds standing equal accepted takes less accepted releases since opening, counted from the log."
use Rattle.std.specs.Prelude.{◌≡◌, Bool, true, false, ◌&&◌, List, [], ◌∷◌, ℕ, suc, ◌+◌, eqb}
use Rattle.rules.specs.Record.{Bytes, Event, acquire, release, interrupt, cross_acquire, commit, cross_release, core_of, event_of}
use Rattle.rules.specs.Context.{Frame, frame_of}
use Rattle.rules.specs.HeldLocks.{HeldLock}
use Rattle.rules.specs.Verdict.{Answer, clean, fault, refused}
use Rattle.rules.specs.Run.{State, step, run}

abbrev pub acquires : ℕ → Event → Bool
acquires c (acquire x m) = eqb c x
acquires c (release x m) = false
acquires c (interrupt e) = false
acquires c (cross_acquire x) = false
acquires c (commit x) = false
acquires c (cross_release x) = false

abbrev pub releases : ℕ → Event → Bool
releases c (acquire x m) = false
releases c (release x m) = eqb c x
releases c (interrupt e) = false
releases c (cross_acquire x) = false
releases c (commit x) = false
releases c (cross_release x) = false

abbrev pub is_accepted : Answer → Bool
is_accepted clean = true
is_accepted fault = true
is_accepted (refused r) = false

abbrev pub count_if : Bool → ℕ → ℕ
count_if true n = suc n
count_if false n = n

-- The record says what is asked, of core i while it is in frame f.
abbrev pub concerns : ℕ → Frame → (Event → Bool) → State → Bytes → Bool
concerns i f says s r = eqb i (core_of r) && (eqb f (frame_of (s.cores i).state) && says (event_of r))

-- How many records of the list do so and are accepted.
abbrev pub tally : ℕ → ℕ → Frame → (Event → Bool) → State → List Bytes → ℕ
tally K i f says s [] = 0
tally K i f says s (r ∷ rs) =
    let o = step K s r in
    count_if (is_accepted o.answer && concerns i f says s r) (tally K i f says o.state rs)

-- How many of these held locks are of class c.
abbrev pub standing : ℕ → List HeldLock → ℕ
standing c [] = 0
standing c (h ∷ hs) = count_if (eqb c h.class) (standing c hs)

-- From a state in which no lock is held.
pub record Balance (K : ℕ) (s : State) (rs : List Bytes) (i : ℕ) (f : Frame) (c : ℕ) : Type 0 where
  pub balance : standing c (((run K s rs).cores i).held f) + tally K i f (releases c) s rs
      ≡ tally K i f (acquires c) s rs
