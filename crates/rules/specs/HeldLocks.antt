-- Held locks ("holds"): what an acquire and a release do to a core.
use Rattle.std.specs.Prelude.{Bool, true, false, cond, ◌&&◌, ◌||◌, List, [], ◌∷◌, ◌++◌, ℕ, zero, suc, ◌%◌, leb, eqb}
use Rattle.rules.specs.Limits.{held_modes}
use Rattle.rules.specs.Record.{Event, acquire, release, interrupt, cross_acquire, commit, cross_release}
use Rattle.rules.specs.Context.{CoreState, task_both_on, Frame, next_state, frame_of}

-- The letters of document 001. E is an exclusive holder, S a shared one (either read).
-- R is a recursive reader who waits, N anyone else who waits.
pub data First : Type 0 where
  E S : First

pub data Second : Type 0 where
  R N : Second

abbrev pub same_first : First → First → Bool
same_first E E = true
same_first E S = false
same_first S E = false
same_first S S = true

abbrev pub same_second : Second → Second → Bool
same_second R R = true
same_second R N = false
same_second N R = false
same_second N N = true

-- A lock with the mode of its acquire. "Modes of a take: 0 exclusive, 1 non-recursive read, 2 recursive read"; "3, 4 and 5 become a successful try
-- for exclusive, read and recursive read".
pub record HeldLock : Type 0 where
  pub class : ℕ
  pub mode : ℕ

abbrev pub is_try : ℕ → Bool
is_try m = leb held_modes m

-- "Once held it counts as mode 0, 1 or 2"
abbrev pub held_as : ℕ → ℕ
held_as m = m % held_modes

-- "E if the older hold is exclusive, S for either read."
abbrev pub first_in : ℕ → First
first_in zero = E
first_in (suc m) = S

abbrev pub first_by : ℕ → First
first_by m = first_in (held_as m)

-- "R if the take is recursive read, else N."
abbrev pub second_in : ℕ → Second
second_in zero = N
second_in (suc zero) = N
second_in (suc (suc m)) = R

abbrev pub second_by : ℕ → Second
second_by m = second_in (held_as m)

abbrev pub first_of : HeldLock → First
first_of h = first_by h.mode

abbrev pub second_of : HeldLock → Second
second_of h = second_by h.mode

-- Some lock of class c among these meets the test.
abbrev pub some_held : ℕ → (HeldLock → Bool) → List HeldLock → Bool
some_held c test [] = false
some_held c test (h ∷ hs) = (eqb c h.class && test h) || some_held c test hs

abbrev pub is_held : ℕ → List HeldLock → Bool
is_held c hs = some_held c (λ h. true) hs

-- "A release removes the newest hold of that class": of a list with the oldest first, the last.
abbrev pub release_newest : ℕ → List HeldLock → List HeldLock
release_newest c [] = []
release_newest c (h ∷ hs) = cond (is_held c hs) (h ∷ release_newest c hs) (cond (eqb c h.class) hs (h ∷ hs))

-- "the newest hold of that class in the frame has exactly that mode and origin": a mode from 3 on is a try's.
abbrev pub newest_is : (class mode : ℕ) → List HeldLock → Bool
newest_is c m [] = false
newest_is c m (h ∷ hs) = cond (is_held c hs) (newest_is c m hs) (eqb c h.class && eqb m h.mode)

-- A core: its state, and its held locks in each frame, oldest first.
pub record Core : Type 0 where
  pub state : CoreState
  pub held : Frame → List HeldLock

-- "a fresh core is in state 0", with no lock held
abbrev pub fresh_core : Core
fresh_core = record { state = task_both_on; held = λ f. [] }

abbrev pub current : Core → List HeldLock
current c = c.held (frame_of c.state)

abbrev pub with_current : Core → List HeldLock → Core
with_current c hs = record { state = c.state; held = λ f. cond (eqb f (frame_of c.state)) hs (c.held f) }

abbrev pub with_state : Core → CoreState → Core
with_state c s = record { state = s; held = c.held }

-- The core after an accepted event. A crosslock "is no hold".
abbrev pub after_event : Event → Core → Core
after_event (acquire c m) core = with_current core (current core ++ (record { class = c; mode = m } ∷ []))
after_event (release c m) core = with_current core (release_newest c (current core))
after_event (interrupt e) core = with_state core (next_state core.state e)
after_event (cross_acquire c) core = core
after_event (commit c) core = core
after_event (cross_release c) core = core
