-- Document 01, "What the judge says": the refusals, each with its number and its condition, and their order.
use Rattle.std.specs.Prelude.{Bool, true, false, cond, not, ◌&&◌, List, [], ◌∷◌, ℕ, leb, eqb, length}
use Rattle.std.proofs.Math.Option.{Option, none, some}
use Rattle.rules.specs.Limits.{max_depth, max_accepted, max_in_progress, max_kept}
use Rattle.rules.specs.Record.{Bytes, Event, acquire, release, interrupt, cross_acquire, commit, cross_release, event_of, is_malformed}
use Rattle.rules.specs.Context.{no_state, next_state, leaves_handler}
use Rattle.rules.specs.HeldLocks.{Core, current, newest_is, HeldLock}
use Rattle.rules.specs.Crosslocks.{Crosslocks, size_of, is_kept}

pub data Refusal : Type 0 where
  closed malformed no_class wrong_sort no_transition still_held not_held too_deep in_progress not_in_progress list_full history_full count_full : Refusal

-- What a step answers. Opening answers 0 or 2.
pub data Answer : Type 0 where
  clean fault : Answer
  refused : Refusal → Answer

abbrev pub refusal_number : Refusal → ℕ
refusal_number closed = 10
refusal_number malformed = 3
refusal_number no_class = 4
refusal_number wrong_sort = 15
refusal_number no_transition = 6
refusal_number still_held = 7
refusal_number not_held = 5
refusal_number too_deep = 8
refusal_number in_progress = 16
refusal_number not_in_progress = 17
refusal_number list_full = 18
refusal_number history_full = 19
refusal_number count_full = 9

abbrev pub number : Answer → ℕ
number clean = 0
number fault = 1
number (refused r) = refusal_number r

-- 2 and 11 are about the lent buffers, of which the rules know nothing. Opening gives 2 (crates/opening/specs); the step and the question give 11
-- before anything below is looked at (crates/validator/specs, crates/question/specs).
abbrev pub bad_opening : ℕ
bad_opening = 2

abbrev pub unfit : ℕ
unfit = 11

-- "Order: 11, 10, 3, 4, 6, 7, 5, 8", from 10 on; "New refusal 9, last in order"; "15 .., right after 4; then, before 9 and in this order, 16, 17, 18, 19".
abbrev pub order : List Refusal
order =
    closed
    ∷ malformed
    ∷ no_class
    ∷ wrong_sort
    ∷ no_transition
    ∷ still_held
    ∷ not_held
    ∷ too_deep
    ∷ in_progress
    ∷ not_in_progress
    ∷ list_full
    ∷ history_full
    ∷ count_full
    ∷ []

-- What the conditions read: whether the validator is closed, K, the core as it stands, the crosslocks, how many records were accepted, and the record.
pub record Situation : Type 0 where
  pub is_closed : Bool
  pub classes : ℕ
  pub core : Core
  pub cross : Crosslocks
  pub accepted : ℕ
  pub bytes : Bytes

-- "take or release, class K or more"; "4 covers kinds 10 to 12"
abbrev pub class_missing : ℕ → Event → Bool
class_missing K (acquire c m) = leb K c
class_missing K (release c m) = leb K c
class_missing K (interrupt e) = false
class_missing K (cross_acquire c) = leb K c
class_missing K (commit c) = leb K c
class_missing K (cross_release c) = leb K c

-- "wrong sort of class for the kind"
abbrev pub sort_wrong : (declared : ℕ → Bool) → Event → Bool
sort_wrong d (acquire c m) = d c
sort_wrong d (release c m) = d c
sort_wrong d (interrupt e) = false
sort_wrong d (cross_acquire c) = not (d c)
sort_wrong d (commit c) = not (d c)
sort_wrong d (cross_release c) = not (d c)

-- "x in the table"
abbrev pub transition_missing : Core → Event → Bool
transition_missing core (acquire c m) = false
transition_missing core (release c m) = false
transition_missing core (interrupt e) = eqb (next_state core.state e) no_state
transition_missing core (cross_acquire c) = false
transition_missing core (commit c) = false
transition_missing core (cross_release c) = false

abbrev pub some_lock : List HeldLock → Bool
some_lock [] = false
some_lock (h ∷ hs) = true

-- "k7 or k9 allowed, but holds stand in the frame"
abbrev pub leaves_locked : Core → Event → Bool
leaves_locked core (acquire c m) = false
leaves_locked core (release c m) = false
leaves_locked core (interrupt e) = leaves_handler e && not (eqb (next_state core.state e) no_state) && some_lock (current core)
leaves_locked core (cross_acquire c) = false
leaves_locked core (commit c) = false
leaves_locked core (cross_release c) = false

-- "refused with 5 unless the newest hold of that class in the frame has exactly that mode and origin"
abbrev pub release_missing : Core → Event → Bool
release_missing core (acquire c m) = false
release_missing core (release c m) = not (newest_is c m (current core))
release_missing core (interrupt e) = false
release_missing core (cross_acquire c) = false
release_missing core (commit c) = false
release_missing core (cross_release c) = false

-- "take, frame holds 20" (02, g: 48)
abbrev pub frame_full : Core → Event → Bool
frame_full core (acquire c m) = leb max_depth (length (current core))
frame_full core (release c m) = false
frame_full core (interrupt e) = false
frame_full core (cross_acquire c) = false
frame_full core (commit c) = false
frame_full core (cross_release c) = false

-- "already in progress"
abbrev pub already_taken : Crosslocks → Event → Bool
already_taken x (acquire c m) = false
already_taken x (release c m) = false
already_taken x (interrupt e) = false
already_taken x (cross_acquire c) = x.progress c
already_taken x (commit c) = false
already_taken x (cross_release c) = false

-- "not in progress (commit or release)"
abbrev pub not_taken : Crosslocks → Event → Bool
not_taken x (acquire c m) = false
not_taken x (release c m) = false
not_taken x (interrupt e) = false
not_taken x (cross_acquire c) = false
not_taken x (commit c) = not (x.progress c)
not_taken x (cross_release c) = not (x.progress c)

-- "list full"
abbrev pub no_place : Crosslocks → Event → Bool
no_place x (acquire c m) = false
no_place x (release c m) = false
no_place x (interrupt e) = false
no_place x (cross_acquire c) = leb max_in_progress (size_of x.progress)
no_place x (commit c) = false
no_place x (cross_release c) = false

-- "history full at a take to be kept"
abbrev pub no_room : Crosslocks → Event → Bool
no_room x (acquire c m) = is_kept x m && leb max_kept (length x.history)
no_room x (release c m) = false
no_room x (interrupt e) = false
no_room x (cross_acquire c) = false
no_room x (commit c) = false
no_room x (cross_release c) = false

abbrev pub applies : Refusal → Situation → Bool
applies closed s = s.is_closed
applies malformed s = is_malformed s.bytes
applies no_class s = class_missing s.classes (event_of s.bytes)
applies wrong_sort s = sort_wrong s.cross.declared (event_of s.bytes)
applies no_transition s = transition_missing s.core (event_of s.bytes)
applies still_held s = leaves_locked s.core (event_of s.bytes)
applies not_held s = release_missing s.core (event_of s.bytes)
applies too_deep s = frame_full s.core (event_of s.bytes)
applies in_progress s = already_taken s.cross (event_of s.bytes)
applies not_in_progress s = not_taken s.cross (event_of s.bytes)
applies list_full s = no_place s.cross (event_of s.bytes)
applies history_full s = no_room s.cross (event_of s.bytes)
applies count_full s = leb max_accepted s.accepted

-- The first of these that applies.
abbrev pub first_that_applies : List Refusal → Situation → Option Refusal
first_that_applies [] s = none
first_that_applies (r ∷ rs) s = cond (applies r s) (some r) (first_that_applies rs s)

unfoldable pub refusal : Situation → Option Refusal
refusal s = first_that_applies order s
