-- The refusals of a well-formed record, event by event. Assumes nothing.
use mathlib.Core.Path.{◌≡◌, refl}
use mathlib.Core.Bool.{Bool, true, false, cond, not, ◌&&◌}
use mathlib.Core.List.{List}
use mathlib.Core.Option.{Option, none, some}
use Prim.Native.Nat.{ℕ}
use lib.Dec.{leb, eqb}
use lib.ListN.{length}
use Rattle.rules.specs.Limits.{max_depth, max_accepted, max_in_progress, max_kept}
use Rattle.rules.specs.Record.{Event, acquire, release, interrupt, cross_acquire, commit, cross_release, event_of, core_of, is_malformed}
use Rattle.rules.specs.Context.{no_state, next_state, leaves_handler}
use Rattle.rules.specs.HeldLocks.{Core, current, newest_is}
use Rattle.rules.specs.Crosslocks.{Crosslocks, size_of, is_kept}
use Rattle.rules.specs.Verdict.{Refusal, no_class, wrong_sort, no_transition, still_held, not_held, too_deep, in_progress, not_in_progress, list_full, history_full, count_full, refusal, some_lock}
use Rattle.rules.specs.Run.{State, situation}

-- Four refusals, in their order.
abbrev pub first_of : (a : Bool) (x : Refusal) (b : Bool) (y : Refusal) (c : Bool) (z : Refusal) (d : Bool) (w : Refusal) → Option Refusal
first_of a x b y c z d w = cond a (some x) (cond b (some y) (cond c (some z) (cond d (some w) none)))

-- What is left of the refusals for each event, but for the last.
abbrev pub refusal_by : ℕ → Core → Crosslocks → Event → Option Refusal
refusal_by K core x (acquire c m) =
    first_of (leb K c) no_class (x.declared c) wrong_sort (leb max_depth (length (current core))) too_deep (is_kept x m && leb max_kept (length x.history)) history_full
refusal_by K core x (release c m) = first_of (leb K c) no_class (x.declared c) wrong_sort (not (newest_is c m (current core))) not_held false not_held
refusal_by K core x (interrupt e) =
    first_of (eqb (next_state core.state e) no_state) no_transition
    (leaves_handler e && not (eqb (next_state core.state e) no_state) && some_lock (current core)) still_held false still_held false still_held
refusal_by K core x (cross_acquire c) =
    first_of (leb K c) no_class (not (x.declared c)) wrong_sort (x.progress c) in_progress (leb max_in_progress (size_of x.progress)) list_full
refusal_by K core x (commit c) = first_of (leb K c) no_class (not (x.declared c)) wrong_sort (not (x.progress c)) not_in_progress false not_in_progress
refusal_by K core x (cross_release c) = first_of (leb K c) no_class (not (x.declared c)) wrong_sort (not (x.progress c)) not_in_progress false not_in_progress

-- The last refusal, where no other applies.
abbrev pub or_full : ℕ → Option Refusal → Option Refusal
or_full accepted (some x) = some x
or_full accepted none = cond (leb max_accepted accepted) (some count_full) none

full_last : (accepted : ℕ) (a b c d : Bool) (x y z w : Refusal)
    → cond a (some x) (cond b (some y) (cond c (some z) (cond d (some w) (or_full accepted none)))) ≡ or_full accepted (first_of a x b y c z d w)
full_last accepted true b c d x y z w = refl
full_last accepted false true c d x y z w = refl
full_last accepted false false true d x y z w = refl
full_last accepted false false false true x y z w = refl
full_last accepted false false false false x y z w = refl

module _ (K : ℕ) (s : State) (bytes : List ℕ) (opened : s.is_closed ≡ false) (formed : is_malformed bytes ≡ false) where
  abbrev core : Core
  core = s.cores (core_of bytes)

  abbrev n : ℕ
  n = s.journal.accepted

  pub refusal_by_lem : (ev : Event) → event_of bytes ≡ ev → refusal (situation K s bytes) ≡ or_full n (refusal_by K core s.cross ev)
  unfolding refusal
  refusal_by_lem (acquire c m) e =
      rw (opened, formed, e)
      (full_last n (leb K c) (s.cross.declared c) (leb max_depth (length (current core))) (is_kept s.cross m && leb max_kept (length s.cross.history)) no_class
      wrong_sort too_deep history_full)
  refusal_by_lem (release c m) e =
      rw (opened, formed, e) (full_last n (leb K c) (s.cross.declared c) (not (newest_is c m (current core))) false no_class wrong_sort not_held not_held)
  refusal_by_lem (interrupt k) e =
      let to = next_state core.state k in
      rw (opened, formed, e)
      (full_last n (eqb to no_state) (leaves_handler k && not (eqb to no_state) && some_lock (current core)) false false no_transition still_held still_held still_held)
  refusal_by_lem (cross_acquire c) e =
      rw (opened, formed, e)
      (full_last n (leb K c) (not (s.cross.declared c)) (s.cross.progress c) (leb max_in_progress (size_of s.cross.progress)) no_class wrong_sort in_progress list_full)
  refusal_by_lem (commit c) e =
      rw (opened, formed, e) (full_last n (leb K c) (not (s.cross.declared c)) (not (s.cross.progress c)) false no_class wrong_sort not_in_progress not_in_progress)
  refusal_by_lem (cross_release c) e =
      rw (opened, formed, e) (full_last n (leb K c) (not (s.cross.declared c)) (not (s.cross.progress c)) false no_class wrong_sort not_in_progress not_in_progress)
