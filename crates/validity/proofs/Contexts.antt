-- The next-state table, tested whole: a transition out of the states in which a handler's frame may hold a lock leaves that handler.
-- Assumes nothing.
use mathlib.Core.Path.{◌≡◌, refl}
use mathlib.Core.Bool.{Bool, true, false, not, ◌&&◌, ◌||◌, false≢true}
use Prim.Native.Nat.{ℕ, zero, suc, ◌≤◌, ◌<◌, suc-le-suc}
use native.Mathlib.Nat.{le_of_suc-le-suc, not-suc-le-zero}
use lib.Dec.{leb, eqb}
use borrow.Author.Tests.{leb-true}
use Rattle.rules.specs.Context.{CoreState, no_state, next_state, leaves_handler, Frame, soft, hard, frame_of, hard_over_soft, may_hold_soft, may_hold_hard}
use Rattle.rules.proofs.Booleans.{and_cases}

-- Interrupt events, the columns of the table.
abbrev pub event_count : ℕ
event_count = 8

abbrev all_entries : ℕ → (ℕ → Bool) → Bool
all_entries zero test = true
all_entries (suc n) test = test zero && all_entries n (λ i. test (suc i))

all_entries_at : (n : ℕ) (test : ℕ → Bool) → all_entries n test ≡ true → (i : ℕ) → i < n → test i ≡ true
all_entries_at zero test h i l = absurd (not-suc-le-zero l)
all_entries_at (suc n) test h zero l = (and_cases (test zero) (all_entries n (λ i. test (suc i))) h).0
all_entries_at (suc n) test h (suc i) l =
    all_entries_at n (λ i. test (suc i)) (and_cases (test zero) (all_entries n (λ i. test (suc i))) h).1 i (le_of_suc-le-suc l)

not_or : (a : Bool) {b : Bool} → (not a || b) ≡ true → a ≡ true → b ≡ true
not_or true h e = h
not_or false h e = absurd (false≢true e)

-- Of the frame f and a test of states: a state in which f is current passes it, and a transition from a state that passes leads to one that
-- passes or leaves the handler of f.
abbrev entered : Frame → (CoreState → Bool) → CoreState → Bool
entered f may s = not (eqb f (frame_of s)) || may s

abbrev kept : Frame → (CoreState → Bool) → CoreState → ℕ → Bool
kept f may s e = let n = next_state s e in eqb n no_state || (leb n hard_over_soft && (not (may s) || (leaves_handler e && eqb f (frame_of s)) || may n))

pub record FrameStates (f : Frame) (may : CoreState → Bool) : Type 0 where
  enters : all_entries (suc hard_over_soft) (entered f may) ≡ true
  keeps : all_entries (suc hard_over_soft) (λ s. all_entries event_count (kept f may s)) ≡ true

pub soft_states : FrameStates soft may_hold_soft
soft_states = record { enters = refl; keeps = refl }

pub hard_states : FrameStates hard may_hold_hard
hard_states = record { enters = refl; keeps = refl }

module _ {f : Frame} {may : CoreState → Bool} (t : FrameStates f may) where
  pub current_may : (s : CoreState) → s ≤ hard_over_soft → eqb f (frame_of s) ≡ true → may s ≡ true
  current_may s l = not_or (eqb f (frame_of s)) (all_entries_at (suc hard_over_soft) (entered f may) t.enters s (suc-le-suc l))

  module _ (s e : ℕ) (l : s ≤ hard_over_soft) (m : e < event_count) (h : eqb (next_state s e) no_state ≡ false) where
    entry : (leb (next_state s e) hard_over_soft ≡ true)
        × ((not (may s) || (leaves_handler e && eqb f (frame_of s)) || may (next_state s e)) ≡ true)
    entry =
        and_cases _ _
        (rw h at (all_entries_at event_count (kept f may s) (all_entries_at (suc hard_over_soft) (λ s. all_entries event_count (kept f may s)) t.keeps s (suc-le-suc l)) e m))

    pub next_in_range : next_state s e ≤ hard_over_soft
    next_in_range = leb-true (next_state s e) hard_over_soft entry.0

    pub next_may : (leaves_handler e && eqb f (frame_of s)) ≡ false → may s ≡ true → may (next_state s e) ≡ true
    next_may q p = rw (p, q) at entry.1

-- No state has a frame past the hard one.
pub frame_last : (s : CoreState) → s ≤ hard_over_soft → frame_of s ≤ hard
frame_last s l = leb-true (frame_of s) hard (all_entries_at (suc hard_over_soft) (λ s. leb (frame_of s) hard) refl s (suc-le-suc l))
