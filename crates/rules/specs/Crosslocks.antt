-- Crosslocks (000; document 02, j): classes of which one context takes the lock and another releases it, as completions.
use Rattle.std.specs.Prelude.{Bool, false, cond, not, ◌&&◌, ◌||◌, List, [], ◌∷◌, ◌++◌, map, ℕ, zero, suc, eqb, length, drop}
use Rattle.std.proofs.Math.Option.{Option, none, some}
use Rattle.rules.specs.Limits.{max_classes}
use Rattle.rules.specs.Record.{Event, acquire, release, interrupt, cross_acquire, commit, cross_release}
use Rattle.rules.specs.Context.{Frame, frame_of, leaves_handler}
use Rattle.rules.specs.HeldLocks.{Second, E, same_first, same_second, second_by, is_try, Core}
use Rattle.rules.specs.Graph.{Dependencies, drawn_by}

-- An ordinary acquire that is kept: who acquired in which frame, and what.
pub record Kept : Type 0 where
  pub core : ℕ
  pub frame : Frame
  pub class : ℕ
  pub mode : ℕ

-- The history, oldest first. An acquire that no longer counts is struck out, and its room stays taken.
abbrev pub History : Type 0
History = List (Option Kept)

-- Which classes are declared crosslocks, and which of them are in progress: "a list of up to 16 in progress, each class once". Of each class how much of
-- the history was taken when the crosslock was acquired last.
pub record Crosslocks : Type 0 where
  pub declared : ℕ → Bool
  pub progress : ℕ → Bool
  pub since : ℕ → ℕ
  pub history : History

-- What opening gives: none in progress.
abbrev pub declaring : (ℕ → Bool) → Crosslocks
declaring d = record { declared = d; progress = λ c. false; since = λ c. 0; history = [] }

-- How many of the classes 0 to n - 1 are in a set.
unfoldable pub count_below : ℕ → (ℕ → Bool) → ℕ
count_below zero p = 0
count_below (suc n) p = let rest = count_below n (λ c. p (suc c)) in cond (p zero) (suc rest) rest

abbrev pub size_of : (ℕ → Bool) → ℕ
size_of p = count_below max_classes p

abbrev pub is_idle : (ℕ → Bool) → Bool
is_idle p = eqb (size_of p) 0

abbrev pub with : ℕ → (ℕ → Bool) → ℕ → Bool
with c p x = eqb x c || p x

abbrev pub without : ℕ → (ℕ → Bool) → ℕ → Bool
without c p x = not (eqb x c) && p x

-- Some acquire that counts meets the test.
abbrev pub some_kept : (Kept → Bool) → History → Bool
some_kept test [] = false
some_kept test (none ∷ es) = some_kept test es
some_kept test (some e ∷ es) = test e || some_kept test es

-- "A commit draws a hold arrow EN from the crosslock to each ordinary take accepted since then in the committing core's current frame (CT), ER where that
-- take was a recursive read"
abbrev pub committed : (core : ℕ) → Frame → (to : ℕ) → Second → Kept → Bool
committed i frame to second e = eqb i e.core && (eqb frame e.frame && (eqb to e.class && same_second second (second_by e.mode)))

abbrev pub drawn_by_commit : (class core : ℕ) → Frame → Crosslocks → Dependencies
drawn_by_commit c i frame x f t k =
    eqb f c && (same_first k.first E && some_kept (committed i frame t k.second) (drop (x.since c) x.history))

-- All that an event of core i, which stands as `core`, draws.
abbrev pub drawn_on : Event → (i : ℕ) → Core → Crosslocks → Dependencies
drawn_on (acquire c m) i core x = drawn_by (acquire c m) core
drawn_on (release c m) i core x = drawn_by (release c m) core
drawn_on (interrupt e) i core x = drawn_by (interrupt e) core
drawn_on (cross_acquire c) i core x = drawn_by (cross_acquire c) core
drawn_on (commit c) i core x = drawn_by_commit c i (frame_of core.state) x
drawn_on (cross_release c) i core x = drawn_by (cross_release c) core

-- "Takes of an earlier handler visit do not count": when a handler is left, those of its frame are struck out (proofs/Visits.antt).
abbrev pub strike : (core : ℕ) → Frame → Option Kept → Option Kept
strike i frame none = none
strike i frame (some e) = cond (eqb i e.core && eqb frame e.frame) none (some e)

-- "Ordinary takes other than tries are kept in a lent history of 256 only while a crosslock is in progress"
abbrev pub is_kept : Crosslocks → (mode : ℕ) → Bool
is_kept x m = not (is_idle x.progress || is_try m)

abbrev pub with_history : Crosslocks → History → Crosslocks
with_history x h = record { declared = x.declared; progress = x.progress; since = x.since; history = h }

-- "Its take .. enters it in a list"
abbrev pub entered : ℕ → Crosslocks → Crosslocks
entered c x =
    record {
      declared = x.declared;
      progress = with c x.progress;
      since = λ d. cond (eqb d c) (length x.history) (x.since d);
      history = x.history;
    }

-- "no room in it is free again until none is" in progress
abbrev pub ended : ℕ → Crosslocks → Crosslocks
ended c x =
    record {
      declared = x.declared;
      progress = without c x.progress;
      since = x.since;
      history = cond (is_idle (without c x.progress)) [] x.history;
    }

-- The crosslocks after an accepted event of core i, which stood as `core`.
abbrev pub after_cross : Event → (i : ℕ) → Core → Crosslocks → Crosslocks
after_cross (acquire c m) i core x =
    with_history x (cond (is_kept x m) (x.history ++ (some (record { core = i; frame = frame_of core.state; class = c; mode = m }) ∷ [])) x.history)
after_cross (release c m) i core x = x
after_cross (interrupt e) i core x = with_history x (cond (leaves_handler e) (map (strike i (frame_of core.state)) x.history) x.history)
after_cross (cross_acquire c) i core x = entered c x
after_cross (commit c) i core x = x
after_cross (cross_release c) i core x = ended c x
