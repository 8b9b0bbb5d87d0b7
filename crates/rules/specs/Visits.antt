-- "Takes of an earlier handler visit do not count", by numbers that have no limit: the same as striking out (proofs/Visits.antt). Nothing else reads this.
use Rattle.std.specs.Prelude.{cond, ◌&&◌, List, [], ◌∷◌, ◌++◌, ℕ, suc, eqb}
use Rattle.std.proofs.Math.Option.{Option, none, some}
use Rattle.rules.specs.Record.{Bytes, Event, acquire, release, interrupt, cross_acquire, commit, cross_release, core_of, event_of}
use Rattle.rules.specs.Context.{Frame, frame_of, leaves_handler}
use Rattle.rules.specs.HeldLocks.{Core}
use Rattle.rules.specs.Crosslocks.{Kept, Crosslocks, is_idle, is_kept, without}
use Rattle.rules.specs.Verdict.{Refusal, refusal}
use Rattle.rules.specs.Run.{State, situation, step}

-- A kept acquire with the number of its visit.
pub record Numbered : Type 0 where
  pub kept : Kept
  pub visit : ℕ

-- How many visits of each frame of each core have ended, and the kept acquires.
pub record Track : Type 0 where
  pub over : ℕ → Frame → ℕ
  pub acquires : List Numbered

-- It counts while its visit has not ended.
abbrev pub counting : (ℕ → Frame → ℕ) → Numbered → Option Kept
counting over n = cond (eqb n.visit (over n.kept.core n.kept.frame)) (some n.kept) none

abbrev pub over_after : Event → ℕ → Core → (ℕ → Frame → ℕ) → ℕ → Frame → ℕ
over_after (acquire c m) i core over = over
over_after (release c m) i core over = over
over_after (interrupt e) i core over =
    cond (leaves_handler e) (λ j f. cond (eqb i j && eqb (frame_of core.state) f) (suc (over j f)) (over j f)) over
over_after (cross_acquire c) i core over = over
over_after (commit c) i core over = over
over_after (cross_release c) i core over = over

abbrev pub acquires_after : Event → ℕ → Core → Crosslocks → Track → List Numbered
acquires_after (acquire c m) i core x t =
    let f = frame_of core.state in
    cond (is_kept x m) (t.acquires ++ (record { kept = record { core = i; frame = f; class = c; mode = m }; visit = t.over i f } ∷ [])) t.acquires
acquires_after (release c m) i core x t = t.acquires
acquires_after (interrupt e) i core x t = t.acquires
acquires_after (cross_acquire c) i core x t = t.acquires
acquires_after (commit c) i core x t = t.acquires
acquires_after (cross_release c) i core x t = cond (is_idle (without c x.progress)) [] t.acquires

abbrev pub track_on : Event → ℕ → Core → Crosslocks → Track → Track
track_on ev i core x t = record { over = over_after ev i core t.over; acquires = acquires_after ev i core x t }

-- Along a run: an accepted record moves it, a refused one does not.
abbrev pub track_by : State → Bytes → Track → Option Refusal → Track
track_by s r t (some x) = t
track_by s r t none = track_on (event_of r) (core_of r) (s.cores (core_of r)) s.cross t

abbrev pub track : ℕ → State → List Bytes → Track → Track
track K s [] t = t
track K s (r ∷ rs) t = track K (step K s r).state rs (track_by s r t (refusal (situation K s r)))

-- At opening.
abbrev pub untracked : Track
untracked = record { over = λ i f. 0; acquires = [] }
