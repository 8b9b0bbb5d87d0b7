-- What a well-formed record does to an open desk, its sheets and the history.
use Rattle.std.specs.Prelude.{◌≡◌, Bool, false, cond, not, ◌&&◌, ◌||◌, List, ℕ, ◌+◌, ◌*◌, ◌<◌, ◌≤◌, leb, length, get_or}
use Rattle.std.proofs.Math.Option.{none, some}
use Rattle.rules.specs.Limits.{max_kept}
use Rattle.rules.specs.HeldLocks.{is_try}
use Rattle.rules.specs.Crosslocks.{Crosslocks, is_idle}
use Rattle.rules.specs.Verdict.{Refusal, refusal_number, refusal}
use Rattle.rules.specs.Run.{State, situation, accept}
use Rattle.validity.specs.Valid.{Valid, ValidCross}
use Rattle.layout.specs.Layout.{accepted_at, desk_size, sheet_size, seen_size, history_size, kept_size, number_size, classes_of, declared_of, progress_of, kept_of, member_of, KeepsPast}
use Rattle.layout.specs.Encoding.{DeskBytes, SheetBytes, SeenBytes, CrossBytes, Encodes}

-- The desk and the history encode valid crosslocks, and the history is long enough.
pub record Crossed (desk history : List ℕ) : Type 0 where
  pub long : history_size ≤ length history
  pub cross : Crosslocks
  pub encodes : CrossBytes cross desk history
  pub valid : ValidCross (classes_of desk) cross

-- Refusals 4 and 15 of a crosslock's kinds, 0 for neither; and refusal 19.
abbrev pub not_crosslock : List ℕ → ℕ → ℕ
not_crosslock desk c = cond (leb (classes_of desk) c) 4 (cond (not (member_of (declared_of desk) c)) 15 0)

abbrev pub no_room_for : List ℕ → ℕ → Bool
no_room_for desk mode = not (is_idle (member_of (progress_of desk)) || is_try mode) && leb max_kept (kept_of desk)

-- The count is as it was.
pub record KeepsCount (before after : List ℕ) : Type 0 where
  pub count : (j : ℕ) → j < number_size → get_or after (accepted_at + j) 0 ≡ get_or before (accepted_at + j) 0

-- A refusal leaves the buffers; an accepted record leaves the cores, the lock dependencies and their numbers, and the crosslocks that the rules give, and the
-- marks and the count as they were.
pub data ActedOn (K : ℕ) (s : State) (bytes desk sheet seen history : List ℕ) : (answer : ℕ) (desk' sheet' seen' history' : List ℕ) → Type 0 where
  refuses : (x : Refusal) → refusal (situation K s bytes) ≡ some x
      → ActedOn K s bytes desk sheet seen history (refusal_number x) desk sheet seen history
  accepts : {desk' sheet' seen' history' : List ℕ} → refusal (situation K s bytes) ≡ none
      → DeskBytes K s.is_closed (accept s bytes).cores s.graph.marks desk' → SheetBytes K (accept s bytes).graph.locks sheet'
      → SeenBytes K (accept s bytes).journal.seen seen' → CrossBytes (accept s bytes).cross desk' history' → KeepsCount desk desk'
      → KeepsPast desk_size desk desk' → KeepsPast (sheet_size K) sheet sheet' → KeepsPast (seen_size K) seen seen'
      → KeepsPast (kept_size * length (accept s bytes).cross.history) history history' → ActedOn K s bytes desk sheet seen history 0 desk' sheet' seen' history'

-- Of every state of the rules that the buffers encode.
pub record Acted (desk sheet seen history bytes : List ℕ) (answer : ℕ) (desk' sheet' seen' history' : List ℕ) : Type 0 where
  pub acted : (s : State) → s.is_closed ≡ false → Valid (classes_of desk) s → Encodes (classes_of desk) s desk sheet seen history
      → ActedOn (classes_of desk) s bytes desk sheet seen history answer desk' sheet' seen' history'
