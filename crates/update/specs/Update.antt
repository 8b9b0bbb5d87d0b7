-- What an accepted record draws in the bytes: lock dependencies in the sheet, usage marks in the desk.
use Rattle.std.specs.Prelude.{◌≡◌, Bool, true, false, not, ◌&&◌, ◌||◌, List, ◌⊎◌, ℕ, ◌+◌, ◌*◌, ◌<◌, ◌≤◌, eqb, length, get_or}
use Rattle.rules.specs.Limits.{max_classes}
use Rattle.rules.specs.HeldLocks.{HeldLock, is_try, same_first, same_second, first_of, second_by, some_held}
use Rattle.rules.specs.Marks.{Marks, set_in, letter_fits}
use Rattle.rules.specs.Graph.{Dependencies}
use Rattle.layout.specs.Layout.{marks_at, mark_of, KeepsPast}
use Rattle.layout.specs.Encoding.{mark_byte, SheetBytes}
use Rattle.held.specs.Frames.{FrameBytes, SmallLocks}

-- The dependencies that an acquire draws from the held locks hs, as `drawn_by` of the rules has them.
abbrev pub drawn_from : List HeldLock → ℕ → ℕ → Dependencies
drawn_from hs class mode f t k =
    not (is_try mode)
    && (eqb t class && same_second k.second (second_by mode) && some_held f (λ h. same_first k.first (first_of h)) hs)

-- Whether a buffer changed.
pub record Noted (before after : List ℕ) (changed : Bool) : Type 0 where
  pub same : changed ≡ false → after ≡ before
  pub other : changed ≡ true → after ≡ before → ⊥

pub record Drawn (desk : List ℕ) (K n class mode : ℕ) (before after : List ℕ) : Type 0 where
  pub keeps : KeepsPast (K * K) before after
  pub drawn : (hs : List HeldLock) → FrameBytes desk n hs → SmallLocks hs → (locks : Dependencies) → SheetBytes K locks before
      → SheetBytes K (λ f t k. locks f t k || drawn_from hs class mode f t k) after

pub record MarkBytes (desk : List ℕ) (marks : Marks) : Type 0 where
  pub usage : (c : ℕ) → c < max_classes → mark_of desk c ≡ mark_byte marks c

-- Only the usage marks may differ.
pub record KeepsUnmarked (before after : List ℕ) : Type 0 where
  pub long : length after ≡ length before
  pub else : (j : ℕ) → (j < marks_at) ⊎ (marks_at + max_classes ≤ j) → get_or after j 0 ≡ get_or before j 0

pub record Marked (before : List ℕ) (n state : ℕ) (after : List ℕ) : Type 0 where
  pub keeps : KeepsUnmarked before after
  pub marked : (hs : List HeldLock) → FrameBytes before n hs → SmallLocks hs → (marks : Marks) → MarkBytes before marks
      → MarkBytes after (λ c l u. marks c l u || (set_in l u state && some_held c (letter_fits u) hs))
