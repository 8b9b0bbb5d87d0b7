-- What the acquire and the release of a crosslock do to the bytes of the desk.
use Rattle.std.specs.Prelude.{◌≡◌, List, ◌⊎◌, ℕ, ◌<◌, ◌≤◌, length, get_or}
use Rattle.rules.specs.Limits.{max_kept}
use Rattle.rules.specs.Crosslocks.{Crosslocks, entered, ended}
use Rattle.layout.specs.Layout.{declared_at, desk_size}
use Rattle.layout.specs.Encoding.{CrossBytes}

-- Only the bytes of the crosslocks may differ.
pub record KeepsUncrossed (before after : List ℕ) : Type 0 where
  pub long : length after ≡ length before
  pub else : (j : ℕ) → (j < declared_at) ⊎ (desk_size ≤ j) → get_or after j 0 ≡ get_or before j 0

-- Of all crosslocks that the desk encodes, as the rules have them after.
pub record Entered (before : List ℕ) (class : ℕ) (after : List ℕ) : Type 0 where
  pub keeps : KeepsUncrossed before after
  pub entered : (x : Crosslocks) (history : List ℕ) → length x.history ≤ max_kept → CrossBytes x before history
      → CrossBytes (Rattle.rules.specs.Crosslocks.entered class x) after history

pub record Ended (before : List ℕ) (class : ℕ) (after : List ℕ) : Type 0 where
  pub keeps : KeepsUncrossed before after
  pub ended : (x : Crosslocks) (history : List ℕ) → CrossBytes x before history
      → CrossBytes (Rattle.rules.specs.Crosslocks.ended class x) after history
