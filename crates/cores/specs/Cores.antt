-- The cores that a desk encodes.
use Rattle.std.specs.Prelude.{Bool, List, ℕ, ◌≤◌}
use Rattle.rules.specs.Limits.{max_classes}
use Rattle.rules.specs.HeldLocks.{Core}
use Rattle.rules.specs.Marks.{Marks}
use Rattle.validity.specs.Valid.{ValidCore}
use Rattle.layout.specs.Layout.{classes_of}
use Rattle.layout.specs.Encoding.{DeskBytes}

-- The desk encodes valid cores.
pub record Cored (desk : List ℕ) : Type 0 where
  pub few : classes_of desk ≤ max_classes
  pub is_closed : Bool
  pub cores : ℕ → Core
  pub marks : Marks
  pub encodes : DeskBytes (classes_of desk) is_closed cores marks desk
  pub valid : (i : ℕ) → ValidCore (classes_of desk) (cores i)
