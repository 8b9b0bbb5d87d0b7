-- What follows an accepted record: the usage marks, the search, and with a fault the closing and the slip.
use Rattle.std.specs.Prelude.{◌≡◌, true, false, ◌||◌, List, ℕ, ◌≤◌}
use Rattle.rules.specs.Limits.{max_accepted}
use Rattle.rules.specs.HeldLocks.{Core}
use Rattle.rules.specs.Marks.{Marks, marks_of}
use Rattle.rules.specs.Graph.{Dependencies}
use Rattle.rules.specs.Decision.{cyclic}
use Rattle.validity.specs.Valid.{ValidCore}
use Rattle.layout.specs.Layout.{accepted_at, classes_of, KeepsPast}
use Rattle.layout.specs.Encoding.{DeskBytes, SheetBytes, SeenBytes}
use Rattle.layout.specs.Decoding.{Reported}

-- The marks with those that a core's state sets on the locks of its current frame.
abbrev pub with_marks : Marks → Core → Marks
with_marks marks core c l u = marks c l u || marks_of core c l u

-- The sheet has the lock dependencies of some graph.
pub record Sheeted (K : ℕ) (sheet : List ℕ) : Type 0 where
  pub locks : Dependencies
  pub bytes : SheetBytes K locks sheet

pub data ConcludedOn (K : ℕ) (cores : ℕ → Core) (marks : Marks) (locks : Dependencies) (numbers : ℕ → ℕ → ℕ) (core : ℕ) (desk slip : List ℕ)
    : (answer : ℕ) (desk' slip' : List ℕ) → Type 0 where
  is_clean : {desk' : List ℕ} → cyclic K (record { locks = locks; marks = with_marks marks (cores core) }) ≡ false
      → DeskBytes K false cores (with_marks marks (cores core)) desk' → KeepsPast accepted_at desk desk'
      → ConcludedOn K cores marks locks numbers core desk slip 0 desk' slip
  is_fault : {desk' slip' : List ℕ} → cyclic K (record { locks = locks; marks = with_marks marks (cores core) }) ≡ true
      → DeskBytes K true cores (with_marks marks (cores core)) desk' → KeepsPast accepted_at desk desk'
      → Reported K (record { locks = locks; marks = with_marks marks (cores core) }) numbers slip slip'
      → ConcludedOn K cores marks locks numbers core desk slip 1 desk' slip'

pub record Concluded (desk sheet seen slip : List ℕ) (core answer : ℕ) (desk' slip' : List ℕ) : Type 0 where
  pub concluded : (cores : ℕ → Core) (marks : Marks) (locks : Dependencies) (numbers : ℕ → ℕ → ℕ) → DeskBytes (classes_of desk) false cores marks desk
      → ((i : ℕ) → ValidCore (classes_of desk) (cores i)) → SheetBytes (classes_of desk) locks sheet → ((f t : ℕ) → numbers f t ≤ max_accepted)
      → SeenBytes (classes_of desk) numbers seen → ConcludedOn (classes_of desk) cores marks locks numbers core desk slip answer desk' slip'
