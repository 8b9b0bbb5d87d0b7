-- Request d: "whether one class's marks already make a one-arrow strong circle", by the rules and by a table.
use Rattle.std.specs.Prelude.{◌≡◌, Bool, true, false, ◌&&◌, ◌||◌, List, [], ◌∷◌, ℕ, ◌/◌, ◌%◌, ◌<◌, ◌≤◌, eqb, length, get_or, Option, None, Some}
use Rattle.rules.specs.HeldLocks.{Core}
use Rattle.rules.specs.Marks.{Level, hard_irq, soft_irq, Usage, mark_bit}
use Rattle.rules.specs.Graph.{Kind, Graph, irq, dependency_by}
use Rattle.rules.specs.KindNames.{ER, EN, SR, SN}
use Rattle.rules.specs.StrongPath.{strong_joint}
use Rattle.rules.specs.Decision.{cyclic}
use Rattle.rules.specs.Cycle.{Entry, Cycle}
use Rattle.layout.specs.Layout.{mark_of}
use Rattle.layout.specs.Encoding.{DeskBytes}
use Rattle.search.specs.Rows.{Rows}

-- ---- The rule.

-- The marks of one class.
abbrev pub ClassMarks : Type 0
ClassMarks = Level → Usage → Bool

-- A class with these marks, and no lock dependency.
abbrev pub alone : ClassMarks → Graph
alone own = record { locks = λ f t k. false; marks = λ c. own }

-- The class has an interrupt dependency of the level and the kind to itself, and it is strong at its closing joint.
abbrev pub clash_by : ClassMarks → Level → Kind → Bool
clash_by own l k = dependency_by (irq l) (alone own) 0 0 k && strong_joint k.second k.first

abbrev pub clash_at : ClassMarks → Level → Bool
clash_at own l = (clash_by own l ER || clash_by own l EN) || (clash_by own l SR || clash_by own l SN)

unfoldable pub clash : ClassMarks → Bool
clash own = clash_at own hard_irq || clash_at own soft_irq

-- The "one-arrow strong circle" of class c by its marks. `clash_exactly` (proofs/OneCycle.antt): there is one exactly where its marks clash.
pub record OneByMarks (K : ℕ) (g : Graph) (c : ℕ) : Type 0 where
  pub entry : Entry
  pub level : Level
  pub class_is : entry.class ≡ c
  pub source_is : entry.source ≡ irq level
  pub cycle : Cycle K g (entry ∷ [])

-- ---- The table.

-- The marks in a mark byte.
abbrev pub marks_in : ℕ → ClassMarks
marks_in byte l u = eqb (byte / mark_bit l u % 2) 1

-- "one for each mark byte, yes exactly when they do"
unfoldable pub answer_of : ℕ → Bool
answer_of byte = clash (marks_in byte)

abbrev pub mark_bytes : ℕ
mark_bytes = 256

-- The table has these answers.
pub record Answers (table : List Bool) : Type 0 where
  pub are : (byte : ℕ) → byte < mark_bytes → get_or table byte false ≡ answer_of byte

-- ---- The calls.

-- Whether the answer is yes for the marks of some class below k.
pub record Clashing (desk : List ℕ) (k : ℕ) (r : Bool) : Type 0 where
  pub some : r ≡ true → (c : ℕ) × (c < k) × (answer_of (mark_of desk c) ≡ true)
  pub none : r ≡ false → (c : ℕ) → c < k → answer_of (mark_of desk c) ≡ false

-- Some cycle has at most n dependencies in every graph that words and marks are; with n 0 there is none. Where the answer is yes, n is 1.
pub record Bounded (desk rows : List ℕ) (K n : ℕ) : Type 0 where
  pub few : n ≤ K
  pub one : (c : ℕ) → c < K → answer_of (mark_of desk c) ≡ true → n ≡ 1
  pub none : n ≡ 0 → (g : Graph) → Rows K g rows → cyclic K g ≡ false
  pub some : 0 < n → (is_closed : Bool) (cores : ℕ → Core) (g : Graph) → DeskBytes K is_closed cores g.marks desk → Rows K g rows
      → (es : List Entry) × Cycle K g es × (length es ≤ n)

-- No bound as 0.
abbrev pub bound_number : Option ℕ → ℕ
bound_number None = 0
bound_number (Some n) = n
