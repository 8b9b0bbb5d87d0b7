-- The successor words by the bytes of the desk and of the sheet.
use Rattle.std.specs.Prelude.{◌≡◌, Bool, List, ℕ, ◌+◌, ◌*◌, ◌<◌, ◌≤◌, min, max, length, get_or, set}
use Rattle.words.specs.Bits.{bit}
use Rattle.rules.specs.Limits.{max_classes}
use Rattle.rules.specs.HeldLocks.{First, Second, E, S, R, N, Core}
use Rattle.rules.specs.Marks.{Marks, Level, hard_irq, soft_irq, Usage, safe, unsafe}
use Rattle.rules.specs.Graph.{Kind, Dependencies}
use Rattle.layout.specs.Layout.{desk_size, marks_at, mark_of, kinds_of}
use Rattle.layout.specs.Encoding.{DeskBytes, SheetBytes}
use Rattle.search.specs.Rows.{kind_index, row_at, Rows, Ranged}
use Rattle.successors.specs.Column.{column, kind_word}
use Rattle.successors.specs.declared.KindWords.{KindWords}
use Rattle.successors.specs.declared.SafeWords.{SafeWords}
use Rattle.successors.specs.declared.Irq.{Irq}
use Rattle.successors.specs.declared.Irq.TheVariants.{Hard, Soft}
use Rattle.successors.specs.declared.Mark.{Mark}
use Rattle.successors.specs.declared.Mark.TheVariants.{SafeN, SafeR, UnsafeE, UnsafeS}

-- The buffers are long enough for k classes.
pub record Ready (desk sheet : List ℕ) (k : ℕ) : Type 0 where
  pub long : desk_size ≤ length desk
  pub few : k ≤ max_classes
  pub room : k * k ≤ length sheet

-- The digit of a usage mark in a class's mark byte: the level's first digit, and the usage's place from there.
abbrev pub level_digit : Level → ℕ
level_digit hard_irq = 0
level_digit soft_irq = 4

abbrev pub usage_digit : Usage → ℕ
usage_digit (safe N) = 0
usage_digit (safe R) = 1
usage_digit (unsafe E) = 2
usage_digit (unsafe S) = 3

-- The same of the code's levels and marks.
abbrev pub level_number : Irq → ℕ
level_number Hard = 0
level_number Soft = 4

abbrev pub mark_number : Mark → ℕ
mark_number SafeN = 0
mark_number SafeR = 1
mark_number UnsafeE = 2
mark_number UnsafeS = 3

abbrev pub mark_digit : Irq → Mark → ℕ
mark_digit level mark = mark_number mark + level_number level

-- Whether an unsafe mark of the digit d meets a safe mark at the same level.
abbrev pub irq_digit : (mark d hard soft : ℕ) → ℕ
irq_digit mark d hard soft = max (min (bit mark (d + level_digit hard_irq)) hard) (min (bit mark (d + level_digit soft_irq)) soft)

-- The word of a safe mark.
abbrev pub safe_of : SafeWords → Second → ℕ
safe_of w N = w.n
safe_of w R = w.r

-- The classes below k with a safe mark of the level whose first digit is d.
pub record SafeColumns (desk : List ℕ) (k d : ℕ) (w : SafeWords) : Type 0 where
  pub n : w.n ≡ column desk marks_at d k
  pub r : w.r ≡ column desk marks_at (d + 1) k

-- r has the lock dependencies and the interrupt dependencies of a class with the given mark byte.
pub record WithIrq (mark : ℕ) (hard soft : SafeWords) (locks r : KindWords) : Type 0 where
  pub at : (a : First) (b : Second) (t : ℕ)
      → bit (kind_word r a b) t
      ≡ max (bit (kind_word locks a b) t) (irq_digit mark (usage_digit (unsafe a)) (bit (safe_of hard b) t) (bit (safe_of soft b) t))

-- The dependency of a kind from class c to class t as a binary digit.
abbrev pub dependency_digit : (desk sheet : List ℕ) (k c t : ℕ) → First → Second → ℕ
dependency_digit desk sheet k c t a b =
    max (bit (kinds_of sheet k c t) (kind_index (record { first = a; second = b })))
    (irq_digit (mark_of desk c) (usage_digit (unsafe a))
    (bit (mark_of desk t) (usage_digit (safe b) + level_digit hard_irq)) (bit (mark_of desk t) (usage_digit (safe b) + level_digit soft_irq)))

-- The word of class c and a kind.
pub record RowWord (desk sheet : List ℕ) (k c : ℕ) (a : First) (b : Second) (word : ℕ) : Type 0 where
  pub inside : (t : ℕ) → t < k → bit word t ≡ dependency_digit desk sheet k c t a b
  pub outside : (t : ℕ) → k ≤ t → bit word t ≡ 0

-- The four words of class c.
pub record ClassWords (desk sheet : List ℕ) (k c : ℕ) (w : KindWords) : Type 0 where
  pub word : (a : First) (b : Second) → RowWord desk sheet k c a b (kind_word w a b)

-- The rows with the words of class c.
abbrev pub stored : List ℕ → ℕ → KindWords → List ℕ
stored rows c w = set (set (set (set rows (4 * c) w.er) (4 * c + 1) w.en) (4 * c + 2) w.sr) (4 * c + 3) w.sn

-- The words of the classes below n; the others are 0.
pub record Filled (desk sheet : List ℕ) (k n : ℕ) (rows : List ℕ) : Type 0 where
  pub size : length rows ≡ 4 * max_classes
  pub words : (c : ℕ) (kd : Kind) → c < n → RowWord desk sheet k c kd.first kd.second (row_at rows c kd)
  pub rest : (j : ℕ) → 4 * n ≤ j → get_or rows j 0 ≡ 0

-- The words are the dependency graph of every state that the bytes encode. Whatever the bytes are, a successor is below k, and the words of the
-- classes from k on are 0.
pub record Successors (desk sheet : List ℕ) (k : ℕ) (rows : List ℕ) : Type 0 where
  pub graph : (K : ℕ) (is_closed : Bool) (cores : ℕ → Core) (marks : Marks) (locks : Dependencies)
      → k ≡ K → DeskBytes K is_closed cores marks desk → SheetBytes K locks sheet
      → Rows K (record { locks = locks; marks = marks }) rows
  pub ranged : Ranged k rows
  pub size : length rows ≡ 4 * max_classes
  pub rest : (j : ℕ) → 4 * k ≤ j → get_or rows j 0 ≡ 0
