-- Document 01, "Logs for the bench": the text of the answers, in ASCII.
use Rattle.std.specs.Prelude.{◌≡◌, cond, List, [], ◌∷◌, ◌++◌, ℕ, zero, suc, ◌+◌, ◌/◌, ◌%◌, ◌≤◌, ltb, length}
use Rattle.std.proofs.lemmas.List.Edits.{sets}
use Rattle.rules.specs.HeldLocks.{First, Second, E, S, R, N}
use Rattle.rules.specs.Marks.{hard_irq, soft_irq}
use Rattle.rules.specs.Graph.{Kind, Source, lock, irq}
use Rattle.layout.specs.Layout.{count_of}
use Rattle.rules.specs.Ranks.{kind_of_byte, source_of_byte}
use Rattle.layout.specs.Slip.{entries_of}
use Rattle.rules.specs.Limits.{max_classes}
use Rattle.rules.specs.Cycle.{Entry, entry_at, following}
use Rattle.outcome.specs.declared.Outcome.{Outcome}

-- The decimal digits of n, in at most `most` places.
unfoldable pub digits_in : (most n : ℕ) → List ℕ
digits_in zero n = []
digits_in (suc most) n = cond (ltb n 10) ((48 + n) ∷ []) (digits_in most (n / 10) ++ (48 + n % 10) ∷ [])

-- The decimal digits of n: a number has fewer places than it counts, but for 0, which has one.
unfoldable pub digits : ℕ → List ℕ
digits n = digits_in (suc n) n

-- "clean, N records"
abbrev pub clean_word : List ℕ
clean_word = 99 ∷ 108 ∷ 101 ∷ 97 ∷ 110 ∷ 44 ∷ 32 ∷ []

abbrev pub records_word : List ℕ
records_word = 32 ∷ 114 ∷ 101 ∷ 99 ∷ 111 ∷ 114 ∷ 100 ∷ 115 ∷ 10 ∷ []

unfoldable pub clean_text : (records : ℕ) → List ℕ
clean_text n = (clean_word ++ digits n) ++ records_word

-- "refused A at record I"
abbrev pub refused_word : List ℕ
refused_word = 114 ∷ 101 ∷ 102 ∷ 117 ∷ 115 ∷ 101 ∷ 100 ∷ 32 ∷ []

abbrev pub at_record_word : List ℕ
at_record_word = 32 ∷ 97 ∷ 116 ∷ 32 ∷ 114 ∷ 101 ∷ 99 ∷ 111 ∷ 114 ∷ 100 ∷ 32 ∷ []

abbrev pub line_end : List ℕ
line_end = 10 ∷ []

unfoldable pub refused_text : (answer at : ℕ) → List ℕ
refused_text answer at = (((refused_word ++ digits answer) ++ at_record_word) ++ digits at) ++ line_end

-- "refused A", of what has no record: a piece, a join
unfoldable pub refused_line : (answer : ℕ) → List ℕ
refused_line answer = (refused_word ++ digits answer) ++ line_end

-- "fault at record I"
abbrev pub fault_word : List ℕ
fault_word = 102 ∷ 97 ∷ 117 ∷ 108 ∷ 116 ∷ 32 ∷ 97 ∷ 116 ∷ 32 ∷ 114 ∷ 101 ∷ 99 ∷ 111 ∷ 114 ∷ 100 ∷ 32 ∷ []

unfoldable pub fault_text : (at : ℕ) → List ℕ
fault_text at = (fault_word ++ digits at) ++ line_end

-- "kinds ER EN SR SN", between spaces.
abbrev pub kind_text_by : First → Second → List ℕ
kind_text_by E R = 32 ∷ 69 ∷ 82 ∷ 32 ∷ []
kind_text_by E N = 32 ∷ 69 ∷ 78 ∷ 32 ∷ []
kind_text_by S R = 32 ∷ 83 ∷ 82 ∷ 32 ∷ []
kind_text_by S N = 32 ∷ 83 ∷ 78 ∷ 32 ∷ []

abbrev pub kind_text : Kind → List ℕ
kind_text k = kind_text_by k.first k.second

-- "Sources print as hold, hard, soft", after a space and at the end of a line.
abbrev pub source_text : Source → List ℕ
source_text lock = 32 ∷ 104 ∷ 111 ∷ 108 ∷ 100 ∷ 10 ∷ []
source_text (irq hard_irq) = 32 ∷ 104 ∷ 97 ∷ 114 ∷ 100 ∷ 10 ∷ []
source_text (irq soft_irq) = 32 ∷ 115 ∷ 111 ∷ 102 ∷ 116 ∷ 10 ∷ []

-- An entry of a cycle, as "1 EN 2 hold".
unfoldable pub entry_text : Entry → (to : ℕ) → List ℕ
entry_text e to = ((digits e.class ++ kind_text e.kind) ++ digits to) ++ source_text e.source

-- The first n lines of a cycle's text.
unfoldable pub lines_of : List Entry → ℕ → List ℕ
lines_of es zero = []
lines_of es (suc n) = lines_of es n ++ entry_text (entry_at es n) (following es n).class

-- The text of a cycle: a line for each entry.
abbrev pub cycle_text : List Entry → List ℕ
cycle_text es = lines_of es (length es)

-- The text stands in `after` from place `at` up to place `end`, and every other byte is as before.
pub record Appended (before : List ℕ) (at : ℕ) (text after : List ℕ) (end : ℕ) : Type 0 where
  pub end_is : end ≡ at + length text
  pub bytes : after ≡ sets before at text
  pub inside : end ≤ length after

-- Room for a line of text; for one of a cycle; and for the text of a cycle of up to 64 entries.
abbrev pub line_size : ℕ
line_size = 64

abbrev pub entry_line_size : ℕ
entry_line_size = 16

abbrev pub cycle_size : ℕ
cycle_size = 1024

-- The line of an entry whose bytes are given.
abbrev pub entry_of_bytes : (class kind source : ℕ) → Entry
entry_of_bytes class kind source = record { class = class; kind = kind_of_byte kind; source = source_of_byte source }

pub record EntryPut (before : List ℕ) (at class kind source to : ℕ) (after : List ℕ) (end : ℕ) : Type 0 where
  pub line : Appended before at (entry_text (entry_of_bytes class kind source) to) after end
  pub short : end ≤ at + entry_line_size

-- "read failed"
abbrev pub read_failed_text : List ℕ
read_failed_text = 114 ∷ 101 ∷ 97 ∷ 100 ∷ 32 ∷ 102 ∷ 97 ∷ 105 ∷ 108 ∷ 101 ∷ 100 ∷ 10 ∷ []

-- The whole text of what came of a log: what the program writes.
abbrev pub text_of : Outcome → (slip : List ℕ) → List ℕ
text_of (Outcome.Clean n) slip = clean_text n
text_of (Outcome.Refused answer i) slip = refused_text answer i
text_of (Outcome.Fault i) slip = fault_text i ++ cycle_text (entries_of slip)
text_of Outcome.Unread slip = read_failed_text

-- The slip of a fault has a cycle of at most 64 dependencies.
abbrev pub Showable : Outcome → (slip : List ℕ) → Type 0
Showable (Outcome.Clean n) slip = Unit {0}
Showable (Outcome.Refused answer i) slip = Unit {0}
Showable (Outcome.Fault i) slip = count_of slip ≤ max_classes
Showable Outcome.Unread slip = Unit {0}
