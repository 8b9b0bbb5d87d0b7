-- Document 01, "Logs for the bench": P1 to P12 with their variants and the refusal logs, as one table under one claim; requests a, c, e, h and i in tables of their own.
use Rattle.std.specs.Prelude.{Bool, true, false, List, [], ◌∷◌, ◌++◌, ℕ, ◌+◌, pred, replicate}
use Rattle.rules.specs.Record.{Bytes}
use Rattle.rules.specs.Context.{exit_hard}
use Rattle.rules.specs.HeldLocks.{E, N, HeldLock}
use Rattle.rules.specs.Marks.{Level, hard_irq, soft_irq, Usage, safe, unsafe}
use Rattle.rules.specs.Graph.{Kind, Source, lock, irq}
use Rattle.rules.specs.KindNames.{ER, EN, SN}
use Rattle.rules.specs.Cycle.{Entry}
use Rattle.rules.specs.Run.{State, start}

-- ---- Records: an acquire, a release, an interrupt event. The document's E, r, R are the modes exclusive, read, recursive.

abbrev pub exclusive : ℕ
exclusive = 0

abbrev pub read : ℕ
read = 1

abbrev pub recursive : ℕ
recursive = 2

-- The same by a successful try.
abbrev pub try_exclusive : ℕ
try_exclusive = 3

abbrev pub try_read : ℕ
try_read = 4

abbrev pub try_recursive : ℕ
try_recursive = 5

unfoldable pub says : ℕ → ℕ → ℕ → ℕ → Bytes
says core kind class mode = 0x4C ∷ 0x4B ∷ core ∷ kind ∷ class ∷ mode ∷ []

unfoldable pub takes : ℕ → ℕ → ℕ → Bytes
takes core class mode = says core 0 class mode

unfoldable pub frees : ℕ → ℕ → ℕ → Bytes
frees core class mode = says core 1 class mode

-- The other interrupt events by name.
abbrev pub hard_on : ℕ
hard_on = 0

abbrev pub hard_off : ℕ
hard_off = 1

abbrev pub soft_on : ℕ
soft_on = 2

abbrev pub soft_off : ℕ
soft_off = 3

abbrev pub enter_soft : ℕ
enter_soft = 4

abbrev pub enter_hard : ℕ
enter_hard = 6

unfoldable pub does : ℕ → ℕ → Bytes
does core event = says core (2 + event) 0 0

-- Opened with no class declared a crosslock.
abbrev pub plain : State
plain = start (λ c. false)

-- ---- Answers of n records: all 0, or all 0 up to the last.

unfoldable pub all_clean : ℕ → List ℕ
all_clean n = replicate n 0

unfoldable pub ends_with : ℕ → ℕ → List ℕ
ends_with n answer = replicate (pred n) 0 ++ (answer ∷ [])

unfoldable pub fault_at : ℕ → List ℕ
fault_at n = ends_with n 1

pub record Example : Type 0 where
  pub log : List Bytes
  pub given : List ℕ

unfoldable pub example : List Bytes → List ℕ → Example
example log given = record { log = log; given = given }

unfoldable pub p2 : List Bytes
p2 = takes 0 1 exclusive ∷ takes 0 2 exclusive ∷ frees 0 2 exclusive ∷ frees 0 1 exclusive ∷ takes 1 2 exclusive ∷ takes 1 1 exclusive ∷ []

unfoldable pub p6 : List Bytes
p6 = takes 0 0 recursive ∷ takes 0 0 recursive ∷ []

unfoldable pub table : List Example
table =
    -- P1 to P9
    example [] (all_clean 0)
    ∷ example p2 (fault_at 6)
    ∷ example (takes 0 0 recursive ∷ takes 0 1 exclusive ∷ takes 1 1 recursive ∷ takes 1 0 exclusive ∷ []) (fault_at 4)
    ∷ example (takes 0 0 exclusive ∷ takes 0 1 recursive ∷ takes 1 1 recursive ∷ takes 1 0 exclusive ∷ []) (all_clean 4)
    ∷ example (takes 0 0 exclusive ∷ takes 0 1 recursive ∷ takes 1 1 exclusive ∷ takes 1 0 recursive ∷ []) (fault_at 4)
    ∷ example p6 (all_clean 2)
    ∷ example (takes 0 0 recursive ∷ takes 0 0 read ∷ []) (fault_at 2)
    ∷ example (takes 0 0 exclusive ∷ takes 0 0 recursive ∷ []) (fault_at 2)
    ∷ example (takes 0 0 exclusive ∷ takes 0 1 recursive ∷ takes 0 2 exclusive ∷ takes 1 2 exclusive ∷ takes 1 0 exclusive ∷ []) (fault_at 5)
    -- P10, and both R
    ∷ example (takes 0 3 exclusive ∷ frees 0 3 exclusive ∷ does 0 enter_hard ∷ takes 0 3 exclusive ∷ []) (fault_at 4)
    ∷ example (takes 0 3 recursive ∷ frees 0 3 recursive ∷ does 0 enter_hard ∷ takes 0 3 recursive ∷ []) (all_clean 4)
    -- P11
    ∷ example
    (does 0 enter_hard ∷ takes 0 4 exclusive ∷ frees 0 4 exclusive ∷ does 0 exit_hard ∷ does 0 hard_off ∷ takes 0 4 exclusive ∷ takes 0 5 exclusive ∷ frees 0 5 exclusive ∷ frees 0 4 exclusive
    ∷ does 0 hard_on ∷ takes 0 5 exclusive ∷ [])
    (fault_at 11)
    -- P12, and without the soft off and on
    ∷ example (does 0 soft_off ∷ takes 0 6 exclusive ∷ frees 0 6 exclusive ∷ does 0 soft_on ∷ does 0 enter_soft ∷ takes 0 6 exclusive ∷ []) (all_clean 6)
    ∷ example (takes 0 6 exclusive ∷ frees 0 6 exclusive ∷ does 0 enter_soft ∷ takes 0 6 exclusive ∷ []) (fault_at 4)
    -- 0R forty-eight times, then 0R, and by a try (and 8R: 4 before 8); exit hard with a lock held; exit hard in state 0
    ∷ example (replicate 49 (takes 0 0 recursive) ++ (takes 0 0 try_recursive ∷ takes 0 8 recursive ∷ [])) (ends_with 49 8 ++ (8 ∷ 4 ∷ []))
    ∷ example (does 0 enter_hard ∷ takes 0 1 exclusive ∷ does 0 exit_hard ∷ []) (ends_with 3 7)
    ∷ example (does 0 exit_hard ∷ []) (ends_with 1 6)
    -- "a hard on with a hard-safe hold standing": the mark comes with the hard on
    ∷ example (does 0 enter_hard ∷ takes 0 4 exclusive ∷ frees 0 4 exclusive ∷ does 0 exit_hard ∷ does 0 hard_off ∷ takes 0 4 exclusive ∷ does 0 hard_on ∷ []) (fault_at 7)
    -- refusals that meet: 10 before 3, 3 before 4, 4 before 5
    ∷ example (takes 0 0 exclusive ∷ takes 0 0 exclusive ∷ [] ∷ takes 0 9 exclusive ∷ []) (0 ∷ 1 ∷ 10 ∷ 10 ∷ [])
    ∷ example (takes 0 8 6 ∷ takes 8 8 exclusive ∷ takes 0 8 exclusive ∷ frees 0 8 exclusive ∷ frees 0 7 exclusive ∷ []) (3 ∷ 3 ∷ 4 ∷ 4 ∷ 5 ∷ [])
    ∷ []

-- Request a, over four classes: what a try draws and marks, and what is refused.
unfoldable pub tries : List Example
tries =
    -- no dependency to a try, even of its own class; one from it, by the mode in which it is held
    example (takes 0 1 exclusive ∷ takes 0 1 try_exclusive ∷ []) (all_clean 2)
    ∷ example (takes 0 1 try_exclusive ∷ takes 0 1 exclusive ∷ []) (fault_at 2)
    ∷ example (takes 0 0 try_read ∷ takes 0 0 recursive ∷ []) (all_clean 2)
    ∷ example (takes 0 0 try_recursive ∷ takes 0 0 read ∷ []) (fault_at 2)
    -- P2 with the inner acquire of one order by a try, and with the outer one
    ∷ example (takes 0 1 exclusive ∷ takes 0 2 try_exclusive ∷ takes 1 2 exclusive ∷ takes 1 1 exclusive ∷ []) (all_clean 4)
    ∷ example (takes 0 1 try_exclusive ∷ takes 0 2 exclusive ∷ takes 1 2 exclusive ∷ takes 1 1 exclusive ∷ []) (fault_at 4)
    -- P10 by a try in the handler: clean, "then or later"; by a try in the task: fault
    ∷ example (takes 0 3 exclusive ∷ frees 0 3 exclusive ∷ does 0 enter_hard ∷ takes 0 3 try_exclusive ∷ takes 0 2 exclusive ∷ []) (all_clean 5)
    ∷ example (takes 0 3 try_exclusive ∷ frees 0 3 try_exclusive ∷ does 0 enter_hard ∷ takes 0 3 exclusive ∷ []) (fault_at 4)
    -- a try held over a hard on becomes hard-unsafe
    ∷ example
    (does 0 enter_hard ∷ takes 0 2 exclusive ∷ frees 0 2 exclusive ∷ does 0 exit_hard ∷ does 0 hard_off ∷ takes 0 2 try_exclusive ∷ does 0 hard_on ∷ [])
    (fault_at 7)
    -- marks are by class: another lock of it that is no try marks it safe; the try alone does not
    ∷ example
    (does 0 enter_hard ∷ takes 0 3 try_recursive ∷ takes 0 3 recursive ∷ frees 0 3 recursive ∷ frees 0 3 try_recursive ∷ does 0 exit_hard ∷ takes 0 3 exclusive ∷ [])
    (fault_at 7)
    ∷ example (does 0 enter_hard ∷ takes 0 3 try_recursive ∷ frees 0 3 try_recursive ∷ does 0 exit_hard ∷ takes 0 3 exclusive ∷ []) (all_clean 5)
    -- a release takes the newest, here a try: 1R stays, and 1 SN 2 after 2 ER 1 is weak
    ∷ example (takes 0 1 recursive ∷ takes 0 1 try_exclusive ∷ frees 0 1 try_exclusive ∷ takes 0 2 exclusive ∷ takes 1 2 exclusive ∷ takes 1 1 recursive ∷ []) (all_clean 6)
    -- a try of class K; mode 6, before 4; a release of a try with mode 0, and with its mode
    ∷ example (takes 0 4 try_exclusive ∷ takes 0 4 6 ∷ takes 0 1 try_exclusive ∷ frees 0 1 exclusive ∷ frees 0 1 try_exclusive ∷ []) (4 ∷ 3 ∷ 0 ∷ 5 ∷ 0 ∷ [])
    ∷ []

-- Request h, over three classes: which releases are refused with 5. A refused one leaves the lock held.
unfoldable pub release_cases : List Example
release_cases =
    -- another mode than the one taken; another origin, both ways
    example (takes 0 1 recursive ∷ frees 0 1 exclusive ∷ frees 0 1 read ∷ frees 0 1 recursive ∷ frees 0 1 recursive ∷ []) (0 ∷ 5 ∷ 5 ∷ 0 ∷ 5 ∷ [])
    ∷ example (takes 0 1 recursive ∷ frees 0 1 try_recursive ∷ []) (0 ∷ 5 ∷ [])
    ∷ example (takes 0 1 try_recursive ∷ frees 0 1 recursive ∷ frees 0 1 try_read ∷ frees 0 1 try_recursive ∷ []) (0 ∷ 5 ∷ 5 ∷ 0 ∷ [])
    -- the newest of the class must fit: an older one that would does not count, before the newest is released
    ∷ example (takes 0 1 exclusive ∷ takes 0 1 try_recursive ∷ frees 0 1 exclusive ∷ frees 0 1 try_recursive ∷ frees 0 1 exclusive ∷ []) (0 ∷ 0 ∷ 5 ∷ 0 ∷ 0 ∷ [])
    -- a newer lock of another class does not matter, whether it would fit or not
    ∷ example (takes 0 1 exclusive ∷ takes 0 2 recursive ∷ frees 0 1 recursive ∷ frees 0 1 exclusive ∷ frees 0 2 recursive ∷ []) (0 ∷ 0 ∷ 5 ∷ 0 ∷ 0 ∷ [])
    -- nor does one of another frame or of another core
    ∷ example
    (takes 0 1 recursive ∷ frees 1 1 recursive ∷ does 0 enter_hard ∷ frees 0 1 recursive ∷ takes 0 1 try_exclusive ∷ frees 0 1 recursive ∷ frees 0 1 try_exclusive
    ∷ does 0 exit_hard ∷ frees 0 1 recursive ∷ [])
    (0 ∷ 5 ∷ 0 ∷ 5 ∷ 0 ∷ 5 ∷ 0 ∷ 0 ∷ 0 ∷ [])
    -- mode 6 is 3, before 4 and 5; class K with mode 5 is 4, before 5; an event with a mode is 3 still
    ∷ example (frees 0 3 6 ∷ frees 0 1 6 ∷ frees 0 3 try_recursive ∷ frees 0 2 try_recursive ∷ says 0 2 0 1 ∷ []) (3 ∷ 3 ∷ 4 ∷ 5 ∷ 3 ∷ [])
    -- P2 with the outer acquire by a try is a fault (`tries`), and with its release put in it is clean: for demand 3 a release with mode 3 has to name its core
    ∷ example (takes 0 1 try_exclusive ∷ frees 0 1 try_exclusive ∷ takes 0 2 exclusive ∷ takes 1 2 exclusive ∷ takes 1 1 exclusive ∷ []) (all_clean 5)
    ∷ []

-- ---- Request c: which cycle is shown, where one record closes several.

abbrev pub goes : ℕ → Kind → Source → Entry
goes class kind source = record { class = class; kind = kind; source = source }

pub record CycleCase : Type 0 where
  pub classes : ℕ
  pub log : List Bytes
  pub shown : List Entry

unfoldable pub cycle_case : ℕ → List Bytes → List Entry → CycleCase
cycle_case classes log shown = record { classes = classes; log = log; shown = shown }

unfoldable pub cycle_cases : List CycleCase
cycle_cases =
    -- P2, as the document prints it
    cycle_case 3 p2 (goes 1 EN lock ∷ goes 2 EN lock ∷ [])
    -- the kind before the next class: 0 ER 2 before 0 EN 1
    ∷ cycle_case 3
    (takes 0 0 exclusive ∷ takes 0 1 exclusive ∷ frees 0 1 exclusive ∷ takes 0 2 recursive ∷ frees 0 2 recursive ∷ frees 0 0 exclusive ∷ takes 1 1 exclusive ∷ takes 1 2 exclusive
    ∷ takes 1 0 exclusive ∷ [])
    (goes 0 ER lock ∷ goes 2 EN lock ∷ [])
    -- the source before the next class: 0 EN 2 by a lock before 0 EN 1 by a hard interrupt
    ∷ cycle_case 3
    (does 0 enter_hard ∷ takes 0 1 exclusive ∷ frees 0 1 exclusive ∷ does 0 exit_hard ∷ takes 0 0 exclusive ∷ does 0 hard_off ∷ takes 0 2 exclusive ∷ does 1 hard_off
    ∷ takes 1 2 exclusive ∷ takes 1 1 exclusive ∷ takes 1 0 exclusive ∷ [])
    (goes 0 EN lock ∷ goes 2 EN lock ∷ [])
    -- the kind before the source: 0 ER 1 by a hard interrupt before 0 EN 1 by a lock
    ∷ cycle_case 2
    (does 0 enter_hard ∷ takes 0 1 recursive ∷ frees 0 1 recursive ∷ does 0 exit_hard ∷ takes 0 0 exclusive ∷ does 0 hard_off ∷ takes 0 1 exclusive ∷ does 1 hard_off
    ∷ takes 1 1 exclusive ∷ takes 1 0 exclusive ∷ [])
    (goes 0 ER (irq hard_irq) ∷ goes 1 EN lock ∷ [])
    -- 0 ER 1 is barred by the joint at 1, and 1 ER 0 by the closing joint
    ∷ cycle_case 2
    (takes 0 0 exclusive ∷ takes 0 1 recursive ∷ frees 0 1 recursive ∷ takes 0 1 exclusive ∷ takes 1 1 read ∷ takes 1 0 exclusive ∷ [])
    (goes 0 EN lock ∷ goes 1 SN lock ∷ [])
    ∷ cycle_case 2
    (takes 0 1 exclusive ∷ takes 0 0 recursive ∷ frees 0 0 recursive ∷ takes 0 0 exclusive ∷ takes 1 0 read ∷ takes 1 1 exclusive ∷ [])
    (goes 0 SN lock ∷ goes 1 EN lock ∷ [])
    -- the fewest before the lowest: 2, 3 before 0, 1, 2
    ∷ cycle_case 4
    (takes 0 2 exclusive ∷ takes 0 3 exclusive ∷ frees 0 3 exclusive ∷ takes 0 0 exclusive ∷ frees 0 2 exclusive ∷ takes 0 1 exclusive ∷ takes 1 1 exclusive ∷ takes 1 3 exclusive
    ∷ takes 1 2 exclusive ∷ [])
    (goes 2 EN lock ∷ goes 3 EN lock ∷ [])
    -- request e: the next class, though the pair 0, 1 has a higher number than 0, 2
    ∷ cycle_case 3
    (takes 0 0 exclusive ∷ takes 0 2 exclusive ∷ frees 0 2 exclusive ∷ takes 0 1 exclusive ∷ takes 1 1 exclusive ∷ takes 1 2 exclusive ∷ takes 1 0 exclusive ∷ [])
    (goes 0 EN lock ∷ goes 1 EN lock ∷ [])
    ∷ []

-- ---- What is drawn, where no answer from opening shows it.

pub record DrawnCase : Type 0 where
  pub log : List Bytes
  pub from : ℕ
  pub to : ℕ
  pub drawn : Bool

unfoldable pub drawn_case : List Bytes → ℕ → ℕ → Bool → DrawnCase
drawn_case log from to drawn = record { log = log; from = from; to = to; drawn = drawn }

-- Whether an EN lock dependency is drawn: none across frames, one from every lock of the frame, none to a try.
unfoldable pub drawn_cases : List DrawnCase
drawn_cases =
    drawn_case (takes 0 1 exclusive ∷ does 0 enter_hard ∷ takes 0 2 exclusive ∷ takes 0 3 exclusive ∷ takes 0 4 exclusive ∷ []) 1 2 false
    ∷ drawn_case (takes 0 1 exclusive ∷ does 0 enter_hard ∷ takes 0 2 exclusive ∷ takes 0 3 exclusive ∷ takes 0 4 exclusive ∷ []) 2 4 true
    ∷ drawn_case (takes 0 1 exclusive ∷ takes 1 2 exclusive ∷ []) 1 2 false
    ∷ drawn_case (takes 0 1 exclusive ∷ takes 0 2 try_exclusive ∷ takes 0 3 exclusive ∷ []) 1 2 false
    ∷ drawn_case (takes 0 1 exclusive ∷ takes 0 2 try_exclusive ∷ takes 0 3 exclusive ∷ []) 2 3 true
    ∷ []

pub record MarkCase : Type 0 where
  pub log : List Bytes
  pub class : ℕ
  pub level : Level
  pub usage : Usage
  pub set : Bool

unfoldable pub mark_case : List Bytes → ℕ → Level → Usage → Bool → MarkCase
mark_case log class level usage set = record { log = log; class = class; level = level; usage = usage; set = set }

-- Whether a mark is set: a try in a soft handler is hard-unsafe and not soft-safe, in a hard handler it is neither, at the acquire and after the next
-- record.
unfoldable pub mark_cases : List MarkCase
mark_cases =
    mark_case (does 0 enter_soft ∷ takes 0 2 try_exclusive ∷ takes 0 3 exclusive ∷ []) 2 hard_irq (unsafe E) true
    ∷ mark_case (does 0 enter_soft ∷ takes 0 2 try_exclusive ∷ takes 0 3 exclusive ∷ []) 2 soft_irq (safe N) false
    ∷ mark_case (does 0 enter_soft ∷ takes 0 2 try_exclusive ∷ takes 0 3 exclusive ∷ []) 3 soft_irq (safe N) true
    ∷ mark_case (does 0 enter_hard ∷ takes 0 2 try_exclusive ∷ takes 0 3 exclusive ∷ []) 2 hard_irq (safe N) false
    ∷ mark_case (does 0 enter_hard ∷ takes 0 2 try_exclusive ∷ takes 0 3 exclusive ∷ []) 2 hard_irq (unsafe E) false
    ∷ []

-- ---- Request e: how many records are accepted, and which number a pair gets.

pub record NumberCase : Type 0 where
  pub log : List Bytes
  pub from : ℕ
  pub to : ℕ
  pub numbers : List ℕ

-- The count, and the pair's number.
unfoldable pub number_case : List Bytes → ℕ → ℕ → ℕ → ℕ → NumberCase
number_case log from to count number = record { log = log; from = from; to = to; numbers = count ∷ number ∷ [] }

unfoldable pub number_cases : List NumberCase
number_cases =
    -- P2: the record that is answered 1 is counted, and has its own number
    number_case p2 1 2 6 2
    ∷ number_case p2 2 1 6 6
    ∷ number_case p2 1 1 6 0
    -- refused records are not: the fourth record is the second accepted; after the fault none is
    ∷ number_case (takes 0 0 exclusive ∷ frees 0 1 exclusive ∷ [] ∷ takes 0 1 exclusive ∷ []) 0 1 2 2
    ∷ number_case (takes 0 0 exclusive ∷ takes 0 0 exclusive ∷ takes 1 0 exclusive ∷ takes 1 1 exclusive ∷ []) 0 0 2 2
    -- a second kind keeps the number
    ∷ number_case (takes 0 0 exclusive ∷ takes 0 1 recursive ∷ frees 0 1 recursive ∷ takes 0 1 exclusive ∷ []) 0 1 4 2
    -- one from every lock of the frame; none to a try, nor by marks alone
    ∷ number_case (takes 0 0 exclusive ∷ takes 0 1 exclusive ∷ takes 0 2 exclusive ∷ []) 0 2 3 3
    ∷ number_case (takes 0 0 exclusive ∷ takes 0 1 try_exclusive ∷ takes 0 2 exclusive ∷ []) 0 1 3 0
    ∷ number_case (does 0 enter_hard ∷ takes 0 1 exclusive ∷ frees 0 1 exclusive ∷ does 0 exit_hard ∷ takes 0 0 exclusive ∷ []) 0 1 5 0
    ∷ []

-- Records that meet the limit: `before` leads to a state, which is taken with so many records accepted.
pub record LimitCase : Type 0 where
  pub before : List Bytes
  pub accepted : ℕ
  pub log : List Bytes
  pub given : List ℕ

unfoldable pub limit_case : List Bytes → ℕ → List Bytes → List ℕ → LimitCase
limit_case before accepted log given = record { before = before; accepted = accepted; log = log; given = given }

unfoldable pub limit_cases : List LimitCase
limit_cases =
    -- one more at 4,294,967,294; then 9 for what would be accepted, also what draws nothing, and every other refusal before it
    limit_case [] 4294967294
    (takes 0 0 exclusive ∷ takes 0 1 exclusive ∷ frees 0 0 exclusive ∷ does 0 hard_off ∷ frees 0 1 exclusive ∷ frees 0 0 read ∷ does 0 exit_hard ∷ takes 0 3 exclusive ∷ [] ∷ [])
    (0 ∷ 9 ∷ 9 ∷ 9 ∷ 5 ∷ 5 ∷ 6 ∷ 4 ∷ 3 ∷ [])
    ∷ limit_case (does 0 enter_hard ∷ takes 0 0 exclusive ∷ []) 4294967295 (does 0 exit_hard ∷ []) (7 ∷ [])
    ∷ limit_case (replicate 48 (takes 0 0 try_recursive)) 4294967295 (takes 0 0 recursive ∷ []) (8 ∷ [])
    -- the last one may be a fault, and then all get 10
    ∷ limit_case (takes 0 0 exclusive ∷ []) 4294967294 (takes 0 0 exclusive ∷ takes 0 1 exclusive ∷ []) (1 ∷ 10 ∷ [])
    ∷ []

-- Request i: two logs of three classes, each run from opening, and their join: its answer, then those of the records stepped on the joined desk, and the number
-- that a pair has at the end.
pub record JoinCase : Type 0 where
  pub first : List Bytes
  pub second : List Bytes
  pub answer : ℕ
  pub after : List Bytes
  pub given : List ℕ
  pub from : ℕ
  pub to : ℕ
  pub number : ℕ

unfoldable pub join_case : (first second : List Bytes) → ℕ → (after : List Bytes) → List ℕ → (from to number : ℕ) → JoinCase
join_case first second answer after given from to number =
    record { first = first; second = second; answer = answer; after = after; given = given; from = from; to = to; number = number }

unfoldable pub join_cases : List JoinCase
join_cases =
    -- opposite orders, each clean by itself: a fault, and the joined desk is closed
    join_case (takes 0 1 exclusive ∷ takes 0 2 exclusive ∷ []) (takes 0 2 exclusive ∷ takes 0 1 exclusive ∷ []) 1 (takes 0 0 exclusive ∷ []) (10 ∷ []) 2 1 2
    -- the marks of both: unsafe on one bench, safe on the other
    ∷ join_case (takes 0 0 exclusive ∷ []) (does 0 enter_hard ∷ takes 0 0 exclusive ∷ []) 1 [] [] 0 0 0
    -- opposite orders that are not strong
    ∷ join_case (takes 0 0 exclusive ∷ takes 0 1 recursive ∷ []) (takes 0 1 recursive ∷ takes 0 0 exclusive ∷ []) 0 [] [] 1 0 2
    -- a pair of both: the kind that makes the fault later is the second bench's, the number the first's
    ∷ join_case (takes 0 0 exclusive ∷ takes 0 1 recursive ∷ []) (takes 0 2 exclusive ∷ takes 0 0 exclusive ∷ takes 0 1 exclusive ∷ []) 0
    (takes 1 1 recursive ∷ takes 1 0 exclusive ∷ []) (0 ∷ 1 ∷ []) 0 1 2
    -- the second bench's number where the first has none; it stays
    ∷ join_case [] (takes 0 2 exclusive ∷ takes 0 0 exclusive ∷ takes 0 1 exclusive ∷ []) 0 (takes 0 0 exclusive ∷ takes 0 1 exclusive ∷ []) (0 ∷ 0 ∷ []) 0 1 3
    -- a new pair is numbered from the joined desk's count, which is 0
    ∷ join_case (takes 0 0 exclusive ∷ takes 0 1 exclusive ∷ []) (takes 0 0 exclusive ∷ []) 0 (takes 0 1 exclusive ∷ takes 0 2 exclusive ∷ []) (0 ∷ 0 ∷ []) 1 2 2
    -- the cores are fresh: no lock is held, and no handler runs
    ∷ join_case (takes 0 0 exclusive ∷ does 0 enter_hard ∷ takes 0 1 exclusive ∷ []) (takes 0 0 exclusive ∷ []) 0
    (frees 0 0 exclusive ∷ does 0 exit_hard ∷ takes 0 2 exclusive ∷ []) (5 ∷ 6 ∷ 0 ∷ []) 0 2 0
    ∷ []

abbrev pub lock_of : ℕ → ℕ → HeldLock
lock_of class mode = record { class = class; mode = mode }
