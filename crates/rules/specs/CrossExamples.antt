-- Document 02, j: logs with crosslocks in tables, over four classes of which 2 and 3 are crosslocks; and the logs that show why demand 3 has its limits there.
use Rattle.std.specs.Prelude.{Bool, true, false, cond, ◌||◌, List, [], ◌∷◌, ◌++◌, ℕ, zero, suc, ◌+◌, eqb, ltb, replicate}
use Rattle.std.proofs.Math.Option.{some}
use Rattle.rules.specs.Record.{Bytes}
use Rattle.rules.specs.Context.{task, exit_soft, exit_hard}
use Rattle.rules.specs.HeldLocks.{E, N}
use Rattle.rules.specs.Marks.{hard_irq, soft_irq, safe, unsafe}
use Rattle.rules.specs.Graph.{Kind, empty_graph, kind_bit}
use Rattle.rules.specs.KindNames.{ER, EN, SR, SN}
use Rattle.rules.specs.Crosslocks.{Kept, with_history}
use Rattle.rules.specs.Run.{State, start}
use Rattle.rules.specs.Examples.{exclusive, read, recursive, try_exclusive, try_read, try_recursive, says, takes, frees, does, hard_off, soft_off, enter_soft, enter_hard, all_clean, ends_with, fault_at, Example, example, MarkCase, mark_case, NumberCase, number_case}

unfoldable pub cross_takes : ℕ → ℕ → Bytes
cross_takes core class = says core 10 class 0

unfoldable pub commits : ℕ → ℕ → Bytes
commits core class = says core 11 class 0

unfoldable pub cross_frees : ℕ → ℕ → Bytes
cross_frees core class = says core 12 class 0

abbrev pub crossed : State
crossed = start (λ c. eqb c 2 || eqb c 3)

-- Core 0 waits for the completion while it holds 1; core 1 takes 1 before it completes.
unfoldable pub completion : List Bytes
completion = takes 0 1 exclusive ∷ cross_takes 0 3 ∷ takes 1 1 exclusive ∷ commits 1 3 ∷ []

-- ---- Answers from opening.

unfoldable pub cross_table : List Example
cross_table =
    -- a fault at the commit; the crosslock's joints are strong, the lock's as ever: by ER 1 EN, by EN 1 SN, and not by ER 1 SN
    example (completion ++ (cross_takes 2 2 ∷ [])) (0 ∷ 0 ∷ 0 ∷ 1 ∷ 10 ∷ [])
    ∷ example (takes 0 1 exclusive ∷ cross_takes 0 3 ∷ takes 1 1 recursive ∷ commits 1 3 ∷ []) (fault_at 4)
    ∷ example (takes 0 1 read ∷ cross_takes 0 3 ∷ takes 1 1 exclusive ∷ commits 1 3 ∷ []) (fault_at 4)
    ∷ example (takes 0 1 recursive ∷ cross_takes 0 3 ∷ takes 1 1 recursive ∷ commits 1 3 ∷ []) (all_clean 4)
    -- from a try too, and none to a try
    ∷ example (takes 0 1 try_exclusive ∷ cross_takes 0 3 ∷ takes 1 1 exclusive ∷ commits 1 3 ∷ []) (fault_at 4)
    ∷ example (takes 0 1 exclusive ∷ cross_takes 0 3 ∷ takes 1 1 try_exclusive ∷ commits 1 3 ∷ []) (all_clean 4)
    -- the other way about: a fault at the crosslock's take
    ∷ example (cross_takes 0 3 ∷ takes 1 1 exclusive ∷ frees 1 1 exclusive ∷ commits 1 3 ∷ cross_frees 2 3 ∷ takes 0 1 exclusive ∷ cross_takes 0 3 ∷ []) (fault_at 7)
    -- another core's commit is fine and has no take to draw to; a release does not commit
    ∷ example (takes 0 1 exclusive ∷ cross_takes 0 3 ∷ takes 1 1 exclusive ∷ commits 2 3 ∷ []) (all_clean 4)
    ∷ example (takes 0 1 exclusive ∷ cross_takes 0 3 ∷ takes 1 1 exclusive ∷ cross_frees 1 3 ∷ commits 1 3 ∷ []) (ends_with 5 17)
    -- any core commits, as often as it likes, and releases; a commit does not end it; a class may be taken again and stays a crosslock
    ∷ example
    (commits 0 3 ∷ cross_frees 0 3 ∷ cross_takes 0 3 ∷ commits 1 3 ∷ commits 1 3 ∷ commits 0 3 ∷ cross_takes 1 3 ∷ cross_frees 2 3 ∷ cross_frees 2 3 ∷ commits 0 3
    ∷ takes 0 3 exclusive ∷ cross_takes 1 3 ∷ [])
    (17 ∷ 17 ∷ 0 ∷ 0 ∷ 0 ∷ 0 ∷ 16 ∷ 0 ∷ 17 ∷ 17 ∷ 15 ∷ 0 ∷ [])
    -- 15, before 5 and 17; 4 before it, and 3 before that: a mode, kind 13, a core; an event with a class
    ∷ example
    (takes 0 3 exclusive ∷ takes 0 2 try_exclusive ∷ takes 0 3 try_recursive ∷ frees 0 3 exclusive ∷ frees 0 2 try_read ∷ cross_takes 0 1 ∷ commits 0 1 ∷ cross_frees 0 1 ∷ [])
    (15 ∷ 15 ∷ 15 ∷ 15 ∷ 15 ∷ 15 ∷ 15 ∷ 15 ∷ [])
    ∷ example
    (cross_takes 0 4 ∷ commits 0 4 ∷ cross_frees 0 4 ∷ says 0 10 3 1 ∷ says 0 11 3 3 ∷ says 0 12 4 1 ∷ says 0 13 3 0 ∷ cross_takes 8 3 ∷ says 0 9 3 0 ∷ [])
    (4 ∷ 4 ∷ 4 ∷ 3 ∷ 3 ∷ 3 ∷ 3 ∷ 3 ∷ 3 ∷ [])
    -- in every sort of state, and it is no lock that a handler would have to release: soft off and both off, hard off
    ∷ example (does 0 soft_off ∷ cross_takes 0 3 ∷ does 0 hard_off ∷ commits 0 3 ∷ cross_takes 0 2 ∷ cross_frees 0 3 ∷ []) (all_clean 6)
    ∷ example (does 0 hard_off ∷ cross_takes 0 3 ∷ commits 0 3 ∷ cross_frees 0 3 ∷ []) (all_clean 4)
    -- a soft handler, hard on and off
    ∷ example (does 0 enter_soft ∷ cross_takes 0 3 ∷ commits 0 3 ∷ cross_frees 0 3 ∷ cross_takes 0 3 ∷ does 0 exit_soft ∷ commits 0 3 ∷ []) (all_clean 7)
    ∷ example (does 0 enter_soft ∷ does 0 hard_off ∷ cross_takes 0 3 ∷ commits 0 3 ∷ cross_frees 0 3 ∷ []) (all_clean 5)
    -- a hard handler over a task, over soft off, over a soft one
    ∷ example (does 0 enter_hard ∷ cross_takes 0 3 ∷ commits 0 3 ∷ cross_frees 0 3 ∷ cross_takes 0 3 ∷ does 0 exit_hard ∷ cross_frees 0 3 ∷ []) (all_clean 7)
    ∷ example (does 0 soft_off ∷ does 0 enter_hard ∷ cross_takes 0 3 ∷ commits 0 3 ∷ cross_frees 0 3 ∷ []) (all_clean 5)
    ∷ example (does 0 enter_soft ∷ does 0 enter_hard ∷ cross_takes 0 3 ∷ commits 0 3 ∷ cross_frees 0 3 ∷ []) (all_clean 5)
    ∷ []

-- With no class declared, and where 4 and 3 are before it.
unfoldable pub undeclared : Example
undeclared =
    example (cross_takes 0 1 ∷ commits 0 1 ∷ cross_frees 0 1 ∷ cross_takes 0 4 ∷ says 0 10 1 1 ∷ takes 0 3 exclusive ∷ []) (15 ∷ 15 ∷ 15 ∷ 4 ∷ 3 ∷ 0 ∷ [])

-- ---- What is drawn: bytes of the sheet, which have no bit but these.

pub record Cell : Type 0 where
  pub from : ℕ
  pub to : ℕ
  pub byte : ℕ

abbrev pub drawn : (from to : ℕ) → Kind → Cell
drawn from to kind = record { from = from; to = to; byte = kind_bit kind }

abbrev pub drawn_none : (from to : ℕ) → Cell
drawn_none from to = record { from = from; to = to; byte = 0 }

pub record SheetCase : Type 0 where
  pub log : List Bytes
  pub cells : List Cell

unfoldable pub sheet_case : List Bytes → List Cell → SheetCase
sheet_case log cells = record { log = log; cells = cells }

abbrev bit_if : (Kind → Bool) → Kind → ℕ
bit_if d k = cond (d k) (kind_bit k) 0

abbrev pub sheet_byte : (Kind → Bool) → ℕ
sheet_byte d = bit_if d ER + bit_if d EN + bit_if d SR + bit_if d SN

-- Core 0 takes and releases 1 while crosslock 3 is in progress.
unfoldable pub taken_since : ℕ → List Bytes
taken_since mode = cross_takes 0 3 ∷ takes 0 1 mode ∷ frees 0 1 mode ∷ []

-- The same in a handler of core 1, and the handler is left.
unfoldable pub visited : (enter exit : ℕ) → List Bytes
visited enter exit = cross_takes 0 3 ∷ does 1 enter ∷ takes 1 1 exclusive ∷ frees 1 1 exclusive ∷ does 1 exit ∷ []

-- A take in a soft handler, one in a hard handler over it, and that one is left.
unfoldable pub hard_over_soft : List Bytes
hard_over_soft =
    cross_takes 0 3 ∷ does 1 enter_soft ∷ takes 1 1 exclusive ∷ does 1 enter_hard ∷ takes 1 0 exclusive ∷ frees 1 0 exclusive ∷ does 1 exit_hard ∷ []

unfoldable pub sheet_cases : List SheetCase
sheet_cases =
    -- to a crosslock, from every lock of the frame, by its mode, by a try as well
    sheet_case (takes 0 0 exclusive ∷ takes 0 1 read ∷ cross_takes 0 3 ∷ []) (drawn 0 3 EN ∷ drawn 1 3 SN ∷ [])
    ∷ sheet_case (takes 0 0 recursive ∷ takes 0 1 try_exclusive ∷ cross_takes 0 3 ∷ []) (drawn 0 3 SN ∷ drawn 1 3 EN ∷ [])
    ∷ sheet_case (takes 0 0 try_read ∷ takes 0 1 try_recursive ∷ cross_takes 0 3 ∷ []) (drawn 0 3 SN ∷ drawn 1 3 SN ∷ [])
    -- not from a frame that was interrupted; from the task's again when the handler is left
    ∷ sheet_case (takes 0 0 exclusive ∷ does 0 enter_soft ∷ takes 0 1 exclusive ∷ cross_takes 0 3 ∷ []) (drawn_none 0 3 ∷ drawn 1 3 EN ∷ [])
    ∷ sheet_case (does 0 enter_soft ∷ takes 0 0 exclusive ∷ does 0 enter_hard ∷ takes 0 1 exclusive ∷ cross_takes 0 3 ∷ []) (drawn_none 0 3 ∷ drawn 1 3 EN ∷ [])
    ∷ sheet_case (takes 0 0 exclusive ∷ does 0 enter_hard ∷ cross_takes 0 3 ∷ does 0 exit_hard ∷ cross_takes 0 2 ∷ []) (drawn_none 0 3 ∷ drawn 0 2 EN ∷ [])
    -- not from another core, nor from what is released, nor by a take that is refused
    ∷ sheet_case (takes 1 0 exclusive ∷ takes 0 1 exclusive ∷ frees 0 1 exclusive ∷ cross_takes 0 3 ∷ cross_takes 1 3 ∷ []) (drawn_none 0 3 ∷ drawn_none 1 3 ∷ [])
    -- from a crosslock, by the commit and not before it: to each take since, which may be released
    ∷ sheet_case (taken_since exclusive ++ (takes 0 0 recursive ∷ cross_takes 1 2 ∷ [])) (drawn_none 3 0 ∷ drawn_none 3 1 ∷ [])
    ∷ sheet_case (taken_since exclusive ++ (takes 0 0 recursive ∷ commits 0 3 ∷ [])) (drawn 3 0 ER ∷ drawn 3 1 EN ∷ [])
    ∷ sheet_case (taken_since read ++ (commits 0 3 ∷ [])) (drawn 3 1 EN ∷ [])
    ∷ sheet_case (taken_since recursive ++ (takes 0 1 exclusive ∷ commits 0 3 ∷ [])) (record { from = 3; to = 1; byte = kind_bit ER + kind_bit EN } ∷ [])
    -- not by another core, not by the release; not to a try
    ∷ sheet_case (taken_since exclusive ++ (commits 1 3 ∷ [])) (drawn_none 3 1 ∷ [])
    ∷ sheet_case (taken_since exclusive ++ (cross_frees 0 3 ∷ [])) (drawn_none 3 1 ∷ [])
    ∷ sheet_case (cross_takes 0 3 ∷ takes 0 0 try_exclusive ∷ takes 0 1 try_recursive ∷ commits 0 3 ∷ []) (drawn_none 3 0 ∷ drawn_none 3 1 ∷ [])
    -- not to a take before the crosslock's, nor after the commit, but by the next commit
    ∷ sheet_case (takes 1 1 exclusive ∷ cross_takes 0 3 ∷ commits 1 3 ∷ takes 1 0 exclusive ∷ []) (drawn_none 3 0 ∷ drawn_none 3 1 ∷ [])
    ∷ sheet_case (cross_takes 0 3 ∷ commits 1 3 ∷ takes 1 1 exclusive ∷ commits 1 3 ∷ []) (drawn 3 1 EN ∷ [])
    -- each crosslock since its own take, the last one: also where the history was not emptied
    ∷ sheet_case (taken_since exclusive ++ (cross_frees 0 3 ∷ cross_takes 0 3 ∷ commits 0 3 ∷ [])) (drawn_none 3 1 ∷ [])
    ∷ sheet_case (cross_takes 0 2 ∷ takes 1 1 exclusive ∷ cross_takes 0 3 ∷ commits 1 3 ∷ commits 1 2 ∷ []) (drawn_none 3 1 ∷ drawn 2 1 EN ∷ [])
    ∷ sheet_case (cross_takes 0 2 ∷ taken_since exclusive ++ (cross_frees 0 3 ∷ cross_takes 0 3 ∷ commits 0 3 ∷ commits 0 2 ∷ [])) (drawn_none 3 1 ∷ drawn 2 1 EN ∷ [])
    -- not to another frame's takes; the task's frame never ends
    ∷ sheet_case (taken_since exclusive ++ (does 0 enter_soft ∷ commits 0 3 ∷ does 0 enter_hard ∷ commits 0 3 ∷ [])) (drawn_none 3 1 ∷ [])
    ∷ sheet_case (taken_since exclusive ++ (does 0 enter_soft ∷ does 0 exit_soft ∷ does 0 enter_hard ∷ does 0 exit_hard ∷ commits 0 3 ∷ [])) (drawn 3 1 EN ∷ [])
    ∷ sheet_case (visited enter_hard exit_hard ++ (commits 1 3 ∷ [])) (drawn_none 3 1 ∷ [])
    -- an earlier visit of the handler does not count, this one does
    ∷ sheet_case (visited enter_soft exit_soft ++ (does 1 enter_soft ∷ takes 1 0 exclusive ∷ frees 1 0 exclusive ∷ commits 1 3 ∷ [])) (drawn 3 0 EN ∷ drawn_none 3 1 ∷ [])
    ∷ sheet_case (visited enter_hard exit_hard ++ (does 1 enter_hard ∷ takes 1 0 recursive ∷ commits 1 3 ∷ [])) (drawn 3 0 ER ∷ drawn_none 3 1 ∷ [])
    -- it ends neither with a refused exit nor with another core's
    ∷ sheet_case
    (cross_takes 0 3 ∷ does 1 enter_soft ∷ takes 1 1 exclusive ∷ does 1 exit_soft ∷ does 1 exit_hard ∷ does 2 enter_soft ∷ does 2 exit_soft ∷ commits 1 3 ∷ [])
    (drawn 3 1 EN ∷ [])
    -- a hard handler over a soft one ends its own visit only
    ∷ sheet_case (hard_over_soft ++ (commits 1 3 ∷ [])) (drawn 3 1 EN ∷ drawn_none 3 0 ∷ [])
    ∷ sheet_case (hard_over_soft ++ (does 1 enter_hard ∷ commits 1 3 ∷ [])) (drawn_none 3 1 ∷ drawn_none 3 0 ∷ [])
    -- never from crosslock to crosslock
    ∷ sheet_case (cross_takes 0 3 ∷ cross_takes 0 2 ∷ commits 0 3 ∷ commits 0 2 ∷ cross_frees 0 3 ∷ cross_takes 0 3 ∷ []) (drawn_none 3 2 ∷ drawn_none 2 3 ∷ drawn_none 3 3 ∷ [])
    ∷ []

-- ---- The history: how many it has, and how many it had when 2 and 3 were taken last.

pub record KeptCase : Type 0 where
  pub log : List Bytes
  pub numbers : List ℕ

unfoldable pub kept_case : List Bytes → ℕ → ℕ → ℕ → KeptCase
kept_case log kept since₂ since₃ = record { log = log; numbers = kept ∷ since₂ ∷ since₃ ∷ [] }

unfoldable pub two_taken : List Bytes
two_taken = cross_takes 0 3 ∷ takes 0 0 exclusive ∷ cross_takes 0 2 ∷ []

unfoldable pub kept_cases : List KeptCase
kept_cases =
    -- while one is in progress, the takes of all cores, and no try or refused take
    kept_case (takes 0 0 exclusive ∷ cross_takes 0 3 ∷ []) 0 0 0
    ∷ kept_case (cross_takes 0 3 ∷ takes 0 0 exclusive ∷ takes 1 1 recursive ∷ frees 1 1 recursive ∷ takes 7 1 read ∷ []) 3 0 0
    ∷ kept_case (cross_takes 0 3 ∷ takes 0 0 try_exclusive ∷ takes 0 4 exclusive ∷ takes 0 3 exclusive ∷ []) 0 0 0
    -- a visit that has ended leaves its room taken
    ∷ kept_case (visited enter_soft exit_soft) 1 0 0
    -- a refused take of the crosslock changes nothing, nor does a commit
    ∷ kept_case (two_taken ++ (takes 0 1 exclusive ∷ cross_takes 1 3 ∷ commits 0 3 ∷ [])) 2 1 0
    -- of two the first is released, then the second, refused between; then takes are kept no more
    ∷ kept_case (two_taken ++ (cross_frees 2 3 ∷ [])) 1 1 0
    ∷ kept_case (two_taken ++ (cross_frees 2 3 ∷ cross_frees 2 3 ∷ takes 1 0 exclusive ∷ [])) 2 1 0
    ∷ kept_case (two_taken ++ (cross_frees 2 3 ∷ cross_frees 2 2 ∷ takes 1 0 exclusive ∷ [])) 0 1 0
    ∷ []

-- ---- Full frames, histories and counts. `before` leads to a state, which is taken with so many takes of class 1 by core 2 in the history, and so many records accepted.

pub record FullCase : Type 0 where
  pub before : List Bytes
  pub kept : ℕ
  pub accepted : ℕ
  pub log : List Bytes
  pub given : List ℕ

unfoldable pub full_case : List Bytes → (kept accepted : ℕ) → List Bytes → List ℕ → FullCase
full_case before kept accepted log given = record { before = before; kept = kept; accepted = accepted; log = log; given = given }

abbrev pub filled_to : (kept accepted : ℕ) → State → State
filled_to kept accepted s =
    let e : Kept = record { core = 2; frame = task; class = 1; mode = exclusive } in
    record {
      is_closed = s.is_closed;
      cores = s.cores;
      graph = s.graph;
      cross = with_history s.cross (replicate kept (some e));
      journal = record { accepted = accepted; seen = s.journal.seen };
    }

unfoldable pub full_cases : List FullCase
full_cases =
    -- a full frame: 15 before 8, 4 before 15, 8 before 19, for a try too; with room in the frame 19, and 0 for a try; kinds 10 to 12 need no room
    full_case (cross_takes 1 3 ∷ replicate 48 (takes 0 0 try_recursive)) 256 49
    (takes 0 3 recursive ∷ takes 0 4 recursive ∷ takes 0 0 recursive ∷ takes 0 0 try_recursive ∷ takes 2 0 recursive ∷ takes 2 0 try_recursive ∷ cross_takes 0 2
    ∷ commits 0 2 ∷ cross_frees 0 2 ∷ [])
    (15 ∷ 4 ∷ 8 ∷ 8 ∷ 19 ∷ 0 ∷ 0 ∷ 0 ∷ 0 ∷ [])
    -- 19 before 9, and 16, 17 before it; 9 for what would be accepted
    ∷ full_case (cross_takes 1 3 ∷ []) 256 4294967295
    (takes 0 0 exclusive ∷ takes 0 0 try_exclusive ∷ cross_takes 0 3 ∷ commits 0 2 ∷ cross_frees 0 2 ∷ cross_takes 0 2 ∷ commits 0 3 ∷ cross_frees 0 3 ∷ takes 0 3 exclusive
    ∷ cross_takes 0 4 ∷ [])
    (19 ∷ 9 ∷ 16 ∷ 17 ∷ 17 ∷ 9 ∷ 9 ∷ 9 ∷ 15 ∷ 4 ∷ [])
    -- the last ones that are counted
    ∷ full_case [] 0 4294967293 (cross_takes 0 3 ∷ commits 0 3 ∷ cross_frees 0 3 ∷ []) (0 ∷ 0 ∷ 9 ∷ [])
    -- with none in progress no room is needed
    ∷ full_case [] 256 0 (takes 0 0 exclusive ∷ []) (0 ∷ [])
    -- of two in progress one is released: no room is free again, until the other is too; what is refused is not held
    ∷ full_case (cross_takes 0 3 ∷ cross_takes 0 2 ∷ []) 255 2
    (cross_frees 2 3 ∷ takes 1 0 exclusive ∷ takes 1 1 exclusive ∷ frees 1 1 exclusive ∷ cross_frees 2 2 ∷ takes 1 1 exclusive ∷ []) (0 ∷ 0 ∷ 19 ∷ 5 ∷ 0 ∷ 0 ∷ [])
    -- a crosslock taken with 256 kept has none since, one taken with 255 has the last, and the first has all
    ∷ full_case (takes 0 1 exclusive ∷ cross_takes 0 3 ∷ []) 256 2 (cross_takes 0 2 ∷ commits 2 2 ∷ commits 2 3 ∷ []) (0 ∷ 0 ∷ 1 ∷ [])
    ∷ full_case (cross_takes 0 3 ∷ []) 255 1 (takes 0 1 try_exclusive ∷ cross_takes 0 2 ∷ commits 2 2 ∷ takes 2 1 exclusive ∷ commits 2 2 ∷ []) (0 ∷ 0 ∷ 0 ∷ 0 ∷ 1 ∷ [])
    ∷ []

-- Sixteen of 17 crosslocks in progress, and so many records accepted.
abbrev pub sixteen : (accepted : ℕ) → State
sixteen accepted =
    let s = start (λ c. ltb c 17) in
    record {
      is_closed = false;
      cores = s.cores;
      graph = s.graph;
      cross = record { declared = λ c. ltb c 17; progress = λ c. ltb c 16; since = λ c. 0; history = [] };
      journal = record { accepted = accepted; seen = λ f t. 0 };
    }

-- 18; 16 and 17 before it, 4 too; a release makes room for one. At the limit of the count 18 is before 9.
unfoldable pub list_full : Example
list_full =
    example (cross_takes 0 16 ∷ cross_takes 0 15 ∷ commits 0 16 ∷ cross_takes 0 17 ∷ cross_frees 0 15 ∷ cross_takes 0 16 ∷ cross_takes 0 15 ∷ [])
    (18 ∷ 16 ∷ 17 ∷ 4 ∷ 0 ∷ 0 ∷ 18 ∷ [])

unfoldable pub list_and_count_full : Example
list_and_count_full = example (cross_takes 0 16 ∷ cross_takes 0 15 ∷ cross_frees 0 15 ∷ []) (18 ∷ 16 ∷ 9 ∷ [])

-- ---- Marks. A state in which core 0 holds 1 in a soft handler, crosslock 3 is in progress, and no mark is set.

abbrev pub unmarked : State → State
unmarked s = record { is_closed = s.is_closed; cores = s.cores; graph = empty_graph; cross = s.cross; journal = s.journal }

unfoldable pub in_handler : List Bytes
in_handler = cross_takes 1 3 ∷ does 0 enter_soft ∷ takes 0 1 exclusive ∷ []

-- The marks come after kinds 10 to 12 of the core too, but not after another core's; the crosslock gets none.
unfoldable pub cross_marks : List MarkCase
cross_marks =
    mark_case [] 1 soft_irq (safe N) false
    ∷ mark_case (cross_takes 0 2 ∷ []) 1 soft_irq (safe N) true
    ∷ mark_case (commits 0 3 ∷ []) 1 soft_irq (safe N) true
    ∷ mark_case (cross_frees 0 3 ∷ []) 1 hard_irq (unsafe E) true
    ∷ mark_case (commits 2 3 ∷ []) 1 soft_irq (safe N) false
    ∷ mark_case (cross_takes 0 2 ∷ commits 0 2 ∷ cross_frees 0 2 ∷ []) 2 soft_irq (safe N) false
    ∷ mark_case (cross_takes 0 2 ∷ commits 0 2 ∷ cross_frees 0 2 ∷ []) 2 hard_irq (unsafe E) false
    ∷ mark_case (cross_takes 2 2 ∷ commits 2 2 ∷ []) 2 soft_irq (unsafe E) false
    ∷ []

-- ---- How many records are accepted, and which number a pair gets.

unfoldable pub cross_numbers : List NumberCase
cross_numbers =
    -- that of the crosslock's take, that of the commit; refused records are not counted; the fault is
    number_case (takes 0 3 exclusive ∷ takes 0 1 exclusive ∷ cross_takes 0 0 ∷ cross_takes 0 3 ∷ []) 1 3 2 2
    ∷ number_case (taken_since exclusive ++ (commits 0 3 ∷ [])) 3 1 4 4
    ∷ number_case completion 1 3 4 2
    ∷ number_case completion 3 1 4 4
    -- another commit, another take: the number stays; a new pair gets the later one; a release is counted and draws nothing
    ∷ number_case (taken_since recursive ++ (commits 0 3 ∷ takes 0 1 exclusive ∷ takes 0 0 exclusive ∷ commits 0 3 ∷ [])) 3 1 7 4
    ∷ number_case (taken_since recursive ++ (commits 0 3 ∷ takes 0 1 exclusive ∷ takes 0 0 exclusive ∷ commits 0 3 ∷ [])) 3 0 7 7
    ∷ number_case (takes 0 1 exclusive ∷ cross_takes 0 3 ∷ cross_frees 0 3 ∷ cross_takes 0 3 ∷ []) 1 3 4 2
    ∷ number_case (taken_since exclusive ++ (cross_frees 0 3 ∷ [])) 3 1 4 0
    ∷ []

-- ---- Why demand 3 has its limits. `completion` faults at its last record. With an added record of kind 12, of kind 10, or with the history filled, it does not,
-- though every added record is of core 2, which `completion` does not name.

unfoldable pub with_kind12 : List Bytes
with_kind12 = takes 0 1 exclusive ∷ cross_takes 0 3 ∷ cross_frees 2 3 ∷ takes 1 1 exclusive ∷ commits 1 3 ∷ []

unfoldable pub with_kind10 : List Bytes
with_kind10 = cross_takes 2 3 ∷ completion

-- After the first two records of `completion`, with room for one take only: the rest of it, without and with a take of core 2.
unfoldable pub nearly_full : State → State
nearly_full s = filled_to 255 2 s

unfoldable pub begun : List Bytes
begun = takes 0 1 exclusive ∷ cross_takes 0 3 ∷ []

unfoldable pub rest : List Bytes
rest = takes 1 1 exclusive ∷ commits 1 3 ∷ []

unfoldable pub rest_filled : List Bytes
rest_filled = takes 2 0 exclusive ∷ rest

-- From opening, over two classes of which 1 is the crosslock: core 2 takes and releases 0 so often before core 1 takes it and commits.
abbrev pub last : ℕ → Bool
last c = eqb c 1

unfoldable pub pairs_of : ℕ → List Bytes
pairs_of zero = takes 1 0 exclusive ∷ commits 1 1 ∷ []
pairs_of (suc n) = takes 2 0 exclusive ∷ frees 2 0 exclusive ∷ pairs_of n

unfoldable pub filled : ℕ → List Bytes
filled n = takes 0 0 exclusive ∷ cross_takes 0 1 ∷ pairs_of n
