-- Document 02, k: the same records in several merges, each merge with its answers. proofs/MergeExamples.antt computes them.
use Rattle.std.specs.Prelude.{List, [], ◌∷◌, ◌++◌}
use Rattle.rules.specs.Record.{Bytes}
use Rattle.rules.specs.Context.{exit_hard}
use Rattle.rules.specs.Examples.{exclusive, recursive, try_exclusive, takes, frees, does, hard_off, enter_hard, example, Example, all_clean, fault_at, p2}
use Rattle.rules.specs.CrossExamples.{cross_takes, commits}

-- Over three classes. P2 with the second core first, and with the two in turn: closed by all, at other records.
unfoldable pub p2_late : List Bytes
p2_late = takes 1 2 exclusive ∷ takes 1 1 exclusive ∷ takes 0 1 exclusive ∷ takes 0 2 exclusive ∷ frees 0 2 exclusive ∷ frees 0 1 exclusive ∷ []

-- Core 0 acquires 1 over 0; core 1 acquires 2. The pair 0, 1 has another first-seen number in each.
unfoldable pub numbered_early : List Bytes
numbered_early = takes 0 0 exclusive ∷ takes 0 1 exclusive ∷ takes 1 2 exclusive ∷ []

unfoldable pub numbered_late : List Bytes
numbered_late = takes 1 2 exclusive ∷ takes 0 0 exclusive ∷ takes 0 1 exclusive ∷ []

unfoldable pub merge_cases : List Example
merge_cases =
    example p2 (fault_at 6)
    ∷ example p2_late (fault_at 4 ++ (10 ∷ 10 ∷ []))
    ∷ example (takes 0 1 exclusive ∷ takes 1 2 exclusive ∷ takes 0 2 exclusive ∷ takes 1 1 exclusive ∷ frees 0 2 exclusive ∷ frees 0 1 exclusive ∷ []) (fault_at 4 ++ (10 ∷ 10 ∷ []))
    -- refused in each, by what the core itself holds and where it stands: 5, 6, 7 and 4; a try; open by all
    ∷ example
    (takes 0 1 exclusive ∷ frees 0 2 exclusive ∷ takes 0 2 try_exclusive ∷ does 1 enter_hard ∷ takes 1 0 recursive ∷ does 1 exit_hard ∷ does 1 hard_off ∷ takes 1 3 exclusive ∷ [])
    (0 ∷ 5 ∷ 0 ∷ 0 ∷ 0 ∷ 7 ∷ 6 ∷ 4 ∷ [])
    ∷ example
    (does 1 enter_hard ∷ takes 1 0 recursive ∷ does 1 exit_hard ∷ does 1 hard_off ∷ takes 1 3 exclusive ∷ takes 0 1 exclusive ∷ frees 0 2 exclusive ∷ takes 0 2 try_exclusive ∷ [])
    (0 ∷ 0 ∷ 7 ∷ 6 ∷ 4 ∷ 0 ∷ 5 ∷ 0 ∷ [])
    ∷ example
    (does 1 enter_hard ∷ takes 0 1 exclusive ∷ takes 1 0 recursive ∷ frees 0 2 exclusive ∷ does 1 exit_hard ∷ takes 0 2 try_exclusive ∷ does 1 hard_off ∷ takes 1 3 exclusive ∷ [])
    (0 ∷ 0 ∷ 0 ∷ 5 ∷ 7 ∷ 0 ∷ 6 ∷ 4 ∷ [])
    -- the mark that makes the fault is the task's in one, the handler's in the other
    ∷ example (takes 0 1 exclusive ∷ does 1 enter_hard ∷ takes 1 1 exclusive ∷ []) (fault_at 3)
    ∷ example (does 1 enter_hard ∷ takes 1 1 exclusive ∷ takes 0 1 exclusive ∷ []) (fault_at 3)
    ∷ example numbered_early (all_clean 3)
    ∷ example numbered_late (all_clean 3)
    ∷ []

-- Of crosslocks the claim does not hold: `completion` with core 1 first.
unfoldable pub completion_late : List Bytes
completion_late = takes 1 1 exclusive ∷ commits 1 3 ∷ takes 0 1 exclusive ∷ cross_takes 0 3 ∷ []
