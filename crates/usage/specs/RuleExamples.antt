-- Logs of exclusive acquires, over three classes, that break one of document 002's rules, or none. proofs/RuleExamples.antt computes them.
use Rattle.std.specs.Prelude.{List, [], ◌∷◌}
use Rattle.rules.specs.Record.{Bytes}
use Rattle.rules.specs.Context.{exit_soft, exit_hard}
use Rattle.rules.specs.Examples.{exclusive, try_exclusive, takes, frees, does, hard_on, hard_off, soft_on, soft_off, enter_soft, enter_hard, example, Example, all_clean, fault_at, p2}

-- Class 0 is taken by a soft handler; with soft interrupts off 1 is acquired over 0, and then 1 with them on: soft-safe to soft-unsafe.
unfoldable pub soft_path : List Bytes
soft_path =
    does 0 enter_soft ∷ takes 0 0 exclusive ∷ frees 0 0 exclusive ∷ does 0 exit_soft ∷ does 0 soft_off ∷ takes 0 0 exclusive ∷ takes 0 1 exclusive ∷ frees 0 1 exclusive
    ∷ frees 0 0 exclusive ∷ does 0 soft_on ∷ takes 0 1 exclusive ∷ []

-- The same without the last: class 1 is hard-unsafe and not soft-unsafe.
unfoldable pub two_levels : List Bytes
two_levels = does 0 enter_soft ∷ takes 0 0 exclusive ∷ frees 0 0 exclusive ∷ does 0 exit_soft ∷ does 0 soft_off ∷ takes 0 0 exclusive ∷ takes 0 1 exclusive ∷ []

-- Class 0 is taken by a hard handler; 1 is acquired over 0 by one core, 2 over 1 by another, all with hard interrupts off; then 2 with them on.
unfoldable pub hard_path : List Bytes
hard_path =
    does 0 enter_hard ∷ takes 0 0 exclusive ∷ frees 0 0 exclusive ∷ does 0 exit_hard ∷ does 0 hard_off ∷ takes 0 0 exclusive ∷ takes 0 1 exclusive ∷ does 1 hard_off
    ∷ takes 1 1 exclusive ∷ takes 1 2 exclusive ∷ frees 1 1 exclusive ∷ does 1 hard_on ∷ []

unfoldable pub hard_both : List Bytes
hard_both = takes 0 2 exclusive ∷ frees 0 2 exclusive ∷ does 0 enter_hard ∷ takes 0 2 exclusive ∷ []

unfoldable pub soft_both : List Bytes
soft_both = takes 0 2 exclusive ∷ frees 0 2 exclusive ∷ does 0 enter_soft ∷ takes 0 2 exclusive ∷ []

unfoldable pub rule_cases : List Example
rule_cases =
    -- "two locks may not be taken in different order"; "must not be acquired twice"
    example p2 (fault_at 6)
    ∷ example (takes 0 0 exclusive ∷ takes 0 0 exclusive ∷ []) (fault_at 2)
    -- one class at each level; by a try in the handler it is not safe
    ∷ example hard_both (fault_at 4)
    ∷ example soft_both (fault_at 4)
    ∷ example (takes 0 2 exclusive ∷ frees 0 2 exclusive ∷ does 0 enter_hard ∷ takes 0 2 try_exclusive ∷ []) (all_clean 4)
    -- a path of two, and of one; from soft-safe to hard-unsafe there is no rule
    ∷ example hard_path (fault_at 12)
    ∷ example soft_path (fault_at 11)
    ∷ example two_levels (all_clean 7)
    ∷ []
