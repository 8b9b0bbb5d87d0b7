-- Request d, as logs of one class: the marks that they leave, the table's answer for them, and what the log is answered.
use Rattle.std.specs.Prelude.{Bool, true, false, List, [], ◌∷◌, ℕ, ◌+◌}
use Rattle.rules.specs.Record.{Bytes}
use Rattle.rules.specs.Examples.{exclusive, read, recursive, takes, frees, does, enter_hard, enter_soft, soft_off, soft_on, all_clean, fault_at}

pub record ClashCase : Type 0 where
  pub log : List Bytes
  pub marks : ℕ
  pub answer : Bool
  pub given : List ℕ

unfoldable pub clash_case : List Bytes → ℕ → Bool → List ℕ → ClashCase
clash_case log marks answer given = record { log = log; marks = marks; answer = answer; given = given }

unfoldable pub clash_cases : List ClashCase
clash_cases =
    -- in the task E, in the hard handler N (P10), R; in the task R: N, and R (P10's both R)
    clash_case (takes 0 0 exclusive ∷ frees 0 0 exclusive ∷ does 0 enter_hard ∷ takes 0 0 exclusive ∷ []) (4 + 64 + 1) true (fault_at 4)
    ∷ clash_case (takes 0 0 exclusive ∷ frees 0 0 exclusive ∷ does 0 enter_hard ∷ takes 0 0 recursive ∷ []) (4 + 64 + 2) true (fault_at 4)
    ∷ clash_case (takes 0 0 recursive ∷ frees 0 0 recursive ∷ does 0 enter_hard ∷ takes 0 0 read ∷ []) (8 + 128 + 1) true (fault_at 4)
    ∷ clash_case (takes 0 0 recursive ∷ frees 0 0 recursive ∷ does 0 enter_hard ∷ takes 0 0 recursive ∷ []) (8 + 128 + 2) false (all_clean 4)
    -- the same with the soft handler: N, and both R
    ∷ clash_case (takes 0 0 exclusive ∷ frees 0 0 exclusive ∷ does 0 enter_soft ∷ takes 0 0 exclusive ∷ []) (4 + 64 + 16) true (fault_at 4)
    ∷ clash_case (takes 0 0 read ∷ frees 0 0 read ∷ does 0 enter_soft ∷ takes 0 0 read ∷ []) (8 + 128 + 16) true (fault_at 4)
    ∷ clash_case (takes 0 0 recursive ∷ frees 0 0 recursive ∷ does 0 enter_soft ∷ takes 0 0 recursive ∷ []) (8 + 128 + 32) false (all_clean 4)
    -- one level each: hard-unsafe and soft-safe (P12)
    ∷ clash_case (does 0 soft_off ∷ takes 0 0 exclusive ∷ frees 0 0 exclusive ∷ does 0 soft_on ∷ does 0 enter_soft ∷ takes 0 0 exclusive ∷ []) (4 + 16) false (all_clean 6)
    -- P7, P8: a fault by a lock dependency; the marks do not clash
    ∷ clash_case (takes 0 0 recursive ∷ takes 0 0 read ∷ []) (8 + 128) false (fault_at 2)
    ∷ clash_case (takes 0 0 exclusive ∷ takes 0 0 recursive ∷ []) (4 + 64 + 8 + 128) false (fault_at 2)
    ∷ []
