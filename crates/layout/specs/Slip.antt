-- The cycle that a slip has, read back from its bytes: for the program's text, and for the proofs.
use Rattle.std.specs.Prelude.{cond, List, ℕ, suc, ◌+◌, ◌*◌, ltb, get_or}
use Rattle.rules.specs.Decision.{tabulate}
use Rattle.rules.specs.Cycle.{Entry}
use Rattle.rules.specs.Ranks.{kind_of_byte, source_of_byte}
use Rattle.layout.specs.Layout.{entries_at, entry_size, count_of}

-- The place after i in a cycle of n dependencies.
abbrev pub next_place : ℕ → ℕ → ℕ
next_place n i = cond (ltb (suc i) n) (suc i) 0

-- The entry at place i, and all that the slip counts.
abbrev pub entry_of : List ℕ → ℕ → Entry
entry_of slip i =
    record {
      class = get_or slip (entries_at + entry_size * i) 0;
      kind = kind_of_byte (get_or slip (entries_at + entry_size * i + 1) 0);
      source = source_of_byte (get_or slip (entries_at + entry_size * i + 2) 0);
    }

abbrev pub entries_of : List ℕ → List Entry
entries_of slip = tabulate (count_of slip) (entry_of slip)
