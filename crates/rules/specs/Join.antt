-- Document 02, i: "Two benches, one drawing." What two benches are joined to. proofs/Joined.antt has what follows from it.
use Rattle.std.specs.Prelude.{cond, ℕ, eqb}
use Rattle.rules.specs.Graph.{Graph, add_to}
use Rattle.rules.specs.Decision.{cyclic}
use Rattle.rules.specs.Run.{Journal, State, starting_from, Result, decided}

-- "The joined sheet has exactly the kinds of either, the marks likewise"
abbrev pub joined_graph : Graph → Graph → Graph
joined_graph g h = add_to g h.locks h.marks

-- "first-seen numbers come from the first bench, or the second where that has none"
abbrev pub first_or : ℕ → ℕ → ℕ
first_or n m = cond (eqb n 0) m n

-- "the record count 0"
abbrev pub joined_journal : Journal → Journal → Journal
joined_journal i j = record { accepted = 0; seen = λ f t. first_or (i.seen f t) (j.seen f t) }

-- "the cores are fresh"; both have the same declarations (02, j), and the join "starts with none in progress"
abbrev pub joined_state : State → State → State
joined_state s t = starting_from s.cross.declared (joined_graph s.graph t.graph) (joined_journal s.journal t.journal)

-- "The answer is a fault exactly when the joined drawing has a closed strong path, and then the joined desk is closed"
abbrev pub join : ℕ → State → State → Result
join K s t = decided (cyclic K (joined_state s t).graph) (joined_state s t)

-- "11 if either bench is unfit or a buffer to be written is too short for the larger K, then 12 for different K, then 13 for a closed desk"; "12 for
-- different declarations too": 11 is about the lent buffers (crates/joiner/specs).
abbrev pub other_classes : ℕ
other_classes = 12

abbrev pub bench_closed : ℕ
bench_closed = 13
