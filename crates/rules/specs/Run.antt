-- The validator over the rules: one record, and a list of records.
use Rattle.std.specs.Prelude.{Bool, true, false, cond, ◌&&◌, List, [], ◌∷◌, ℕ, suc, eqb, take}
use Rattle.std.proofs.Math.Option.{Option, none, some}
use Rattle.rules.specs.Record.{Bytes, core_of, event_of}
use Rattle.rules.specs.HeldLocks.{Core, fresh_core, after_event}
use Rattle.rules.specs.Marks.{marks_of}
use Rattle.rules.specs.Graph.{Graph, Dependencies, empty_graph, add_to}
use Rattle.rules.specs.Crosslocks.{Crosslocks, declaring, drawn_on, after_cross}
use Rattle.rules.specs.KindNames.{some_kind}
use Rattle.rules.specs.Decision.{cyclic}
use Rattle.rules.specs.Verdict.{Refusal, Answer, clean, fault, refused, number, Situation, refusal}

-- How many records were accepted, and for each pair of classes the number of the one that first drew a lock dependency there, 0 for none.
pub record Journal : Type 0 where
  pub accepted : ℕ
  pub seen : (from to : ℕ) → ℕ

abbrev pub empty_journal : Journal
empty_journal = record { accepted = 0; seen = λ f t. 0 }

-- One record more is accepted, and draws these dependencies: the pairs that have no number yet get its own.
abbrev pub with_record : Dependencies → Journal → Journal
with_record d j =
    record {
      accepted = suc j.accepted;
      seen = λ f t. cond (eqb (j.seen f t) 0 && some_kind (d f t)) (suc j.accepted) (j.seen f t);
    }

pub record State : Type 0 where
  pub is_closed : Bool
  pub cores : ℕ → Core
  pub graph : Graph
  pub cross : Crosslocks
  pub journal : Journal

-- Every core fresh and no crosslock in progress, over the declarations, the graph and the journal with which the run starts.
abbrev pub starting_from : (declared : ℕ → Bool) → Graph → Journal → State
starting_from d g j = record { is_closed = false; cores = λ i. fresh_core; graph = g; cross = declaring d; journal = j }

-- What opening gives: the empty graph.
abbrev pub start : (declared : ℕ → Bool) → State
start d = starting_from d empty_graph empty_journal

abbrev pub situation : ℕ → State → Bytes → Situation
situation K s r =
    record { is_closed = s.is_closed; classes = K; core = s.cores (core_of r); cross = s.cross; accepted = s.journal.accepted; bytes = r }

-- All lock dependencies that a record draws, where its core stands as `core`. The journal reads them too.
abbrev pub drawn_with : Core → Crosslocks → Bytes → Dependencies
drawn_with core x r = drawn_on (event_of r) (core_of r) core x

-- What an accepted record does, where its core stands as `core`: it draws lock dependencies from the core and the history as they stood and sets marks
-- from the core as it then stands.
abbrev pub accept_on : Core → State → Bytes → State
accept_on core s r =
    let after = after_event (event_of r) core in
    record {
      is_closed = s.is_closed;
      cores = λ i. cond (eqb i (core_of r)) after (s.cores i);
      graph = add_to s.graph (drawn_with core s.cross r) (marks_of after);
      cross = after_cross (event_of r) (core_of r) core s.cross;
      journal = with_record (drawn_with core s.cross r) s.journal;
    }

abbrev pub accept : State → Bytes → State
accept s r = accept_on (s.cores (core_of r)) s r

abbrev pub close : State → State
close s = record { is_closed = true; cores = s.cores; graph = s.graph; cross = s.cross; journal = s.journal }

pub record Result : Type 0 where
  pub answer : Answer
  pub state : State

-- "accepted, a closed strong path exists": the answer is a fault and the validator is closed.
abbrev pub decided : Bool → State → Result
decided true s = record { answer = fault; state = close s }
decided false s = record { answer = clean; state = s }

abbrev pub settled : ℕ → State → Bytes → Option Refusal → Result
settled K s r (some why) = record { answer = refused why; state = s }
settled K s r none = let t = accept s r in decided (cyclic K t.graph) t

abbrev pub step : ℕ → State → Bytes → Result
step K s r = settled K s r (refusal (situation K s r))

-- The answers' numbers for a list of records, refused ones included, one record a call.
abbrev pub answers : ℕ → State → List Bytes → List ℕ
answers K s [] = []
answers K s (r ∷ rs) = let o = step K s r in number o.answer ∷ answers K o.state rs

-- The state that a list of records leaves.
abbrev pub run : ℕ → State → List Bytes → State
run K s [] = s
run K s (r ∷ rs) = run K (step K s r).state rs

-- The dependency graph at record i (from 0) of a list that starts in a state: what that has, and all that the records up to and including that one
-- draw.
abbrev pub graph_at : ℕ → State → List Bytes → ℕ → Graph
graph_at K s rs i = (run K s (take (suc i) rs)).graph
