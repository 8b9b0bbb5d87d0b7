-- The joined graph: that of either order, with all that either bench's has; and what the answer says. It is a start like any other for demands 2 and 3
-- (Steps.antt, MoreEvidence.antt). Assumes nothing.
use mathlib.Core.Path.{◌≡◌, refl, sym, ap}
use mathlib.Core.Bool.{Bool, true, false, ◌||◌, false≢true}
use mathlib.Core.Logic.{◌↔◌}
use Prim.Native.Nat.{ℕ}
use native.Mathlib.Omega.{arith}
use Rattle.rules.specs.HeldLocks.{fresh_core}
use Rattle.rules.specs.Graph.{Graph}
use Rattle.rules.specs.Crosslocks.{declaring}
use Rattle.rules.specs.StrongPath.{ClosedStrongPath}
use Rattle.rules.specs.Decision.{cyclic}
use Rattle.rules.specs.Verdict.{number}
use Rattle.rules.specs.Run.{State, Result, decided}
use Rattle.rules.specs.Join.{joined_graph, joined_state, join}
use Rattle.rules.proofs.Booleans.{or_left, or_right}
use Rattle.rules.proofs.Decided.{cyclic_sound, cyclic_complete}
use Rattle.rules.proofs.Monotone.{Within, closed_mono}

pub or_swap : (a b : Bool) → (a || b) ≡ (b || a)
or_swap true true = refl
or_swap true false = refl
or_swap false true = refl
or_swap false false = refl

-- "joining in either order gives the same"
pub joined_either_way : (g h : Graph) → joined_graph g h ≡ joined_graph h g
joined_either_way g h =
    λ i. record { locks = λ f t k. or_swap (g.locks f t k) (h.locks f t k) i; marks = λ c l u. or_swap (g.marks c l u) (h.marks c l u) i }

-- "exactly the kinds of either, the marks likewise": nothing of either is lost, and nothing is in neither.
pub first_within : (g h : Graph) → Within g (joined_graph g h)
first_within g h = record { locks = λ f t k x. or_left _ x; marks = λ c l u x. or_left _ x }

pub second_within : (g h : Graph) → Within h (joined_graph g h)
second_within g h = record { locks = λ f t k x. or_right (g.locks f t k) x; marks = λ c l u x. or_right (g.marks c l u) x }

-- So a fault of either bench's graph is one of the joined.
pub first_fault : {K : ℕ} (g h : Graph) → ClosedStrongPath K g → ClosedStrongPath K (joined_graph g h)
first_fault g h = closed_mono (first_within g h)

pub second_fault : {K : ℕ} (g h : Graph) → ClosedStrongPath K h → ClosedStrongPath K (joined_graph g h)
second_fault g h = closed_mono (second_within g h)

-- "Apart from first-seen numbers and the slip, joining in either order gives the same."
pub record SameButNumbers (o p : Result) : Type 0 where
  pub answer : o.answer ≡ p.answer
  pub is_closed : o.state.is_closed ≡ p.state.is_closed
  pub cores : o.state.cores ≡ p.state.cores
  pub graph : o.state.graph ≡ p.state.graph
  pub cross : o.state.cross ≡ p.state.cross
  pub accepted : o.state.journal.accepted ≡ p.state.journal.accepted

pub join_either_way : (K : ℕ) (s t : State) → s.cross.declared ≡ t.cross.declared → SameButNumbers (join K s t) (join K t s)
join_either_way K s t same =
    by (cyclic K (joined_graph s.graph t.graph)) (cyclic K (joined_graph t.graph s.graph))
    (ap (cyclic K) (joined_either_way s.graph t.graph))
  where
    by : (b c : Bool) → b ≡ c → SameButNumbers (decided b (joined_state s t)) (decided c (joined_state t s))
    by true true e =
        record { answer = refl; is_closed = refl; cores = refl; graph = joined_either_way s.graph t.graph; cross = ap declaring same; accepted = refl }
    by false false e =
        record { answer = refl; is_closed = refl; cores = refl; graph = joined_either_way s.graph t.graph; cross = ap declaring same; accepted = refl }
    by true false e = absurd (false≢true (sym e))
    by false true e = absurd (false≢true e)

-- "The answer is a fault exactly when the joined drawing has a closed strong path"
pub join_exactly : (K : ℕ) (s t : State) → (number (join K s t).answer ≡ 1) ↔ ClosedStrongPath K (joined_graph s.graph t.graph)
join_exactly K s t = (
  λ x. cyclic_sound K (joined_graph s.graph t.graph) (by (cyclic K (joined_graph s.graph t.graph)) x),
  λ p. ap (λ (b : Bool). number (decided b (joined_state s t)).answer) (cyclic_complete K (joined_graph s.graph t.graph) p),
)
  where
    by : (b : Bool) → number (decided b (joined_state s t)).answer ≡ 1 → b ≡ true
    by true h = refl
    by false h = absurd (omega arith)

-- The joined state, closed or not: its graph, and that no record is counted and every core is fresh.
pub record JoinedAs (s t : State) (o : Result) : Type 0 where
  pub graph : o.state.graph ≡ joined_graph s.graph t.graph
  pub cross : o.state.cross ≡ declaring s.cross.declared
  pub uncounted : o.state.journal.accepted ≡ 0
  pub cores : (i : ℕ) → o.state.cores i ≡ fresh_core

pub joined_as : (K : ℕ) (s t : State) → JoinedAs s t (join K s t)
joined_as K s t = by (cyclic K (joined_graph s.graph t.graph))
  where
    by : (b : Bool) → JoinedAs s t (decided b (joined_state s t))
    by true = record { graph = refl; cross = refl; uncounted = refl; cores = λ i. refl }
    by false = record { graph = refl; cross = refl; uncounted = refl; cores = λ i. refl }
