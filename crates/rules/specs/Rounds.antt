-- Rounds of dependencies, which come back to where they start. Cycles are the rounds that pass no class twice and begin at their lowest.
use Rattle.std.specs.Prelude.{◌≡◌, true, List, [], ◌∷◌, ℕ, ◌<◌, ◌≤◌, length}
use Rattle.rules.specs.HeldLocks.{Second}
use Rattle.rules.specs.Graph.{Graph, dependency_by}
use Rattle.rules.specs.StrongPath.{strong_joint}
use Rattle.rules.specs.Cycle.{Entry}

-- The entry's dependency goes to class z.
pub record Leg (K : ℕ) (g : Graph) (e : Entry) (z : ℕ) : Type 0 where
  pub in_range : e.class < K
  pub to_range : z < K
  pub drawn : dependency_by e.source g e.class z e.kind ≡ true

-- The entries lead from class x, arrived at by b, to class y, arrived at by d.
pub data Route (K : ℕ) (g : Graph) : (x : ℕ) (b : Second) (es : List Entry) (y : ℕ) (d : Second) → Type 0 where
  stay : {x : ℕ} {b : Second} → Route K g x b [] x b
  pass : {z y : ℕ} {b d : Second} {e : Entry} {es : List Entry} → Leg K g e z → strong_joint b e.kind.first ≡ true
      → Route K g z e.kind.second es y d → Route K g e.class b (e ∷ es) y d

-- One or more entries from class c back to c. They begin as after the letter that the last arrives by, so they are strong where they close.
pub record Round (K : ℕ) (g : Graph) (c : ℕ) (es : List Entry) : Type 0 where
  pub letter : Second
  pub route : Route K g c letter es c letter
  pub not_empty : 1 ≤ length es
