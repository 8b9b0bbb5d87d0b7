-- How the least cycle is found: from the right start always the first entry from which the start is reached again in time.
use Rattle.std.specs.Prelude.{◌≡◌, true, List, [], ◌∷◌, ◌⊎◌, ℕ, ◌<◌, ◌≤◌, length}
use Rattle.rules.specs.HeldLocks.{First, Second, E, S, R, N}
use Rattle.rules.specs.Graph.{Graph}
use Rattle.rules.specs.StrongPath.{strong_joint}
use Rattle.rules.specs.Cycle.{Entry}
use Rattle.rules.specs.Rounds.{Leg, Route, Round}
use Rattle.rules.specs.Ranks.{rank}

-- An arrival after which this first letter may follow is one after which all may follow that may follow b: after R only E may.
abbrev pub widest : Second → First
widest R = E
widest N = S

-- The entry goes on from class x, arrived at by b, to class z.
pub record Step (K : ℕ) (g : Graph) (x : ℕ) (b : Second) (e : Entry) (z : ℕ) : Type 0 where
  pub class : e.class ≡ x
  pub leg : Leg K g e z
  pub strong : strong_joint b e.kind.first ≡ true

-- From class x, arrived at by b, m entries lead home: to class c, where all that may follow h may follow.
pub record Home (K : ℕ) (g : Graph) (c : ℕ) (h : Second) (m x : ℕ) (b : Second) : Type 0 where
  pub entries : List Entry
  pub ends_by : Second
  pub route : Route K g x b entries c ends_by
  pub closing : strong_joint ends_by (widest h) ≡ true
  pub long : length entries ≡ m

-- The start: n is the length of the shortest rounds, c the lowest class of one of them, and b is R if one of that length begins there by E.
pub record Start (K : ℕ) (g : Graph) (n c : ℕ) (b : Second) : Type 0 where
  pub some : 1 ≤ n
  pub fewest : (x : ℕ) (es : List Entry) → Round K g x es → n ≤ length es
  pub lowest : (x : ℕ) (es : List Entry) → Round K g x es → length es ≡ n → c ≤ x
  pub letter : b ≡ N → Home K g c R n c R → ⊥

abbrev pub rank_of : Entry → ℕ
rank_of e = rank e.kind e.source

-- The entry e to class z is the first, by rank and then by class, of those from which m more lead home.
pub record Chosen (K : ℕ) (g : Graph) (c : ℕ) (h : Second) (m x : ℕ) (b : Second) (e : Entry) (z : ℕ) : Type 0 where
  pub step : Step K g x b e z
  pub first : (f : Entry) (y : ℕ) → Step K g x b f y → Home K g c h m y f.kind.second → (rank_of e < rank_of f) ⊎ ((rank_of e ≡ rank_of f) × (z ≤ y))

-- Every entry is chosen so, to the end.
pub data Greedy (K : ℕ) (g : Graph) (c : ℕ) (h : Second) : (x : ℕ) (b : Second) (es : List Entry) → Type 0 where
  done : {b : Second} → strong_joint b (widest h) ≡ true → Greedy K g c h c b []
  choose : {x z : ℕ} {b : Second} {e : Entry} {es : List Entry} → Chosen K g c h (length es) x b e z → Greedy K g c h z e.kind.second es → Greedy K g c h x b (e ∷ es)
