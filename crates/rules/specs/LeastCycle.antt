-- Request c: which cycle is shown. "fewest arrows, and among those the least when the slip's triples are compared from left to right"
use Rattle.std.specs.Prelude.{◌≡◌, List, [], ◌∷◌, ℕ, ◌<◌, ◌≤◌, length}
use Rattle.rules.specs.Graph.{kind_bit, Graph, source_number}
use Rattle.rules.specs.Cycle.{Entry, Cycle}

-- The slip's triples, one after the other: class, kind, source.
abbrev pub triples : List Entry → List ℕ
triples [] = []
triples (e ∷ es) = e.class ∷ kind_bit e.kind ∷ source_number e.source ∷ triples es

-- Numbers compared from left to right.
pub data NotAfter : List ℕ → List ℕ → Type 0 where
  ends : {ys : List ℕ} → NotAfter [] ys
  before : {x y : ℕ} {xs ys : List ℕ} → x < y → NotAfter (x ∷ xs) (y ∷ ys)
  same : {x y : ℕ} {xs ys : List ℕ} → x ≡ y → NotAfter xs ys → NotAfter (x ∷ xs) (y ∷ ys)

pub record LeastCycle (K : ℕ) (g : Graph) (es : List Entry) : Type 0 where
  pub cycle : Cycle K g es
  pub fewest : (fs : List Entry) → Cycle K g fs → length es ≤ length fs
  pub first : (fs : List Entry) → Cycle K g fs → length fs ≡ length es → NotAfter (triples es) (triples fs)
