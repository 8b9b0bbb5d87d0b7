-- Document 02, k: "Order of the merge must not matter." Two lists that give each core the same records in the same order. proofs/Merged.antt has the theorem.
use Rattle.std.specs.Prelude.{◌≡◌, false, cond, ℕ, eqb}
use mathlib.Core.List.{List, [], ◌∷◌, Memᴰ}
use Rattle.rules.specs.Record.{Bytes, core_of, event_of, is_malformed, is_cross}
use Rattle.rules.specs.Run.{State}

-- The records of one core, in their order.
abbrev pub of_core : ℕ → List Bytes → List Bytes
of_core core [] = []
of_core core (r ∷ rs) = cond (eqb core (core_of r)) (r ∷ of_core core rs) (of_core core rs)

-- "two logs that give each core the same records in the same order"
pub record SameForEachCore (xs ys : List Bytes) : Type 0 where
  pub each : (core : ℕ) → of_core core xs ≡ of_core core ys

-- "ordinary kinds": none of the kinds 10 to 12. "no malformed record" need not be asked: one is of no kind, and refused wherever it stands.
pub record Ordinary (rs : List Bytes) : Type 0 where
  pub each : (r : Bytes) → Memᴰ r rs → is_malformed r ≡ false → is_cross (event_of r) ≡ false

-- All of a state but its first-seen numbers.
abbrev pub unnumbered : State → State
unnumbered s =
    record {
      is_closed = s.is_closed;
      cores = s.cores;
      graph = s.graph;
      cross = s.cross;
      journal = record { accepted = s.journal.accepted; seen = λ f t. 0 };
    }

-- "both leave the desk open or both close it, and if open, they leave the same sheet of kinds, marks, holds and states": all but the second sheet.
pub record MergedAlike (s t : State) : Type 0 where
  pub closed : s.is_closed ≡ t.is_closed
  pub same : s.is_closed ≡ false → unnumbered s ≡ unnumbered t

-- The answers to one core's records, in their order.
abbrev pub to_core : ℕ → List Bytes → List ℕ → List ℕ
to_core core [] given = []
to_core core (r ∷ rs) [] = []
to_core core (r ∷ rs) (a ∷ given) = cond (eqb core (core_of r)) (a ∷ to_core core rs given) (to_core core rs given)

-- Each core's records are answered alike.
pub record AnsweredAlike (xs ys : List Bytes) (given₁ given₂ : List ℕ) : Type 0 where
  pub each : (core : ℕ) → to_core core xs given₁ ≡ to_core core ys given₂
