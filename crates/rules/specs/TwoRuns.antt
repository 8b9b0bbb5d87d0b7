-- Document 01, "Two desks, one claim": demand 3 as a statement about two lists of records. proofs/MoreEvidence.antt proves it.
use Rattle.std.specs.Prelude.{◌≡◌, false, ◌⊎◌, ℕ, zero, suc, ◌≤◌, ◌<◌, length, get_or}
use mathlib.Core.List.{List, [], ◌∷◌, Memᴰ}
use Rattle.rules.specs.Record.{Bytes, event_of, is_cross, is_malformed, Names}
use Rattle.rules.specs.StrongPath.{ClosedStrongPath}
use Rattle.rules.specs.Run.{State, graph_at}

-- A record of the list names the core.
pub record NamedIn (rs : List Bytes) (core : ℕ) : Type 0 where
  pub by : Bytes
  pub member : Memᴰ by rs
  pub names : Names by core

-- The record names no core that the list names; and "no added record is of kinds 10 to 12" (02, j; a malformed one is of no kind).
pub record Foreign (rs : List Bytes) (r : Bytes) : Type 0 where
  pub apart : (core : ℕ) → Names r core → NamedIn rs core → ⊥
  pub ordinary : is_malformed r ≡ false → is_cross (event_of r) ≡ false

-- The second list is the first, in its order, with records put in at any places, each foreign to `whole`, which is the first list.
pub data Interleaved (whole : List Bytes) : List Bytes → List Bytes → Type 0 where
  done : Interleaved whole [] []
  keep : {r : Bytes} {xs ys : List Bytes} → Interleaved whole xs ys → Interleaved whole (r ∷ xs) (r ∷ ys)
  insert : {r : Bytes} {xs ys : List Bytes} → Foreign whole r → Interleaved whole xs ys → Interleaved whole xs (r ∷ ys)

-- Where record i of the first list stands in the second.
abbrev pub place : {whole xs ys : List Bytes} → Interleaved whole xs ys → ℕ → ℕ
place done i = i
place (keep e) zero = zero
place (keep e) (suc i) = suc (place e i)
place (insert f e) i = suc (place e i)

-- A fault came at record j or before it.
pub record FaultBy (given : List ℕ) (j : ℕ) : Type 0 where
  pub at : ℕ
  pub by : at ≤ j
  pub is_fault : get_or given at 0 ≡ 1

-- No record got this answer.
pub record Never (answer : ℕ) (given : List ℕ) : Type 0 where
  pub never : (i : ℕ) → get_or given i 0 ≡ answer → ⊥

-- The claim, of any two lists of answers: those that two runs from the state `start` gave to the lists xs and ys.
pub record MoreEvidence (K : ℕ) (start : State) {xs ys : List Bytes} (e : Interleaved xs xs ys) (given₁ given₂ : List ℕ) : Type 0 where
  -- Each record of the first list gets its old answer unless a fault came at or before it.
  pub same : (i : ℕ) → i < length xs → (get_or given₂ (place e i) 0 ≡ get_or given₁ i 0) ⊎ FaultBy given₂ (place e i)
  -- A fault comes only with a closed strong path in the second list's own graph at that record.
  pub true_fault : (j : ℕ) → get_or given₂ j 0 ≡ 1 → ClosedStrongPath K (graph_at K start ys j)
  -- Where that record is the first list's, its old answer was 0 or a fault.
  pub old : (i : ℕ) → i < length xs → get_or given₂ (place e i) 0 ≡ 1 → (get_or given₁ i 0 ≡ 0) ⊎ (get_or given₁ i 0 ≡ 1)
  -- After a fault every record gets 10.
  pub shut : (i j : ℕ) → i < j → j < length ys → get_or given₂ i 0 ≡ 1 → get_or given₂ j 0 ≡ 10
  -- So a fault in the first list closes the second at that record or sooner.
  pub sooner : (i : ℕ) → i < length xs → get_or given₁ i 0 ≡ 1 → FaultBy given₂ (place e i)
