-- The user's three demands, as statements about the calls; demand 3 is rules' MoreEvidence.
use Rattle.std.specs.Prelude.{◌≡◌, true, List, ◌⊎◌, ◌↔◌, ℕ, ◌+◌, ◌<◌, length}
use Rattle.rules.specs.Record.{Bytes}
use Rattle.rules.specs.Context.{Frame}
use Rattle.rules.specs.Graph.{Graph}
use Rattle.rules.specs.StrongPath.{ClosedStrongPath}
use Rattle.rules.specs.Run.{State, run}
use Rattle.rules.specs.Balance.{acquires, releases, standing, tally}
use Rattle.rules.specs.FirstSeen.{drawings, number_after}
use Rattle.layout.specs.Layout.{closed_of, kinds_of, accepted_of, number_of}
use Rattle.layout.specs.Fit.{fits_all}
use Rattle.layout.specs.Decoding.{view, StandFor, Reported}
use Rattle.validator.specs.Calls.{Buffers}

-- Two results of one call of the step: the number and every byte are the same.
pub record SameStep (answer answer' : ℕ) (b b' : Buffers) : Type 0 where
  pub number_is : answer ≡ answer'
  pub desk_is : b.desk ≡ b'.desk
  pub sheet_is : b.sheet ≡ b'.sheet
  pub seen_is : b.seen ≡ b'.seen
  pub history_is : b.history ≡ b'.history
  pub slip_is : b.slip ≡ b'.slip

-- Demand 1, of one step: an open desk is closed by a fault and by nothing else.
pub record ClosedByFault (before : List ℕ) (answer : ℕ) (after : List ℕ) : Type 0 where
  pub exactly : closed_of before ≡ 0 → (closed_of after ≡ 1) ↔ (answer ≡ 1)

-- Demand 2, of an accepted record, where g is the graph with what it draws: the answer is a fault exactly when g has a closed strong path, and
-- with the fault comes the least cycle of g, with the numbers of its pairs.
pub record FaultExactly (K : ℕ) (g : Graph) (numbers : ℕ → ℕ → ℕ) (answer : ℕ) (slip slip' : List ℕ) : Type 0 where
  pub exactly : (answer ≡ 0) ⊎ (answer ≡ 1) → (answer ≡ 1) ↔ ClosedStrongPath K g
  pub cycle : answer ≡ 1 → Reported K g numbers slip slip'

-- Demand 2, of a run from a state s of the rules (Start of Runs.antt): the bytes stand for what the rules draw from the records alone.
pub record DrawnFromRecords (K : ℕ) (s : State) (rs : List Bytes) (b : Buffers) : Type 0 where
  pub stands : StandFor K (run K s rs) b.desk b.sheet b.seen b.history
  pub stays_fit : fits_all b.desk b.sheet b.seen b.history b.slip ≡ true

-- Request e, of such a run: the count, and the number of each pair in the second sheet, worked out from the records alone and from the numbers at the start,
-- of which opening gives none; 0 exactly where there is no lock dependency.
pub record NumberedFromRecords (K : ℕ) (s : State) (rs : List Bytes) (b : Buffers) : Type 0 where
  pub counted : accepted_of b.desk ≡ length (drawings K s rs)
  pub numbered : (from to : ℕ) → from < K → to < K → number_of b.seen K from to ≡ number_after K s rs from to
  pub none : (from to : ℕ) → from < K → to < K → (number_of b.seen K from to ≡ 0) ↔ (kinds_of b.sheet K from to ≡ 0)

-- The balance law, of such a run: the locks that stand in the desk's frames.
pub record Balanced (K : ℕ) (s : State) (rs : List Bytes) (b : Buffers) : Type 0 where
  pub balance : (core : ℕ) (f : Frame) (class : ℕ)
      → standing class (((view b.desk b.sheet b.seen b.history).cores core).held f) + tally K core f (releases class) s rs ≡ tally K core f (acquires class) s rs
