-- Runs of the calls, over their contracts.
use Rattle.std.specs.Prelude.{◌≡◌, List, [], ◌∷◌, ℕ, ◌≤◌, length}
use Rattle.rules.specs.Record.{Bytes}
use Rattle.rules.specs.Run.{State, start}
use Rattle.rules.specs.Join.{join}
use Rattle.layout.specs.Layout.{history_size, slip_size, member_of}
use Rattle.opening.specs.Open.{Opened}
use Rattle.validator.specs.Calls.{Buffers, Called}
use Rattle.benches.specs.Benches.{Bench, bench_classes, bench_state}
use Rattle.joiner.specs.Joining.{Joined}

-- Calls of the step, one record a call, each handed the buffers as the last left them: the buffers, the records, the answers, the buffers left.
pub data Ran : Buffers → List Bytes → List ℕ → Buffers → Type 0 where
  no_call : {b : Buffers} → Ran b [] [] b
  call : {b b' b'' : Buffers} {r : Bytes} {rs : List Bytes} {answer : ℕ} {answers : List ℕ}
      → Called b r answer b' → Ran b' rs answers b'' → Ran b (r ∷ rs) (answer ∷ answers) b''

-- The buffers as an opening that was not refused leaves them, with a slip that is long enough and holds anything.
pub record Opening (K declared : ℕ) (b : Buffers) : Type 0 where
  pub desk_before : List ℕ
  pub sheet_before : List ℕ
  pub seen_before : List ℕ
  pub history_before : List ℕ
  pub opened : Opened K declared desk_before sheet_before seen_before history_before 0 b.desk b.sheet b.seen b.history
  pub room : slip_size K ≤ length b.slip

-- What a join reads of a state: the graph, the journal and the declarations.
pub record SameBench (s t : State) : Type 0 where
  pub graph : s.graph ≡ t.graph
  pub journal : s.journal ≡ t.journal
  pub declared : s.cross.declared ≡ t.cross.declared

-- The buffers as a join that was not refused leaves them, of two benches that stand for the states s and t; with a history and a slip that are long enough and
-- hold anything.
pub record Joining (K : ℕ) (s t : State) (b : Buffers) : Type 0 where
  pub one : Bench
  pub two : Bench
  pub before : Buffers
  pub answer : ℕ
  pub slip_left : List ℕ
  pub joined : Joined one two before.desk before.sheet before.seen before.slip answer b.desk b.sheet b.seen slip_left
  pub not_refused : answer ≤ 1
  pub classes : bench_classes one ≡ K
  pub first : SameBench (bench_state one) s
  pub second : SameBench (bench_state two) t
  pub history_room : history_size ≤ length b.history
  pub room : slip_size K ≤ length b.slip

-- Where a run may start, and in which state of the rules: as opening leaves the buffers, or as a join does.
pub data Start (K : ℕ) : State → Buffers → Type 0 where
  from_opening : {b : Buffers} {declared : ℕ} → Opening K declared b → Start K (start (member_of declared)) b
  from_join : {b : Buffers} {s t : State} → Joining K s t b → Start K (join K s t).state b
