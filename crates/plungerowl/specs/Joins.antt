-- Request i, as statements about calls of the joiner.
use Rattle.std.specs.Prelude.{◌≡◌, List, ◌⊎◌, ℕ, suc, ◌%◌, ◌<◌, ◌≤◌, length, get_or}
use Rattle.rules.specs.Run.{State}
use Rattle.rules.specs.Join.{joined_graph, join}
use Rattle.layout.specs.Layout.{entry_number_at, entry_size, slip_size, count_of}
use Rattle.layout.specs.Decoding.{StandFor}
use Rattle.validator.specs.Calls.{Buffers}
use Rattle.benches.specs.Benches.{Bench, bench}
use Rattle.joiner.specs.Joining.{Joined}
use Rattle.plungerowl.specs.Demands.{FaultExactly}

-- A call of the joiner: the benches, the buffers, the answer, the buffers left. It takes no history.
abbrev pub CalledJoin : (one two : Bench) → Buffers → ℕ → Buffers → Type 0
CalledJoin one two b answer b' =
    Joined one two b.desk b.sheet b.seen b.slip answer b'.desk b'.sheet b'.seen b'.slip × (b'.history ≡ b.history)

-- The bench that a run left.
abbrev pub bench_of : Buffers → Bench
bench_of b = bench b.desk b.sheet b.seen

-- Of benches that stand for states s and t of K classes: desk and sheets stand for the joined state with any history, the answer is a fault exactly when the joined graph, of both
-- graphs, has a closed strong path, and with it comes the least cycle of that graph, with the joined numbers.
pub record JoinedFrom (K : ℕ) (s t : State) (answer : ℕ) (b b' : Buffers) : Type 0 where
  pub stands : StandFor K (join K s t).state b'.desk b'.sheet b'.seen b'.history
  pub verdict : FaultExactly K (joined_graph s.graph t.graph) (join K s t).state.journal.seen answer b.slip b'.slip

-- A byte of a slip that is none of a number: the count, or a class, kind or source; or one behind the cycle.
abbrev pub NoNumber : (slip : List ℕ) → ℕ → Type 0
NoNumber slip j = (j ≡ 0) ⊎ (((i : ℕ) → j ≡ suc i → i % entry_size < entry_number_at) ⊎ (slip_size (count_of slip) ≤ j))

-- "Apart from first-seen numbers and the slip, joining in either order gives the same": the answer, desk and sheet; and of the slip all but the numbers.
pub record EitherOrder (answer answer' : ℕ) (b b' : Buffers) : Type 0 where
  pub number_is : answer ≡ answer'
  pub desk_is : b.desk ≡ b'.desk
  pub sheet_is : b.sheet ≡ b'.sheet
  pub seen_long : length b.seen ≡ length b'.seen
  pub slip_long : length b.slip ≡ length b'.slip
  pub slip_is : (j : ℕ) → NoNumber b.slip j → get_or b.slip j 0 ≡ get_or b'.slip j 0
