-- What an accepted record adds to the numbers.
use Rattle.std.specs.Prelude.{◌≡◌, List, ℕ, ◌≤◌}
use Rattle.rules.specs.Limits.{max_accepted}
use Rattle.rules.specs.HeldLocks.{HeldLock}
use Rattle.rules.specs.Run.{Journal, with_record}
use Rattle.layout.specs.Layout.{number_size, seen_size, accepted_of, KeepsPast}
use Rattle.layout.specs.Encoding.{SeenBytes}
use Rattle.rules.specs.Number.{low_first}
use Rattle.numbers.specs.Numbers.{NumberPut}
use Rattle.held.specs.Frames.{FrameBytes, SmallLocks}
use Rattle.update.specs.Update.{drawn_from}

-- The pair whose number stands at a place gets one, if it has none yet.
pub record PairNumbered (before : List ℕ) (at number : ℕ) (after : List ℕ) : Type 0 where
  pub had : (low_first number_size before at ≡ 0 → ⊥) → after ≡ before
  pub numbered : low_first number_size before at ≡ 0 → NumberPut before at number after

-- The pairs at which an acquire draws get numbers as `with_record` of the rules gives them.
pub record Numbered (desk : List ℕ) (K n class mode : ℕ) (before after : List ℕ) : Type 0 where
  pub keeps : KeepsPast (seen_size K) before after
  pub numbered : (hs : List HeldLock) → FrameBytes desk n hs → SmallLocks hs → (j : Journal) → j.accepted ≡ accepted_of desk
      → ((f t : ℕ) → j.seen f t ≤ max_accepted) → SeenBytes K j.seen before → SeenBytes K (with_record (drawn_from hs class mode) j).seen after
