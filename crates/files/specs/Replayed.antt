-- What is done with what the reads of a file give. No contract can say which bytes a read gives: the pieces are some list.
use Rattle.std.specs.Prelude.{◌≡◌, List, ℕ}
use Rattle.validator.specs.Calls.{Buffers}
use Rattle.feed.specs.Calls.{Started, FedEnd}
use Rattle.plungerowl.specs.Logs.{FeedRan}
use Rattle.outcome.specs.Outcomes.{outcome_of}
use Rattle.outcome.specs.declared.Outcome.{Outcome}

-- Each read's piece was fed, in order.
pub record Taken (feed : List ℕ) (b : Buffers) (feed' : List ℕ) (b' : Buffers) : Type 0 where
  pub pieces : List (List ℕ)
  pub ran : FeedRan feed b pieces feed' b'

-- The pieces were fed to a fresh feed, the log was ended, and what came of it is what the end call said.
pub record ReadToEnd (b : Buffers) (o : Outcome) (b' : Buffers) : Type 0 where
  pub before : List ℕ
  pub fresh : List ℕ
  pub fed : List ℕ
  pub after : List ℕ
  pub between : Buffers
  pub answer : ℕ
  pub number : ℕ
  pub started : Started before 0 fresh
  pub taken : Taken fresh b fed between
  pub ended : FedEnd fed between answer number after b'
  pub outcome_is : o ≡ outcome_of answer number

-- A read failed, or the whole log was read.
pub data Replayed (b : Buffers) : Outcome → Buffers → Type 0 where
  unread : {b' : Buffers} → Replayed b Outcome.Unread b'
  whole : {o : Outcome} {b' : Buffers} → ReadToEnd b o b' → Replayed b o b'
