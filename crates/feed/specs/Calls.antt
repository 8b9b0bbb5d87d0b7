-- What the calls of the feed promise, for every input.
use Rattle.std.specs.Prelude.{◌≡◌, true, false, cond, List, ◌++◌, ℕ, leb, length, drop}
use Rattle.rules.specs.Verdict.{bad_opening, unfit}
use Rattle.validator.specs.Calls.{Buffers}
use Rattle.progress.specs.Feed.{Feed, fresh, feed_size, bytes_of, view, fits}
use Rattle.feed.specs.Fed.{Fed, Ended}

-- The buffer with a feed in its first bytes.
abbrev pub holding : Feed → List ℕ → List ℕ
holding f feed = bytes_of f ++ drop feed_size feed

-- A fresh feed, or 2 where the buffer is short, and nothing changed.
pub record Started (feed : List ℕ) (answer : ℕ) (feed' : List ℕ) : Type 0 where
  pub number_is : answer ≡ cond (leb feed_size (length feed)) 0 bad_opening
  pub bytes : feed' ≡ cond (leb feed_size (length feed)) (holding fresh feed) feed

-- A fit feed goes on by `Next`, and says the standing answer and its number.
pub record GoesOn (feed : List ℕ) (Next : Feed → Buffers → Type 0) (answer number : ℕ) (feed' : List ℕ) (b' : Buffers) : Type 0 where
  pub after : Feed
  pub next : Next after b'
  pub answer_is : answer ≡ after.answer
  pub number_is : number ≡ after.number
  pub bytes : feed' ≡ holding after feed

-- "An unfit feed buffer answers 11 with record 0 and nothing changed."
pub record FeedCall (feed : List ℕ) (b : Buffers) (Next : Feed → Buffers → Type 0) (answer number : ℕ) (feed' : List ℕ) (b' : Buffers) : Type 0 where
  pub is_unfit : fits feed ≡ false → (answer ≡ unfit) × (number ≡ 0) × (feed' ≡ feed) × (b' ≡ b)
  pub goes_on : fits feed ≡ true → GoesOn feed Next answer number feed' b'

-- A piece of the log.
abbrev pub FedPiece : (feed : List ℕ) (b : Buffers) (piece : List ℕ) (answer number : ℕ) (feed' : List ℕ) (b' : Buffers) → Type 0
FedPiece feed b piece = FeedCall feed b (Fed (view feed) b piece)

-- The end of the log.
abbrev pub FedEnd : (feed : List ℕ) (b : Buffers) (answer number : ℕ) (feed' : List ℕ) (b' : Buffers) → Type 0
FedEnd feed b = FeedCall feed b (Ended (view feed) b)
