-- The feed that a value of the code stands for.
use Rattle.std.specs.Prelude.{◌≡◌, List, ℕ, ◌≤◌, length, take, drop}
use Rattle.progress.specs.declared.Progress.{Progress}
use Rattle.progress.specs.Feed.{Feed, most_loose, loose_at}

-- Of the array the first `count` bytes are the loose ones.
abbrev pub feed_of : Progress → Feed
feed_of p = record { answer = p.answer; opened = p.opened; loose = take p.count p.loose; number = p.number }

-- The count is the number of loose bytes.
abbrev pub Counted : Progress → Type 0
Counted p = p.count ≡ length (feed_of p).loose

-- The array has the bytes that stand in the places of the loose ones.
pub record LooseIn (feed array : List ℕ) : Type 0 where
  pub same : (n : ℕ) → n ≤ most_loose → take n array ≡ take n (drop loose_at feed)
