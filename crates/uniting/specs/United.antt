-- What it is to join bytes and numbers.
use Rattle.std.specs.Prelude.{◌≡◌, List, ◌⊎◌, ℕ, ◌*◌, ◌<◌, ◌≤◌, length, get_or}
use Rattle.std.specs.Int.Bits.{bit_or}
use Rattle.rules.specs.Join.{first_or}
use Rattle.layout.specs.Layout.{number_size, pair_number, KeepsPast}
use Rattle.layout.specs.Encoding.{NumberBytes}

-- The bytes from `at` up to `end` have the bits of both buffers, and every other byte is as it was.
pub record United (one two : List ℕ) (at end : ℕ) (before after : List ℕ) : Type 0 where
  pub long : length after ≡ length before
  pub both : (j : ℕ) → at ≤ j → j < end → get_or after j 0 ≡ bit_or (get_or one j 0) (get_or two j 0)
  pub else : (j : ℕ) → (j < at) ⊎ (end ≤ j) → get_or after j 0 ≡ get_or before j 0

-- So many pairs have their number, and every byte behind them is as it was.
pub record NumbersJoined (one two : List ℕ) (pairs : ℕ) (before after : List ℕ) : Type 0 where
  pub keeps : KeepsPast (number_size * pairs) before after
  pub numbers : (j : ℕ) → j < pairs → NumberBytes (first_or (pair_number one j) (pair_number two j)) after (number_size * j)
