-- What it is to write a number.
use Rattle.std.specs.Prelude.{◌≡◌, List, ◌⊎◌, ℕ, ◌+◌, ◌<◌, ◌≤◌, length, get_or}
use Rattle.layout.specs.Layout.{number_size}
use Rattle.rules.specs.Log.{word_size}
use Rattle.layout.specs.Encoding.{WideBytes}

-- The number, of so many bytes, stands at the place, and every other byte is as it was.
pub record WidePut (size : ℕ) (before : List ℕ) (at number : ℕ) (after : List ℕ) : Type 0 where
  pub long : length after ≡ length before
  pub there : WideBytes size number after at
  pub else : (j : ℕ) → (j < at) ⊎ (at + size ≤ j) → get_or after j 0 ≡ get_or before j 0

abbrev pub NumberPut : (before : List ℕ) (at number : ℕ) (after : List ℕ) → Type 0
NumberPut = WidePut number_size

abbrev pub WordPut : (before : List ℕ) (at word : ℕ) (after : List ℕ) → Type 0
WordPut = WidePut word_size
