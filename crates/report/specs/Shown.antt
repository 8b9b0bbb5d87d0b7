-- What is written to the slip.
use Rattle.std.specs.Prelude.{◌≡◌, List, [], ◌∷◌, ◌++◌, ℕ, ◌+◌, ◌*◌, ◌<◌, ◌≤◌, length, get_or}
use Rattle.rules.specs.Number.{bytes_of}
use Rattle.layout.specs.Layout.{number_size, slip_size, entries_at, entry_size, number_of, KeepsPast}
use Rattle.layout.specs.Decoding.{SlipBytes}
use Rattle.shortest.specs.Shortest.{found_at, found_entries}
use Rattle.shortest.specs.declared.Found.{Found}

-- The classes of a cycle are below K.
pub record Ranged (K : ℕ) (f : Found) : Type 0 where
  pub below : (i : ℕ) → i < f.n → (found_at f i).class < K

-- The seven bytes of entry i, and only they may differ.
pub record EntryWritten (before : List ℕ) (i class kind source number : ℕ) (after : List ℕ) : Type 0 where
  pub long : length after ≡ length before
  pub bytes : (k : ℕ) → k < entry_size → get_or after (entries_at + entry_size * i + k) 0 ≡ get_or ((class ∷ kind ∷ source ∷ []) ++ bytes_of number_size number) k 0
  pub below : (j : ℕ) → j < entries_at + entry_size * i → get_or after j 0 ≡ get_or before j 0
  pub above : (j : ℕ) → entries_at + entry_size * i + entry_size ≤ j → get_or after j 0 ≡ get_or before j 0

-- The slip has the cycle f with the numbers of the second sheet, and its bytes past that stay.
pub record Shown (f : Found) (K : ℕ) (seen before after : List ℕ) : Type 0 where
  pub keeps : KeepsPast (slip_size f.n) before after
  pub bytes : SlipBytes (number_of seen K) (found_entries f) after
