-- The letters of the code as the rules' letters, and the sets of arrivals that the code's functions give.
use Rattle.std.specs.Prelude.{◌≡◌, List, ℕ, ◌<◌}
use Rattle.words.specs.Bits.{Without}
use Rattle.rules.specs.HeldLocks.{First, Second}
use Rattle.rules.specs.HeldLocks as rules
use Rattle.search.specs.Rows.{row_at}
use Rattle.search.specs.Arrivals.{word_by, In, kind_by, Union}
use Rattle.search.specs.declared.Arrivals.{Arrivals}
use Rattle.search.specs.declared.FirstLetter.{FirstLetter}
use Rattle.search.specs.declared.FirstLetter.TheVariants.{E, S}
use Rattle.search.specs.declared.SecondLetter.{SecondLetter}
use Rattle.search.specs.declared.SecondLetter.TheVariants.{R, N}

abbrev pub first_letter : FirstLetter → First
first_letter E = rules.E
first_letter S = rules.S

abbrev pub second_letter : SecondLetter → Second
second_letter R = rules.R
second_letter N = rules.N

-- t has the arrivals that follow x by the first letter f, as they stand in the words.
abbrev pub Successors : List ℕ → ℕ → First → Arrivals → Type 0
Successors rows x f t = (b : Second) → word_by t b ≡ row_at rows x (kind_by f b)

-- r has the arrivals of s and those of t.
abbrev pub Joined : (s t r : Arrivals) → Type 0
Joined s t r = (b : Second) → Union (word_by s b) (word_by t b) (word_by r b)

-- r has the arrivals of s that t does not have.
abbrev pub Less : (s t r : Arrivals) → Type 0
Less s t r = (b : Second) → Without (word_by s b) (word_by t b) (word_by r b)

abbrev pub HasNone : Arrivals → Type 0
HasNone s = (j : ℕ) (b : Second) → In s j b → ⊥

-- Class j, arrived at by b, is in the set.
pub record Taken (s : Arrivals) (j : ℕ) (b : Second) : Type 0 where
  pub small : j < 64
  pub member : In s j b
