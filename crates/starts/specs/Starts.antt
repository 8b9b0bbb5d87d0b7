-- The start of the least cycle.
use Rattle.std.specs.Prelude.{Option, None, Some, ◌-◌, ◌≡◌, List, ℕ, ◌+◌, ◌*◌, ◌/◌, ◌%◌, ◌<◌, ◌≤◌}
use Rattle.rules.specs.HeldLocks.{Second}
use Rattle.rules.specs.Graph.{Graph}
use Rattle.search.specs.Rows.{second_index, Rows}
use Rattle.routes.specs.Routes.{Home}
use Rattle.starts.specs.Levels.{letter_at, NoneUpTo}
use Rattle.search.specs.Letters.{second_letter}
use Rattle.starts.specs.declared.Begin as code

-- The place of a class and a letter in the order of the starts.
abbrev pub start_of : ℕ → Second → ℕ
start_of x d = 2 * x + second_index d

-- The best start so far: a cycle of n dependencies (0: none yet) from class start / 2 as after the letter start % 2. A better one has at most
-- limit dependencies.
pub record Begin : Type 0 where
  pub n : ℕ
  pub start : ℕ
  pub limit : ℕ

-- The best start that the code found, where a cycle may have at most limit dependencies.
abbrev pub begins : ℕ → Option code.Begin → Begin
begins limit None = record { n = 0; start = 0; limit = limit }
begins limit (Some b) = record { n = b.n; start = start_of b.class (second_letter b.letter); limit = b.n - 1 }

pub record Better (b : Begin) (n start : ℕ) (r : Begin) : Type 0 where
  pub none : n ≡ 0 → r ≡ b
  pub some : (n ≡ 0 → ⊥) → (r.n ≡ n) × (r.start ≡ start) × (r.limit + 1 ≡ n)

-- The best of the starts before s, among cycles of at most `limit` dependencies.
pub record Begun (rows : List ℕ) (K limit s : ℕ) (b : Begin) : Type 0 where
  pub few : b.limit ≤ K
  pub searched : (x : ℕ) (d : Second) → start_of x d < s → NoneUpTo rows K x d b.limit
  pub none : b.n ≡ 0 → b.limit ≡ limit
  pub exact : 0 < b.n → b.n ≡ b.limit + 1
  pub within : 0 < b.n → b.n ≤ K
  pub before : 0 < b.n → b.start < s
  pub earlier : 0 < b.n → (x : ℕ) (d : Second) → start_of x d < b.start → NoneUpTo rows K x d b.n
  pub home : 0 < b.n → (g : Graph) → Rows K g rows → Home K g (b.start / 2) (letter_at (b.start % 2)) b.n (b.start / 2) (letter_at (b.start % 2))
