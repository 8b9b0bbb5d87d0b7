-- Request k, as statements about the calls.
use Rattle.std.specs.Prelude.{◌≡◌, List, ◌⊎◌, ◌↔◌, ℕ, ◌<◌, get_or}
use Rattle.rules.specs.Record.{Bytes}
use Rattle.rules.specs.Graph.{Graph}
use Rattle.layout.specs.Layout.{desk_size, sheet_size, closed_of}
use Rattle.validator.specs.Calls.{Buffers}
use Rattle.merges.specs.Merge.{AnsweredAlike}
use Rattle.usage.specs.UsageRules.{Broken}

-- What two runs come to whose lists give each core the same records: both desks open or both closed; if open, each core's records were answered alike, and every
-- byte of the desk and of the sheet is the same. Nothing is claimed of the second sheet.
pub record EitherMerge (K : ℕ) (xs ys : List Bytes) (given given' : List ℕ) (b b' : Buffers) : Type 0 where
  pub closed : closed_of b.desk ≡ closed_of b'.desk
  pub answered : closed_of b.desk ≡ 0 → AnsweredAlike xs ys given given'
  pub desk_is : closed_of b.desk ≡ 0 → (j : ℕ) → j < desk_size → get_or b.desk j 0 ≡ get_or b'.desk j 0
  pub sheet_is : closed_of b.desk ≡ 0 → (j : ℕ) → j < sheet_size K → get_or b.sheet j 0 ≡ get_or b'.sheet j 0

-- Of an accepted record, where g is the graph with what it draws: the answer is a fault exactly when one of document 002's rules is broken.
pub record FaultByRules (K : ℕ) (g : Graph) (answer : ℕ) : Type 0 where
  pub exactly : (answer ≡ 0) ⊎ (answer ≡ 1) → (answer ≡ 1) ↔ Broken K g
