-- Document 02, f: the balance of a piece, for each lock class. The balance law of the rules is over accepted records; here only the form counts.
use Rattle.std.specs.Prelude.{◌≡◌, Bool, not, cond, ◌&&◌, ◌||◌, List, [], ◌∷◌, ◌++◌, ℕ, ◌*◌, ◌%◌, ◌<◌, ◌≤◌, ltb, eqb, ℤ, pos, ◌+ℤ◌, ◌-ℤ◌, length, get_or}
use Rattle.rules.specs.Limits.{max_classes}
use Rattle.rules.specs.Record.{Bytes, Event, record_size, event_of, is_malformed}
use Rattle.rules.specs.Log.{records_of}
use Rattle.rules.specs.Decision.{tabulate}
use Rattle.rules.specs.Balance.{acquires, releases, count_if}

-- "a piece of up to 10,000 records"
abbrev pub most_records : ℕ
most_records = 10000

abbrev pub most_bytes : ℕ
most_bytes = record_size * most_records

-- "A piece that is longer, or isn't a whole number of records, is refused with 14"
abbrev pub bad_piece : ℕ
bad_piece = 14

unfoldable pub is_refused : (piece : List ℕ) → Bool
is_refused piece = ltb most_bytes (length piece) || not (eqb (length piece % record_size) 0)

-- A record counts if refusal 3 passes it and it says what is asked: nothing else is looked at.
abbrev pub counts : (Event → Bool) → Bytes → Bool
counts says r = not (is_malformed r) && says (event_of r)

abbrev pub how_many : (Event → Bool) → List Bytes → ℕ
how_many says [] = 0
how_many says (r ∷ rs) = count_if (counts says r) (how_many says rs)

-- "kind 0 less kind 1 over the records that refusal 3 passes"
unfoldable pub balance : (class : ℕ) → List Bytes → ℤ
balance c rs = pos (how_many (acquires c) rs) -ℤ pos (how_many (releases c) rs)

-- "for each class", and "records of class 64 or more count for nothing"
unfoldable pub for_each_class : (ℕ → ℤ) → List ℤ
for_each_class f = tabulate max_classes f

abbrev pub balances_of : List Bytes → List ℤ
balances_of rs = for_each_class (λ c. balance c rs)

-- "and reports 64 zeros"
abbrev pub zeros : List ℤ
zeros = for_each_class (λ c. pos 0)

-- What the call gives for a piece: its number, and the 64 balances.
pub record PieceBalanced (piece : List ℕ) (answer : ℕ) (balances : List ℤ) : Type 0 where
  pub number : answer ≡ cond (is_refused piece) bad_piece 0
  pub numbers : balances ≡ cond (is_refused piece) zeros (balances_of (records_of piece))

-- "Two pieces that are not refused, joined within the limit, add their balances."
pub record PiecesAdd (one two : List ℕ) : Type 0 where
  pub add : {b₁ b₂ b : List ℤ} {answer : ℕ} → PieceBalanced one 0 b₁ → PieceBalanced two 0 b₂ → length (one ++ two) ≤ most_bytes
      → PieceBalanced (one ++ two) answer b
      → (answer ≡ 0) × ((c : ℕ) → c < max_classes → get_or b c (pos 0) ≡ get_or b₁ c (pos 0) +ℤ get_or b₂ c (pos 0))
