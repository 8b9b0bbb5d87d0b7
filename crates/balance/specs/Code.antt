-- What the functions of this crate do to the balances.
use Rattle.std.specs.Prelude.{◌≡◌, List, [], ◌∷◌, ℕ, zero, suc, ◌<◌, ◌≤◌, ℤ, pos, negsuc, ◌+ℤ◌, length, get_or}
use Rattle.std.specs.Int.Signed.{mag}
use Rattle.rules.specs.Limits.{max_classes}
use Rattle.rules.specs.Record.{Bytes}
use Rattle.balance.specs.Piece.{most_records, balance, for_each_class}

-- There is a balance for each class, and another step up or down fits.
pub record Room (balances : List ℤ) : Type 0 where
  pub long : length balances ≡ max_classes
  pub room : (c : ℕ) → c < max_classes → mag (get_or balances c (pos 0)) ≤ most_records

-- What a record of a kind is in the balance of its class, if it is not malformed.
abbrev pub part_of : (kind : ℕ) → ℤ
part_of zero = pos 1
part_of (suc zero) = negsuc 0
part_of (suc (suc k)) = pos 0

-- A record is counted.
abbrev pub counted : (balances : List ℤ) → Bytes → List ℤ
counted balances r = for_each_class (λ c. get_or balances c (pos 0) +ℤ balance c (r ∷ []))
