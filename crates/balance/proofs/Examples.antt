-- The pieces of specs/Examples.antt, and those of many equal records. Assumes nothing.
use mathlib.Core.Path.{◌≡◌, refl, ap, ap₂, ◌∙◌}
use mathlib.Core.Bool.{Bool, true, false, cond}
use mathlib.Core.List.{List, [], ◌∷◌, map}
use Prim.Native.Nat.{ℕ, zero, suc, ◌*◌, ◌<◌}
use native.Mathlib.Omega.{arith}
use lib.Dec.{ltb}
use lib.IntN.{ℤ, pos, negsuc, neg_ℤ, ◌+ℤ◌}
use lib.ListN.{length, replicate, length-append}
use borrow.Author.Tests.{lt-ltb, ltb-true, ltb-false}
use Rattle.rules.specs.Record.{Bytes, record_size, kind_of, class_of, is_malformed}
use Rattle.rules.specs.Log.{records_of}
use Rattle.rules.specs.Examples.{says, takes, frees, does}
use Rattle.rules.proofs.Cutting.{no_records, first_record}
use Rattle.balance.specs.Piece.{most_records, most_bytes, bad_piece, is_refused, balance, for_each_class, balances_of, zeros}
use Rattle.balance.specs.Code.{part_of}
use Rattle.balance.specs.Examples.{in_one, Given, PieceCase, piece_case, records, refused, piece_cases}
use Rattle.balance.proofs.Adding.{balance_append, passed}
use Rattle.balance.proofs.Counting.{kind_part}

-- What the contract says that the call gives.
abbrev given_for : List ℕ → Given
given_for piece = record { answer = cond (is_refused piece) bad_piece 0; balances = cond (is_refused piece) zeros (balances_of (records_of piece)) }

pub pieces_hold : map (λ (e : PieceCase). given_for e.piece) piece_cases ≡ map (λ (e : PieceCase). e.given) piece_cases
unfolding piece_cases piece_case records refused takes frees does says is_malformed is_refused records_of balance for_each_class
pieces_hold = refl

-- ---- A piece of n equal records.

longer : (piece : List ℕ) → most_bytes < length piece → is_refused piece ≡ true
unfolding is_refused
longer piece h = simp (lt-ltb most_bytes (length piece) h)

module _ (r : Bytes) (l : length r ≡ record_size) where
  repeated_length : (n : ℕ) → length (in_one (replicate n r)) ≡ record_size * n
  repeated_length zero = refl
  repeated_length (suc n) = length-append r (in_one (replicate n r)) ∙ (let e = repeated_length n in omega arith)

  -- 10,000 records pass, and one more does not.
  pub repeated_refused : (n : ℕ) → is_refused (in_one (replicate n r)) ≡ ltb most_records n
  repeated_refused n = by (ltb most_records n) refl
    where
      by : (t : Bool) → ltb most_records n ≡ t → is_refused (in_one (replicate n r)) ≡ t
      by true h = longer _ (let k = ltb-true most_records n h in omega (arith, repeated_length n))
      by false h = passed _ (let k = ltb-false most_records n h in omega (arith, repeated_length n)) (omega (arith, repeated_length n))

  pub repeated_records : (n : ℕ) → records_of (in_one (replicate n r)) ≡ replicate n r
  repeated_records zero = no_records [] (omega arith)
  repeated_records (suc n) = first_record r (in_one (replicate n r)) l ∙ ap (λ (rs : List Bytes). r ∷ rs) (repeated_records n)

  module _ (f : is_malformed r ≡ false) where
    pub repeated_acquires : kind_of r ≡ 0 → (n : ℕ) → balance (class_of r) (replicate n r) ≡ pos n
    unfolding balance
    repeated_acquires k zero = refl
    repeated_acquires k (suc n) =
        balance_append (class_of r) (r ∷ []) (replicate n r)
        ∙ ap₂ (λ (x y : ℤ). x +ℤ y) (kind_part r f ∙ ap part_of k) (repeated_acquires k n)
        ∙ ap pos (omega arith)

    pub repeated_releases : kind_of r ≡ 1 → (n : ℕ) → balance (class_of r) (replicate n r) ≡ neg_ℤ (pos n)
    unfolding balance
    repeated_releases k zero = refl
    repeated_releases k (suc n) =
        balance_append (class_of r) (r ∷ []) (replicate n r)
        ∙ ap₂ (λ (x y : ℤ). x +ℤ y) (kind_part r f ∙ ap part_of k) (repeated_releases k n)
        ∙ one_down n
      where
        one_down : (n : ℕ) → negsuc 0 +ℤ neg_ℤ (pos n) ≡ neg_ℤ (pos (suc n))
        one_down zero = refl
        one_down (suc n) = ap negsuc (omega arith)
