-- Pieces, with what the call gives for them. proofs/Examples.antt computes them.
use Rattle.std.specs.Prelude.{cond, List, [], ◌∷◌, ◌++◌, ℕ, eqb, ℤ, pos, negsuc, take, drop, replicate}
use Rattle.rules.specs.Record.{Bytes}
use Rattle.rules.specs.Examples.{exclusive, read, recursive, try_exclusive, try_read, try_recursive, says, takes, frees, does, hard_on}
use Rattle.balance.specs.Piece.{for_each_class}

-- The bytes of records, one behind another.
abbrev pub in_one : List Bytes → List ℕ
in_one [] = []
in_one (r ∷ rs) = r ++ in_one rs

-- The balances that are not 0.
pub record ClassBalance : Type 0 where
  pub class : ℕ
  pub balance : ℤ

abbrev pub listed : List ClassBalance → ℕ → ℤ
listed [] c = pos 0
listed (b ∷ bs) c = cond (eqb c b.class) b.balance (listed bs c)

pub record Given : Type 0 where
  pub answer : ℕ
  pub balances : List ℤ

pub record PieceCase : Type 0 where
  pub piece : List ℕ
  pub given : Given

unfoldable pub piece_case : List ℕ → ℕ → List ClassBalance → PieceCase
piece_case piece answer balances = record { piece = piece; given = record { answer = answer; balances = for_each_class (listed balances) } }

-- Passed, with these balances.
unfoldable pub records : List Bytes → List ClassBalance → PieceCase
records rs balances = piece_case (in_one rs) 0 balances

unfoldable pub refused : List ℕ → PieceCase
refused piece = piece_case piece 14 []

abbrev pub of : (class : ℕ) → ℤ → ClassBalance
of c z = record { class = c; balance = z }

unfoldable pub piece_cases : List PieceCase
piece_cases =
    -- nothing; "9 -1"; as many releases as acquires; a release before its acquire
    records [] []
    ∷ records (frees 0 9 exclusive ∷ []) (of 9 (negsuc 0) ∷ [])
    ∷ records (takes 0 3 exclusive ∷ frees 0 3 exclusive ∷ []) []
    ∷ records (frees 0 3 exclusive ∷ frees 0 3 exclusive ∷ takes 0 3 exclusive ∷ []) (of 3 (negsuc 0) ∷ [])
    -- every mode of an acquire counts, tries too, and every core
    ∷ records (takes 0 1 exclusive ∷ takes 1 1 read ∷ takes 2 1 recursive ∷ takes 3 1 try_exclusive ∷ takes 4 1 try_read ∷ takes 7 1 try_recursive ∷ []) (of 1 (pos 6) ∷ [])
    -- so does every mode of a release, whatever was acquired
    ∷ records (frees 0 1 exclusive ∷ frees 1 1 read ∷ frees 2 1 recursive ∷ frees 3 1 try_exclusive ∷ frees 4 1 try_read ∷ frees 7 1 try_recursive ∷ []) (of 1 (negsuc 5) ∷ [])
    ∷ records (takes 0 2 exclusive ∷ frees 0 2 try_recursive ∷ []) []
    -- no desk is asked: 49 in one frame, a release of what nobody holds, what follows a fault
    ∷ records (replicate 49 (takes 0 2 recursive)) (of 2 (pos 49) ∷ [])
    ∷ records (takes 0 1 exclusive ∷ takes 0 1 exclusive ∷ frees 5 1 exclusive ∷ takes 0 4 exclusive ∷ []) (of 1 (pos 1) ∷ of 4 (pos 1) ∷ [])
    -- there is no K: 63 counts, 64 and 255 count for nothing, and neither for 0 nor for 63
    ∷ records (takes 0 63 exclusive ∷ takes 0 0 exclusive ∷ takes 0 64 exclusive ∷ frees 0 255 exclusive ∷ takes 0 127 exclusive ∷ []) (of 0 (pos 1) ∷ of 63 (pos 1) ∷ [])
    -- interrupt events count for nothing
    ∷ records (does 0 hard_on ∷ frees 0 0 exclusive ∷ []) (of 0 (negsuc 0) ∷ [])
    -- so do the kinds of a crosslock
    ∷ records (says 0 10 1 0 ∷ says 1 11 1 0 ∷ says 2 12 1 0 ∷ takes 0 1 exclusive ∷ []) (of 1 (pos 1) ∷ [])
    -- a malformed record is skipped, and those behind it count: mode 6, that of a release too, core 8, kind 13, signature, class of an event
    ∷ records (takes 0 1 6 ∷ frees 0 1 6 ∷ takes 8 1 exclusive ∷ says 0 13 1 0 ∷ says 0 2 1 0 ∷ takes 0 1 exclusive ∷ []) (of 1 (pos 1) ∷ [])
    ∷ records ((0x4C ∷ 0x48 ∷ 0 ∷ 0 ∷ 1 ∷ 0 ∷ []) ∷ (0x4D ∷ 0x4B ∷ 0 ∷ 0 ∷ 1 ∷ 0 ∷ []) ∷ takes 0 1 exclusive ∷ []) (of 1 (pos 1) ∷ [])
    -- the length alone refuses: five bytes, seven, a header, a header and a record
    ∷ refused (take 5 (takes 0 1 exclusive))
    ∷ refused (takes 0 1 exclusive ++ 0x4C ∷ [])
    ∷ refused (0x4C ∷ 0x48 ∷ 1 ∷ 3 ∷ [])
    ∷ refused (0x4C ∷ 0x48 ∷ 1 ∷ 3 ∷ takes 0 1 exclusive)
    -- a header and eight bytes are cut into two records, both malformed
    ∷ piece_case (0x4C ∷ 0x48 ∷ 1 ∷ 3 ∷ takes 0 1 exclusive ++ drop 4 (takes 0 1 exclusive)) 0 []
    ∷ []
