-- Document 02, f: "A small program prints the classes whose balance isn't 0, lowest first, a line `class balance` each, or `refused 14`."
use Rattle.std.specs.Prelude.{cond, List, [], ◌∷◌, ◌++◌, ℕ, zero, suc, ◌+◌, ◌*◌, ◌≤◌, ℤ, pos, negsuc, nat_abs}
use Rattle.rules.specs.Limits.{max_classes}
use Rattle.rules.specs.Log.{records_of}
use Rattle.log_text.specs.Text.{digits, line_end, refused_line, Appended}
use Rattle.balance.specs.Piece.{bad_piece, is_refused, balance}

-- A minus where the number is below zero.
abbrev pub sign : ℤ → List ℕ
sign (pos n) = []
sign (negsuc n) = 45 ∷ []

abbrev pub signed_text : ℤ → List ℕ
signed_text z = sign z ++ digits (nat_abs z)

abbrev pub space : List ℕ
space = 32 ∷ []

unfoldable pub balance_line : (class : ℕ) → ℤ → List ℕ
balance_line c z = ((digits c ++ space) ++ signed_text z) ++ line_end

-- "the classes whose balance isn't 0"
abbrev pub shown : (class : ℕ) → ℤ → List ℕ
shown c (pos zero) = []
shown c (pos (suc n)) = balance_line c (pos (suc n))
shown c (negsuc n) = balance_line c (negsuc n)

-- "lowest first": the classes below n
unfoldable pub lines_below : (n : ℕ) → (ℕ → ℤ) → List ℕ
lines_below zero b = []
lines_below (suc n) b = lines_below n b ++ shown n (b n)

-- The whole text for a piece: what the program writes.
abbrev pub piece_text : (piece : List ℕ) → List ℕ
piece_text piece = cond (is_refused piece) (refused_line bad_piece) (lines_below max_classes (λ c. balance c (records_of piece)))

-- Room for a number with its sign; for a line; and for all of them.
abbrev pub signed_room : ℕ
signed_room = 21

abbrev pub line_room : ℕ
line_room = 32

abbrev pub text_room : ℕ
text_room = line_room * max_classes

pub record LinePut (before : List ℕ) (at class : ℕ) (balance : ℤ) (after : List ℕ) (end : ℕ) : Type 0 where
  pub line : Appended before at (shown class balance) after end
  pub short : end ≤ at + line_room
