-- A place of a frame with no lock, and the origins byte by byte.
use Rattle.std.specs.Prelude.{Bool, List, ℕ, ◌+◌, ◌*◌, eqb, get_or}
use Rattle.layout.specs.Layout.{origins_at, held_of}
use Rattle.layout.specs.Fit.{all_below, origin_fits}

abbrev pub empty_at : List ℕ → ℕ → ℕ → Bool
empty_at desk n p = eqb (held_of desk n p) 0

abbrev pub no_try_in : List ℕ → ℕ → Bool
no_try_in desk b = eqb (get_or desk (origins_at + b) 0) 0

unfoldable pub byte_fits : List ℕ → ℕ → Bool
byte_fits desk b = all_below 8 (λ j. origin_fits desk (8 * b + j))
