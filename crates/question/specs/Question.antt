-- What the question promises, for every input.
use Rattle.std.specs.Prelude.{◌≡◌, true, false, List, ◌↔◌, ℕ, ◌<◌, ◌≤◌}
use Rattle.std.specs.Int.Count.{ones}
use Rattle.words.specs.Bits.{bit}
use Rattle.rules.specs.StrongPath.{Reaches}
use Rattle.rules.specs.Verdict.{unfit, no_class, refusal_number}
use Rattle.layout.specs.Layout.{classes_of}
use Rattle.layout.specs.Decoding.{view_graph}
use Rattle.layout.specs.Fit.{fits}

-- The question. "Refused with 11, then 4; word and count are then 0"; "Answered, its number is 0": the word has bit t when and only when
-- class t ends a strong path from the class, and the count is its number of ones. An open and a closed desk are asked alike.
pub record Asked (desk sheet seen : List ℕ) (class answer word count : ℕ) : Type 0 where
  pub is_unfit : fits desk sheet seen ≡ false → (answer ≡ unfit) × (word ≡ 0) × (count ≡ 0)
  pub no_such_class : fits desk sheet seen ≡ true → classes_of desk ≤ class → (answer ≡ refusal_number no_class) × (word ≡ 0) × (count ≡ 0)
  pub answered : fits desk sheet seen ≡ true → class < classes_of desk
      → (answer ≡ 0)
      × ((t : ℕ) → (bit word t ≡ 1) ↔ Reaches (classes_of desk) (view_graph desk sheet) class t)
      × (count ≡ ones word)
