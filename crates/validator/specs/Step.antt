-- What the step promises, for every input.
use Rattle.std.specs.Prelude.{◌≡◌, true, false, List, ℕ}
use Rattle.rules.specs.Verdict.{unfit}
use Rattle.rules.specs.Run.{State, step}
use Rattle.layout.specs.Layout.{classes_of}
use Rattle.layout.specs.Decoding.{view, CarriedOut}
use Rattle.layout.specs.Fit.{fits_all}

-- A record validated in the state s of the rules.
abbrev pub Validated : (K : ℕ) (s : State) (bytes desk sheet seen history slip : List ℕ) (answer : ℕ) (desk' sheet' seen' history' slip' : List ℕ) → Type 0
Validated K s bytes = CarriedOut K (step K s bytes)

-- The step. Unfit buffers are refused with 11 before anything else, and nothing is changed; fit ones are taken as they stand.
pub record Stepped (desk sheet seen history slip bytes : List ℕ) (answer : ℕ) (desk' sheet' seen' history' slip' : List ℕ) : Type 0 where
  pub is_unfit : fits_all desk sheet seen history slip ≡ false
      → (answer ≡ unfit) × (desk' ≡ desk) × (sheet' ≡ sheet) × (seen' ≡ seen) × (history' ≡ history) × (slip' ≡ slip)
  pub validated : fits_all desk sheet seen history slip ≡ true
      → Validated (classes_of desk) (view desk sheet seen history) bytes desk sheet seen history slip answer desk' sheet' seen' history' slip'
