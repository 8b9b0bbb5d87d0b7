-- When a handler is left.
use Rattle.std.specs.Prelude.{◌≡◌, true, List, ℕ, ◌-◌, ◌<◌, ◌≤◌}
use Rattle.rules.specs.Record.{kind_of, core_of}
use Rattle.rules.specs.Context.{no_state, next_state, leaves_handler}
use Rattle.layout.specs.Layout.{state_of}

-- The record is an exit that the core's state allows, and the core's state is then `to`.
pub record Leaving (desk bytes : List ℕ) (to : ℕ) : Type 0 where
  pub first : 2 ≤ kind_of bytes
  pub last : kind_of bytes < 10
  pub leaves : leaves_handler (kind_of bytes - 2) ≡ true
  pub is : to ≡ next_state (state_of desk (core_of bytes)) (kind_of bytes - 2)
  pub allowed : to ≡ no_state → ⊥
