-- The numbers by which the rules know a state, a frame and an interrupt event.
use Rattle.std.specs.Prelude.{◌≡◌, ℕ, ◌<◌, ◌≤◌, Option, Some, None, Result, MatchResult}
use Rattle.rules.specs.Context.{no_state}
use Rattle.context.specs.declared.CoreState.{CoreState}
use Rattle.context.specs.declared.NoState.{NoState}
use Rattle.context.specs.declared.Frame.{Frame}
use Rattle.context.specs.declared.Frame.TheVariants.{Task, Soft, Hard}
use Rattle.context.specs.declared.Interrupt.{Interrupt}
use Rattle.context.specs.declared.Interrupt.TheVariants.{HardOn, HardOff, SoftOn, SoftOff, EnterSoft, ExitSoft, EnterHard, ExitHard}

abbrev pub state_number : CoreState → ℕ
state_number s = s

abbrev pub next_number : Option CoreState → ℕ
next_number (Some s) = state_number s
next_number None = no_state

abbrev pub number_of_frame : Frame → ℕ
number_of_frame Task = 0
number_of_frame Soft = 1
number_of_frame Hard = 2

abbrev pub event_number : Interrupt → ℕ
event_number HardOn = 0
event_number HardOff = 1
event_number SoftOn = 2
event_number SoftOff = 3
event_number EnterSoft = 4
event_number ExitSoft = 5
event_number EnterHard = 6
event_number ExitHard = 7

-- The state with a number, or that none has it.
abbrev pub StateBy : ℕ → Result CoreState NoState → Type 0
StateBy n r = MatchResult r (λ s. (state_number s ≡ n) × (n < 9)) (λ _. 9 ≤ n)
