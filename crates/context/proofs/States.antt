-- An interrupt event's number is below eight. Assumes nothing.
use Prim.Native.Nat.{◌<◌}
use native.Mathlib.Omega.{arith}
use Rattle.context.specs.declared.Interrupt.{Interrupt}
use Rattle.context.specs.declared.Interrupt.TheVariants.{HardOn, HardOff, SoftOn, SoftOff, EnterSoft, ExitSoft, EnterHard, ExitHard}
use Rattle.context.specs.States.{event_number}

pub event_number_less : (e : Interrupt) → event_number e < 8
event_number_less HardOn = omega arith
event_number_less HardOff = omega arith
event_number_less SoftOn = omega arith
event_number_less SoftOff = omega arith
event_number_less EnterSoft = omega arith
event_number_less ExitSoft = omega arith
event_number_less EnterHard = omega arith
event_number_less ExitHard = omega arith
