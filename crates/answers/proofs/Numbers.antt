-- No refusal has the number 0. Assumes nothing.
use mathlib.Core.Path.{◌≡◌}
use native.Mathlib.Omega.{arith}
use Rattle.answers.specs.declared.Refusal.{Refusal}
use Rattle.answers.specs.Numbers.{refusal_number}

pub refusal_some : (r : Refusal) → refusal_number r ≡ 0 → ⊥
refusal_some Refusal.BadOpening e = omega arith
refusal_some Refusal.Malformed e = omega arith
refusal_some Refusal.NoClass e = omega arith
refusal_some Refusal.NotHeld e = omega arith
refusal_some Refusal.NoTransition e = omega arith
refusal_some Refusal.StillHeld e = omega arith
refusal_some Refusal.TooDeep e = omega arith
refusal_some Refusal.CountFull e = omega arith
refusal_some Refusal.Closed e = omega arith
refusal_some Refusal.Unfit e = omega arith
refusal_some Refusal.OtherClasses e = omega arith
refusal_some Refusal.BenchClosed e = omega arith
refusal_some Refusal.BadPiece e = omega arith
refusal_some Refusal.WrongSort e = omega arith
refusal_some Refusal.InProgress e = omega arith
refusal_some Refusal.NotInProgress e = omega arith
refusal_some Refusal.ListFull e = omega arith
refusal_some Refusal.HistoryFull e = omega arith
