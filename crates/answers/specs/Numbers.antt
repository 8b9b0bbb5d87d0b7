-- The numbers of the answers, as a host in C gets them.
use Rattle.std.specs.Prelude.{ℕ, Result, Ok, Err}
use Rattle.answers.specs.declared.Refusal.{Refusal}
use Rattle.answers.specs.declared.Verdict.{Verdict}

abbrev pub refusal_number : Refusal → ℕ
refusal_number Refusal.BadOpening = 2
refusal_number Refusal.Malformed = 3
refusal_number Refusal.NoClass = 4
refusal_number Refusal.NotHeld = 5
refusal_number Refusal.NoTransition = 6
refusal_number Refusal.StillHeld = 7
refusal_number Refusal.TooDeep = 8
refusal_number Refusal.CountFull = 9
refusal_number Refusal.Closed = 10
refusal_number Refusal.Unfit = 11
refusal_number Refusal.OtherClasses = 12
refusal_number Refusal.BenchClosed = 13
refusal_number Refusal.BadPiece = 14
refusal_number Refusal.WrongSort = 15
refusal_number Refusal.InProgress = 16
refusal_number Refusal.NotInProgress = 17
refusal_number Refusal.ListFull = 18
refusal_number Refusal.HistoryFull = 19

abbrev pub verdict_number : Verdict → ℕ
verdict_number Verdict.Clean = 0
verdict_number Verdict.Fault = 1

-- Of the step and the joiner.
abbrev pub answer_number : Result Verdict Refusal → ℕ
answer_number (Ok v) = verdict_number v
answer_number (Err r) = refusal_number r

-- Of a call that gives nothing or a value of another type: 0 where it is not refused.
abbrev pub refused_number : {A : Type 0} → Result A Refusal → ℕ
refused_number (Ok a) = 0
refused_number (Err r) = refusal_number r
