-- What comes of a log, and whether its text is an answer, for standard output, or a complaint.
use Rattle.std.specs.Prelude.{Bool, true, false, ℕ, zero, suc}
use Rattle.outcome.specs.declared.Outcome.{Outcome}

-- What came of a log whose last answer, or first answer but 0, has a number: of records, or of its record.
abbrev pub outcome_of : (answer number : ℕ) → Outcome
outcome_of zero n = Outcome.Clean n
outcome_of (suc zero) n = Outcome.Fault n
outcome_of (suc (suc a)) n = Outcome.Refused (suc (suc a)) n

abbrev pub is_answer : Outcome → Bool
is_answer (Outcome.Clean n) = true
is_answer (Outcome.Refused answer i) = true
is_answer (Outcome.Fault i) = true
is_answer Outcome.Unread = false
