-- The numbers by which the rules know a record's kind.
use Rattle.std.specs.Prelude.{◌≡◌, ℕ, ◌+◌, ◌≤◌, Result, MatchResult}
use Rattle.rules.specs.Limits.{kind_count}
use Rattle.context.specs.States.{event_number}
use Rattle.record.specs.declared.Kind.{Kind}
use Rattle.record.specs.declared.Kind.TheVariants.{Acquire, Release, Interrupt, CrossAcquire, Commit, CrossRelease}
use Rattle.record.specs.declared.NoKind.{NoKind}

abbrev pub kind_number : Kind → ℕ
kind_number Acquire = 0
kind_number Release = 1
kind_number (Interrupt event) = 2 + event_number event
kind_number CrossAcquire = 10
kind_number Commit = 11
kind_number CrossRelease = 12

-- The kind with a number, or that none has it.
abbrev pub KindBy : ℕ → Result Kind NoKind → Type 0
KindBy n r = MatchResult r (λ k. kind_number k ≡ n) (λ _. kind_count ≤ n)
