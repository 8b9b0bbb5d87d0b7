-- Short names of the kinds.
use Rattle.std.specs.Prelude.{Bool, ◌||◌}
use Rattle.rules.specs.HeldLocks.{E, S, R, N}
use Rattle.rules.specs.Graph.{Kind}

abbrev pub ER : Kind
ER = record { first = E; second = R }

abbrev pub EN : Kind
EN = record { first = E; second = N }

abbrev pub SR : Kind
SR = record { first = S; second = R }

abbrev pub SN : Kind
SN = record { first = S; second = N }

-- Some kind meets the test.
abbrev pub some_kind : (Kind → Bool) → Bool
some_kind d = (d ER || d EN) || (d SR || d SN)
