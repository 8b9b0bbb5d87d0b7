-- The invariant: no byte has changed.
use mathlib.Core.Path.{◌≡◌}
use Rattle.opening.proofs.seat_cores.Given as goal

abbrev pub invariant-loop-i : goal.invariant-loop-i
invariant-loop-i l = l.desk ≡ l.initial.desk
