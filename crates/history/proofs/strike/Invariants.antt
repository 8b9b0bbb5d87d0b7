-- The invariant: the entries passed are done.
use Rattle.history.proofs.Striking.{Striking}
use Rattle.history.proofs.strike.Given as goal

abbrev pub invariant-loop-i : goal.invariant-loop-i
invariant-loop-i l = Striking l.initial.history l.frame l.i l.history
