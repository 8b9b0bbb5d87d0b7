-- The invariant: what the entries passed draw is drawn.

use Rattle.history.proofs.Committing.{Committing}
use Rattle.history.proofs.draw_commit.Given as goal

abbrev pub invariant-loop-i : goal.invariant-loop-i
invariant-loop-i l = Committing l.desk l.history l.k l.frame l.class l.initial.sheet l.i l.sheet
