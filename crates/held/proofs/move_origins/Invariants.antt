use Rattle.held.proofs.Frames.{OriginsMoving}
use Rattle.held.proofs.move_origins.Given as goal

abbrev pub invariant-loop-p : goal.invariant-loop-p
invariant-loop-p l = OriginsMoving l.initial.desk l.frame l.at l.p l.desk
