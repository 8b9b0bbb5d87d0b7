use Rattle.starts.specs.Levels.{Behind}
use Rattle.starts.proofs.behind.Given as goal

abbrev pub invariant-loop-class : goal.invariant-loop-class
invariant-loop-class l = Behind l.rows l.from l.class l.to l.out
