use Rattle.rules.specs.HeldLocks.{E, S}
use Rattle.starts.proofs.Levels.{leads_by, widened_e, widened_s}
use Rattle.starts.proofs.widened.Goals as goal

pub returns-then-meets : goal.returns-then-meets
returns-then-meets c =
    widened_e (rw c.if-meets.true at (leads_by {f = E} c.successors.ensures c.meets.ensures)) c.with.ensures c.with-then-meets.ensures

pub returns-then-meets-2 : goal.returns-then-meets-2
returns-then-meets-2 c =
    widened_s (rw c.if-meets.false at (leads_by {f = E} c.successors.ensures c.meets.ensures))
    (rw c.if-meets-2.true at (leads_by {f = S} c.successors-else-meets.ensures c.meets-else-meets.ensures)) c.with-then-meets-2.ensures
