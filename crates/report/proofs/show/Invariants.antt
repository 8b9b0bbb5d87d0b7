-- The loop's invariant: the number and the first i entries are written.
use Rattle.report.proofs.Writing.{Writing}
use Rattle.report.proofs.show.Given as goal

abbrev pub invariant-loop-i : goal.invariant-loop-i
invariant-loop-i l = Writing l.k l.seen l.found l.initial.slip l.i l.slip
