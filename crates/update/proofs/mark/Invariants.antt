use Rattle.context.specs.States.{state_number}
use Rattle.update.proofs.Marking.{Marking}
use Rattle.update.proofs.Notes.{Noting}
use Rattle.update.proofs.mark.Given as goal

abbrev pub invariant-loop-p : goal.invariant-loop-p
invariant-loop-p l = Marking l.initial.desk l.frame (state_number l.context) l.p l.desk × Noting l.initial.desk l.desk l.changed
