use Rattle.update.proofs.Drawing.{Drawing}
use Rattle.update.proofs.Notes.{Noting}
use Rattle.update.proofs.draw.Given as goal

abbrev pub invariant-loop-held : goal.invariant-loop-held
invariant-loop-held l = Drawing l.desk l.k l.frame l.class l.mode l.initial.sheet l.held-index l.sheet × Noting l.initial.sheet l.sheet l.changed
