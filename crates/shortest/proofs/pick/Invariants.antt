use Rattle.shortest.proofs.Picks.{Passed}
use Rattle.shortest.proofs.pick.Given as goal

abbrev pub invariant-loop-rank : goal.invariant-loop-rank
invariant-loop-rank l = Passed l.words l.to l.rank
