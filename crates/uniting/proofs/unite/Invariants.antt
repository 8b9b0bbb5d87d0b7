-- The invariant: the bytes passed have both.
use Rattle.uniting.specs.United.{United}
use Rattle.uniting.proofs.unite.Given as goal

abbrev pub invariant-loop-j : goal.invariant-loop-j
invariant-loop-j l = United l.one l.two l.at l.j l.initial.joined l.joined
