-- The invariant: the pairs passed have their numbers.
use Rattle.uniting.specs.United.{NumbersJoined}
use Rattle.uniting.proofs.join_numbers.Given as goal

abbrev pub invariant-loop-j : goal.invariant-loop-j
invariant-loop-j l = NumbersJoined l.one l.two l.j l.initial.joined l.joined
