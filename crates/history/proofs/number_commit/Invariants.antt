-- The invariant: the pairs with the entries passed have their numbers.

use Rattle.history.proofs.Numbering.{Numbering}
use Rattle.history.proofs.number_commit.Given as goal

abbrev pub invariant-loop-i : goal.invariant-loop-i
invariant-loop-i l = Numbering l.desk l.history l.k l.frame l.class l.initial.seen l.i l.seen
