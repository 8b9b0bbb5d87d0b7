-- The invariant: the pairs with the places passed have their numbers.
use Rattle.numbering.proofs.Numbering.{Numbering}
use Rattle.numbering.proofs.number_pairs.Given as goal

abbrev pub invariant-loop-held : goal.invariant-loop-held
invariant-loop-held l = Numbering l.desk l.k l.frame l.class l.initial.seen l.held-index l.seen
