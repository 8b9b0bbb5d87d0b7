use Rattle.clash.proofs.Answers.{clash_bound, bounded, positive_bound}
use Rattle.clash.proofs.cycle_bound.Goals as goal

pub returns-then-clashes-clause-bounded : goal.returns-then-clashes-clause-bounded
returns-then-clashes-clause-bounded c = clash_bound c.requires.1 c.clashes.ensures c.if-clashes.true

pub returns-clause-bounded : goal.returns-clause-bounded
returns-clause-bounded c = rw c.then_some.ensures (bounded c.clashes.ensures c.if-clashes.false c.is_cyclic.ensures)

pub returns-clause-some : goal.returns-clause-some
returns-clause-some c = rw c.then_some.ensures (positive_bound c.is_cyclic.ensures)
