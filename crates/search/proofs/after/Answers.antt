use borrow.Author.Rules.{rules}
use Rattle.search.proofs.Paths.{next_r, next_n}
use Rattle.search.proofs.after.Goals as goal

pub returns-in-R : goal.returns-in-R
returns-in-R c = rw c.in-R.is (next_r c.successors-by_e.ensures (record { r = search rules; n = search rules }))

pub returns-in-N : goal.returns-in-N
returns-in-N c = rw c.in-N.is (next_n c.successors-by_e.ensures c.successors.ensures c.union.ensures (record { r = search rules; n = search rules }))
