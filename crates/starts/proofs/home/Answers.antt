use Rattle.starts.proofs.Levels.{home_r, home_n}
use Rattle.starts.proofs.home.Goals as goal

pub returns-in-R : goal.returns-in-R
returns-in-R c = rw c.in-R.is (home_r c.with-by_n.ensures c.with.ensures)

pub returns-in-N : goal.returns-in-N
returns-in-N c = rw c.in-N.is (home_n c.with-by_n.ensures)
