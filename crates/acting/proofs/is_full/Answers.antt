-- `acting::is_full` meets its contract. Assumes nothing.
use mathlib.Core.Path.{ap}
use lib.Dec.{leb}
use Rattle.rules.specs.Limits.{max_accepted}
use Rattle.acting.proofs.is_full.Goals as goal

pub returns : goal.returns
returns c = ap (leb max_accepted) c.number_at.ensures
