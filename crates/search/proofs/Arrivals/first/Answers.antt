use Rattle.rules.specs.HeldLocks.{R, N}
use Rattle.search.proofs.Sets.{empty}
use Rattle.search.proofs.Arrivals.first.Goals as goal

pub returns-else-self-ne0-2 : goal.returns-else-self-ne0-2
returns-else-self-ne0-2 c j = elim [ R ↦ empty j c.if-self-ne0-2.false | N ↦ empty j c.if-self-ne0.false ]
