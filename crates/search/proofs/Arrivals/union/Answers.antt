use Rattle.rules.specs.HeldLocks.{R, N}
use Rattle.search.proofs.Sets.{union_law}
use Rattle.search.proofs.Arrivals.union.Goals as goal

pub returns : goal.returns
returns c = elim [ R ↦ union_law c.args.self.r c.args.other.r | N ↦ union_law c.args.self.n c.args.other.n ]
