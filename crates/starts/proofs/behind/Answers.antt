use mathlib.Core.Path.{◌≡◌}
use native.Mathlib.Omega.{arith}
use Rattle.starts.proofs.Levels.{behind_none, behind_more}
use Rattle.starts.proofs.behind.Goals as goal

pub loop-class-init : goal.loop-class-init
loop-class-init c = behind_none

pub loop-class-preserved : goal.loop-class-preserved
loop-class-preserved c = behind_more c.loop-class.invariant c.widened-out.ensures

pub returns : goal.returns
returns c = let e : c.loop-class.class ≡ c.args.k = omega arith in rw e at c.loop-class.invariant
