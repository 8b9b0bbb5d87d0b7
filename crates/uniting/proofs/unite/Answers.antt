use mathlib.Core.Path.{◌≡◌}
use native.Mathlib.Omega.{arith}
use Rattle.uniting.proofs.Uniting.{united_none, united_more}
use Rattle.uniting.proofs.unite.Goals as goal

pub loop-j-init : goal.loop-j-init
loop-j-init c = united_none _ _ _ _

pub loop-j-preserved : goal.loop-j-preserved
loop-j-preserved c = united_more c.loop-j.invariant (omega arith) (omega (arith, c.requires.3))

pub shape_of-joined : goal.shape_of-joined
shape_of-joined c = c.loop-j.invariant.long

pub returns : goal.returns
returns c = let e : c.loop-j.j ≡ c.args.end = omega arith in rw e at c.loop-j.invariant
