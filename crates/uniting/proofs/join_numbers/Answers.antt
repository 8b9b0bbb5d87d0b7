use mathlib.Core.Path.{◌≡◌, ◌∙◌, ap₂}
use native.Mathlib.Omega.{arith}
use Rattle.rules.specs.Join.{first_or}
use Rattle.uniting.proofs.Uniting.{numbers_none, numbers_more}
use Rattle.uniting.proofs.join_numbers.Goals as goal

pub loop-j-init : goal.loop-j-init
loop-j-init c = numbers_none _ _ _

pub loop-j-preserved : goal.loop-j-preserved
loop-j-preserved c = numbers_more c.loop-j.invariant c.put_number.ensures (c.first_or.ensures ∙ ap₂ first_or c.number_at-first.ensures c.number_at-second.ensures)

pub shape_of-joined : goal.shape_of-joined
shape_of-joined c = c.loop-j.invariant.keeps.long

pub returns : goal.returns
returns c = let e : c.loop-j.j ≡ c.args.pairs = omega arith in rw e at c.loop-j.invariant
