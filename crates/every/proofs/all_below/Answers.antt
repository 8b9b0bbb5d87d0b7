use mathlib.Core.Path.{sym, ap₂, ◌∙◌}
use mathlib.Core.Bool.{◌&&◌}
use Rattle.layout.proofs.AllBelow.{all_none, all_step}
use Rattle.every.proofs.all_below.Goals as goal

pub loop-i-init : goal.loop-i-init
loop-i-init g c = λ p h. sym (all_none p)

pub loop-i-preserved : goal.loop-i-preserved
loop-i-preserved g c = λ p h. ap₂ ◌&&◌ (c.loop-i.invariant p h) (h _ c.loop-i-test.true _ c.test-ok.ensures) ∙ sym (all_step _ p)
