use Rattle.files.proofs.Reading.{none_taken, one_taken}
use Rattle.files.proofs.feed_input.Goals as goal

pub loop-init : goal.loop-init
loop-init g c = none_taken _ _

pub returns-then-said-ne-CLEAN : goal.returns-then-said-ne-CLEAN
returns-then-said-ne-CLEAN g c = one_taken c.loop.invariant c.feed_piece-said.ensures

pub loop-preserved : goal.loop-preserved
loop-preserved g c = one_taken c.loop.invariant c.feed_piece-said.ensures
