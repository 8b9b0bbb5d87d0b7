use Rattle.std.proofs.Common.{rules}
use Rattle.layout.specs.Fit.{entries_fit}
use Rattle.cross_fit.proofs.entries_fit.Goals as goal

pub returns : goal.returns
unfolding entries_fit
returns c = rw (← c.number_at-kept.ensures) (c.all_below.ensures _ (λ i l b e. search rules))
