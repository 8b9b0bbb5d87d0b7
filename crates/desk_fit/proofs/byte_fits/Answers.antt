use mathlib.Core.Path.{◌∙◌}
use borrow.Author.Tests.{eq-eqb}
use Rattle.std.proofs.Common.{rules}
use Rattle.desk_fit.specs.Empty.{byte_fits}
use Rattle.desk_fit.proofs.Origins.{byte_none}
use Rattle.desk_fit.proofs.byte_fits.Goals as goal

pub returns-then-desk-b-eq0 : goal.returns-then-desk-b-eq0
returns-then-desk-b-eq0 c = eq-eqb _ _ c.if-desk-b-eq0.true ∙ byte_none _ _ c.if-desk-b-eq0.true

pub returns-else-desk-b-eq0 : goal.returns-else-desk-b-eq0
unfolding byte_fits
returns-else-desk-b-eq0 c = c.all_below.ensures _ (λ i l b e. search rules)
