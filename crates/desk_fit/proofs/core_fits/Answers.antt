use mathlib.Core.Path.{◌≡◌, sym, ◌∙◌}
use mathlib.Core.Bool.{true}
use native.Mathlib.Omega.{arith}
use borrow.Author.Tests.{le-leb, lt-leb}
use lib.Dec.{leb}
use Rattle.rules.specs.Context.{hard_over_soft}
use Rattle.layout.specs.Fit.{core_fits}
use Rattle.desk_fit.proofs.core_fits.Goals as goal

pub returns-then-soft_fits : goal.returns-then-soft_fits
unfolding core_fits
returns-then-soft_fits c =
    let e = c.in-Ok.ensures.0 in
    let l : leb c.in-Ok.state hard_over_soft ≡ true = le-leb _ _ (omega arith) in
    rw (← e, l, sym c.soft_fits.ensures ∙ c.if-soft_fits.true) c.hard_fits.ensures

pub returns-else-soft_fits : goal.returns-else-soft_fits
unfolding core_fits
returns-else-soft_fits c =
    let e = c.in-Ok.ensures.0 in
    let l : leb c.in-Ok.state hard_over_soft ≡ true = le-leb _ _ (omega arith) in
    rw (← e, l, sym c.soft_fits.ensures ∙ c.if-soft_fits.false) c.if-soft_fits.false

pub returns-in-Err : goal.returns-in-Err
unfolding core_fits
returns-in-Err c = rw (lt-leb _ _ c.in-Err.ensures)
