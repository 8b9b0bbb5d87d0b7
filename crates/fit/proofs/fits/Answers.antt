use mathlib.Core.Path.{sym, ◌∙◌}
use native.Mathlib.Nat.{mul-le-mul}
use native.Mathlib.Omega.{arith}
use Rattle.fit.proofs.Facts.{graph_facts}
use Rattle.fit.proofs.fits.Goals as goal

pub cross_fits-requires : goal.cross_fits-requires
cross_fits-requires c =
    let f = graph_facts _ _ (sym c.graph_fits.ensures ∙ c.if-not-graph_fits.false) in
    (f.long, f.few)

pub bounds-desk-0 : goal.bounds-desk-0
bounds-desk-0 c =
    omega (arith, (graph_facts _ _ (sym c.graph_fits.ensures ∙ c.if-not-graph_fits.false)).long)

pub numbers_fit-requires : goal.numbers_fit-requires
numbers_fit-requires c =
    let f = graph_facts _ _ (sym c.graph_fits.ensures ∙ c.if-not-graph_fits.false) in
    rw c.from-k.ensures (f.square, rw c.from-k.ensures at c.if-size-seen.true, mul-le-mul f.few f.few)
