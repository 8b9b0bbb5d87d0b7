-- What is asked for has the lengths of a fit bench.
use mathlib.Core.Path.{sym, ◌∙◌}
use native.Mathlib.Omega.{arith}
use Rattle.fit.proofs.Facts.{facts}
use Rattle.benches.proofs.refusal.Goals as goal

pub classes-k1-requires : goal.classes-k1-requires
classes-k1-requires c = (facts _ _ _ (sym c.fits.ensures ∙ c.if-not-fits.false)).long

pub classes-k2-requires : goal.classes-k2-requires
classes-k2-requires c = (facts _ _ _ (sym c.fits-else-not-fits.ensures ∙ c.if-not-fits-2.false)).long

pub has_room-requires : goal.has_room-requires
has_room-requires c =
    let one = (facts _ _ _ (sym c.fits.ensures ∙ c.if-not-fits.false)).few in
    let two = (facts _ _ _ (sym c.fits-else-not-fits.ensures ∙ c.if-not-fits-2.false)).few in
    rw c.max.ensures (omega (arith, c.classes-k1.ensures, c.classes-k2.ensures))

pub same_classes-requires : goal.same_classes-requires
same_classes-requires c =
    ((facts _ _ _ (sym c.fits.ensures ∙ c.if-not-fits.false)).long, (facts _ _ _ (sym c.fits-else-not-fits.ensures ∙ c.if-not-fits-2.false)).long)

pub is_closed-requires : goal.is_closed-requires
is_closed-requires c = (facts _ _ _ (sym c.fits.ensures ∙ c.if-not-fits.false)).long

pub is_closed-requires-else-is_closed : goal.is_closed-requires-else-is_closed
is_closed-requires-else-is_closed c =
    omega (arith, (facts _ _ _ (sym c.fits.ensures ∙ c.if-not-fits.false)).long, (facts _ _ _ (sym c.fits-else-not-fits.ensures ∙ c.if-not-fits-2.false)).long)
