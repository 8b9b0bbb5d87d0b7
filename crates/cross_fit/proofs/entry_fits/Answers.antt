use mathlib.Core.Path.{sym, ◌∙◌}
use native.Mathlib.Omega.{arith}
use borrow.Author.Tests.{leb-true, ltb-true, ltb-false}
use Rattle.cross_fit.proofs.Tests.{struck_fits, frame_over, class_fits, class_over}
use Rattle.cross_fit.proofs.entry_fits.Goals.{then-from-le-FRAMES, else-from-le-FRAMES}
use Rattle.cross_fit.proofs.entry_fits.Goals as goal

pub returns-then-place-eq0 : goal.returns-then-place-eq0
returns-then-place-eq0 c = struck_fits _ _ _ c.if-place-eq0.true

pub returns-then-held-classes : goal.returns-then-held-classes
returns-then-held-classes c =
    let h = c.if-held-classes.true in
    elim c.if-from-le-FRAMES.branch [
      | then-from-le-FRAMES w ↦ class_fits _ _ _ c.if-place-eq0.false (omega (arith, w.if-from-le-FRAMES.true)) (ltb-true _ _ (sym w.value-is ∙ h))
      | else-from-le-FRAMES w ↦ absurd (omega (arith, w.if-from-le-FRAMES.false, leb-true _ _ (sym w.value-is ∙ h)))
    ]

pub returns-else-held-classes : goal.returns-else-held-classes
returns-else-held-classes c =
    let h = c.if-held-classes.false in
    elim c.if-from-le-FRAMES.branch [
      | then-from-le-FRAMES w ↦ h ∙ class_over _ _ _ c.if-place-eq0.false (omega (arith, w.if-from-le-FRAMES.true)) (ltb-false _ _ (sym w.value-is ∙ h))
      | else-from-le-FRAMES w ↦ h ∙ frame_over _ _ _ (omega (arith, w.if-from-le-FRAMES.false))
    ]
