use Prim.Native.Nat.{◌+◌}
use mathlib.Core.Path.{◌≡◌, sym, ap₂, ◌∙◌}
use mathlib.Core.Bool.{◌&&◌}
use native.Mathlib.Omega.{arith}
use lib.Dec.{eqb}
use Rattle.std.proofs.Common.{rules}
use Rattle.layout.specs.Layout.{mark_of}
use Rattle.layout.specs.Fit.{mark_fits}
use Rattle.desk_fit.proofs.MarkTests.{mark_unused, marks_split, marks_lost}
use Rattle.desk_fit.proofs.marks_fit.Goals as goal

pub returns-then-used_marks_fit : goal.returns-then-used_marks_fit
returns-then-used_marks_fit c =
    let a = c.args in
    let used = sym c.if-used_marks_fit.true ∙ c.used_marks_fit.ensures in
    let rest = c.all_below.ensures (λ i. mark_fits a.classes a.desk.now (a.classes + i)) (λ i l b e. let h : b ≡ eqb (mark_of a.desk.now (a.classes + i)) 0 = search rules in h ∙ mark_unused _ _ _ (omega arith)) in
    ap₂ ◌&&◌ used rest ∙ marks_split _ _ c.requires.0

pub returns-else-used_marks_fit : goal.returns-else-used_marks_fit
returns-else-used_marks_fit c = c.if-used_marks_fit.false ∙ marks_lost _ _ c.requires.0 (sym c.used_marks_fit.ensures ∙ c.if-used_marks_fit.false)
