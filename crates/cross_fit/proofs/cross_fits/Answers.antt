use mathlib.Core.Path.{refl, sym, ap, ◌∙◌}
use Prim.Native.Nat.{ℕ, ◌≤◌, ◌<◌}
use lib.Count.{ones}
use lib.Dec.{leb}
use borrow.Author.Tests.{leb-true, leb-false, eqb-true, eqb-false}
use Rattle.rules.specs.Limits.{max_kept, max_in_progress}
use Rattle.cross_fit.proofs.Tests.{by_declared, by_progress, by_many, by_kept}
use Rattle.cross_fit.proofs.cross_fits.Goals.{then-declares_below, else-declares_below, then-without-eq0, else-without-eq0}
use Rattle.cross_fit.proofs.cross_fits.Goals as goal

pub returns-then-count-le-MAX_IN_PROGRESS : goal.returns-then-count-le-MAX_IN_PROGRESS
returns-then-count-le-MAX_IN_PROGRESS c =
    let h = c.if-count-le-MAX_IN_PROGRESS.true in
    elim c.if-without-eq0.branch [
      | then-without-eq0 w ↦
          let t = w.if-without-eq0.true in
          elim c.if-declares_below.branch [
            | then-declares_below u ↦
                let few : ones c.word_at-progress.result ≤ max_in_progress = rw w.count.ensures.0 at (leb-true _ _ (sym w.value-is ∙ h)) in
                ap (λ (n : ℕ). leb n max_kept) c.number_at.ensures
                ∙ by_kept _ _ _ c.word_at-declared.ensures c.word_at-progress.ensures _ (sym (rw c.from.ensures at c.declares_below.ensures) ∙ u.if-declares_below.true)
                c.word_at-progress.type_inv u.without.ensures (eqb-true _ _ (sym u.value-is ∙ t)) few
            | else-declares_below u ↦ let v = u.value-is in let f = u.if-declares_below.false in cc (t, v, f)
          ]
      | else-without-eq0 w ↦ let v = w.value-is in let f = w.if-without-eq0.false in cc (h, v, f)
    ]

pub returns-else-count-le-MAX_IN_PROGRESS : goal.returns-else-count-le-MAX_IN_PROGRESS
returns-else-count-le-MAX_IN_PROGRESS c =
    let h = c.if-count-le-MAX_IN_PROGRESS.false in
    elim c.if-without-eq0.branch [
      | then-without-eq0 w ↦
          let many : max_in_progress < ones c.word_at-progress.result = rw w.count.ensures.0 at (leb-false _ _ (sym w.value-is ∙ h)) in
          h ∙ by_many _ _ _ c.word_at-declared.ensures c.word_at-progress.ensures c.word_at-progress.type_inv many
      | else-without-eq0 w ↦
          let f = w.if-without-eq0.false in
          elim c.if-declares_below.branch [
            | then-declares_below u ↦
                h ∙ by_progress _ _ _ c.word_at-declared.ensures c.word_at-progress.ensures _ u.without.type_inv u.without.ensures (eqb-false _ _ (sym u.value-is ∙ f))
            | else-declares_below u ↦
                h ∙ by_declared _ _ _ c.word_at-declared.ensures refl (sym (rw c.from.ensures at c.declares_below.ensures) ∙ u.if-declares_below.false)
          ]
    ]
