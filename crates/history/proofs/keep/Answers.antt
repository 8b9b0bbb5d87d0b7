use mathlib.Core.Path.{refl, sym, ◌∙◌}
use Prim.Native.Nat.{◌<◌}
use native.Mathlib.Omega.{arith}
use native.Mathlib.Numerals.{add-one}
use Rattle.rules.specs.Limits.{max_kept}
use Rattle.history.proofs.Keeping.{kept_try, kept_idle, room_is, kept_now}
use Rattle.history.proofs.keep.Goals.{then-mode-ge-HELD_MODES-via-then-mode-ge-HELD_MODES, then-mode-ge-HELD_MODES-via-else-mode-ge-HELD_MODES+then-is_idle}
use Rattle.history.proofs.keep.Goals as goal

pub returns-then-mode-ge-HELD_MODES : goal.returns-then-mode-ge-HELD_MODES
returns-then-mode-ge-HELD_MODES c =
    elim c.then-mode-ge-HELD_MODES.branch [
      | then-mode-ge-HELD_MODES-via-then-mode-ge-HELD_MODES w ↦ kept_try _ _ _ _ _ w.if-mode-ge-HELD_MODES.true
      | then-mode-ge-HELD_MODES-via-else-mode-ge-HELD_MODES+then-is_idle w ↦ kept_idle _ _ _ _ _ (sym w.is_idle.ensures ∙ w.if-is_idle.true)
    ]

-- There is room for an entry more.
pub returns : goal.returns
returns c =
    let h : c.number_at-kept.result < max_kept = room_is c.if-mode-ge-HELD_MODES.false (sym c.is_idle.ensures ∙ c.if-is_idle.false) c.number_at-kept.ensures c.requires.1 in
    kept_now _ _ _ _ _ c.if-mode-ge-HELD_MODES.false (sym c.is_idle.ensures ∙ c.if-is_idle.false) _ c.number_at-kept.ensures _ _ (add-one _) refl (omega (arith, c.requires.1.long)) _ c.put_number.ensures
