-- The entries of the history: what valid ones say, and those of a frame. Assumes nothing.
use mathlib.Core.Path.{◌≡◌, sym, ◌∙◌}
use mathlib.Core.Bool.{◌&&◌, and-false}
use mathlib.Core.List.{List}
use mathlib.Core.Option.{Option}
use Prim.Native.Nat.{ℕ, suc, ◌%◌, ◌/◌, ◌<◌, ◌≤◌}
use native.Mathlib.Decide.{ℕ_discrete}
use native.Mathlib.Omega.{arith}
use lib.Dec.{eqb}
use lib.ListN.{length}
use borrow.Author.Tests.{eq-eqb, ne_eqb}
use Rattle.rules.specs.Limits.{max_classes, held_modes}
use Rattle.rules.specs.Context.{Frame, hard}
use Rattle.rules.specs.Crosslocks.{Kept, Crosslocks}
use Rattle.validity.specs.Valid.{ValidEntry, struck, counts, ValidCross}
use Rattle.layout.specs.Layout.{frames_per_core, frame_number, history_size}
use Rattle.layout.specs.Encoding.{lock_byte, CrossBytes}
use Rattle.history.specs.Histories.{EntriesIn}

module _ (K : ℕ) (some_class : 0 < K) (most : K ≤ max_classes) where
  class_in : {e : Option Kept} → ValidEntry K e → lock_byte e % 64 < K
  class_in struck = omega arith
  class_in (counts c f l m) = omega arith

  mode_in : {e : Option Kept} → ValidEntry K e → lock_byte e / 64 < held_modes
  mode_in struck = omega arith
  mode_in (counts c f l m) = omega arith

  -- Those of valid crosslocks name classes below K.
  pub entries_in : (x : Crosslocks) (desk history : List ℕ) → history_size ≤ length history → ValidCross K x → CrossBytes x desk history
      → EntriesIn (length x.history) history K
  entries_in x desk history long v b =
      record {
        long = long;
        class = λ i l. rw (b.entries.locks i l) (class_in (v.entries i l));
        mode = λ i l. rw (b.entries.locks i l) (mode_in (v.entries i l));
      }

pub entries_below : {n m K : ℕ} {history : List ℕ} → n ≤ m → EntriesIn m history K → EntriesIn n history K
entries_below h e = record { long = e.long; class = λ i l. e.class i (omega arith); mode = λ i l. e.mode i (omega arith) }

-- The number of a frame tells core and frame.
pub same_frame : (core : ℕ) (frame : Frame) (c : ℕ) (f : Frame) → frame < frames_per_core → f ≤ hard
    → eqb (suc (frame_number c f)) (suc (frame_number core frame)) ≡ (eqb core c && eqb frame f)
same_frame core frame c f l h =
    elim (ℕ_discrete core c) [
      | no n ↦
          ne_eqb (suc (frame_number c f)) (suc (frame_number core frame)) (λ e. n (omega arith))
          ∙ sym (rw (ne_eqb core c n))
      | yes e ↦
          elim (ℕ_discrete frame f) [
            | no n ↦
                ne_eqb (suc (frame_number c f)) (suc (frame_number core frame)) (λ q. n (omega arith))
                ∙ sym (rw (ne_eqb frame f n, and-false (eqb core c)))
            | yes q ↦ eq-eqb (suc (frame_number c f)) (suc (frame_number core frame)) (omega arith) ∙ sym (rw (eq-eqb core c e, eq-eqb frame f q))
          ]
    ]
