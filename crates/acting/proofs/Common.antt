-- What every event comes to: a refusal, or what the rules give. Assumes nothing.
use mathlib.Core.Path.{◌≡◌, refl, sym, ap, ◌∙◌, subst}
use mathlib.Core.Bool.{Bool, true, false, cond, not, ◌&&◌, ◌||◌, or-false, and-false}
use mathlib.Core.List.{List}
use mathlib.Core.Logic.{◌⊎◌, inl, inr}
use mathlib.Core.Option.{none, some}
use Prim.Native.Nat.{ℕ, suc, ◌+◌, ◌*◌, ◌<◌, ◌≤◌}
use native.Mathlib.Omega.{arith}
use lib.Dec.{leb, eqb}
use lib.ListN.{length, get_or}
use Rattle.rules.specs.Limits.{max_accepted, max_classes}
use Rattle.rules.specs.Record.{Event, event_of, core_of}
use Rattle.rules.specs.WellFormed.{WellFormed}
use Rattle.rules.specs.Context.{Frame, frame_of}
use Rattle.rules.specs.HeldLocks.{Core, current, after_event}
use Rattle.rules.specs.Crosslocks.{Crosslocks, drawn_on, after_cross}
use Rattle.rules.specs.Verdict.{Refusal, count_full, refusal_number}
use Rattle.rules.specs.Run.{with_record, State}
use Rattle.validity.specs.Valid.{Valid}
use Rattle.layout.specs.Layout.{frame_count, frames_per_core, accepted_at, declared_at, desk_size, sheet_size, seen_size, kept_size, frame_number, classes_of, state_of, accepted_of, KeepsPast}
use Rattle.layout.specs.Encoding.{DeskBytes, SheetBytes, SeenBytes, CrossBytes, Encodes}
use Rattle.layout.proofs.Buffers.{keeps_self}
use Rattle.layout.proofs.Numbers.{number_is}
use Rattle.context.proofs.Frames.{frame_less}
use Rattle.held.specs.Frames.{FrameBytes, SmallLocks, KeepsElse}
use Rattle.crosslocks.specs.Progress.{KeepsUncrossed}
use Rattle.update.proofs.Cores.{changed, frame_bytes}
use Rattle.update.proofs.Drawing.{same_dependencies}
use Rattle.numbering.proofs.Numbering.{same_seen}
use Rattle.cores.proofs.Bytes.{small_locks}
use Rattle.acting.specs.Action.{KeepsCount, ActedOn, refuses, accepts}
use Rattle.acting.proofs.Refusals.{refusal_by, or_full, refusal_by_lem}

-- What a desk keeps where only a frame, or only the crosslocks changed.
pub frame_past : {n : ℕ} {before after : List ℕ} → n < frame_count → KeepsElse n before after → KeepsPast accepted_at before after
frame_past {n} l k = record { long = k.long; past = λ j h. k.else j (λ e. omega arith) (inr (omega arith)) (inr h) }

pub count_past : {before after : List ℕ} → KeepsPast accepted_at before after → KeepsCount before after
count_past k = record { count = λ j l. k.past (accepted_at + j) (omega arith) }

pub uncrossed_count : {before after : List ℕ} → KeepsUncrossed before after → KeepsCount before after
uncrossed_count k = record { count = λ j l. k.else (accepted_at + j) (inl (omega arith)) }

pub uncrossed_past : {before after : List ℕ} → KeepsUncrossed before after → KeepsPast desk_size before after
uncrossed_past k = record { long = k.long; past = λ j l. k.else j (inr l) }

pub count_both : {before between after : List ℕ} → KeepsCount before between → KeepsCount between after → KeepsCount before after
count_both a b = record { count = λ j l. b.count j l ∙ a.count j l }

module _ (desk sheet seen history bytes : List ℕ) (w : WellFormed bytes) (few : classes_of desk ≤ max_classes) where
  abbrev K : ℕ
  K = classes_of desk

  abbrev i : ℕ
  i = core_of bytes

  abbrev pub frame : ℕ
  frame = frame_number (core_of bytes) (frame_of (state_of desk (core_of bytes)))

  module _ (s : State) (opened : s.is_closed ≡ false) (valid : Valid K s) (enc : Encodes K s desk sheet seen history) where
    abbrev core : Core
    core = s.cores (core_of bytes)

    pub now_is : frame_of (state_of desk i) ≡ frame_of core.state
    now_is = ap frame_of (enc.in_desk.states i w.core)

    pub now_less : frame_of core.state < frames_per_core
    now_less = frame_less core.state (let v = (valid.cores i).states in omega arith)

    pub frame_inside : frame_number i (frame_of core.state) < frame_count
    frame_inside = let l = now_less in let c = w.core in omega arith

    pub frame_is : frame ≡ frame_number i (frame_of core.state)
    frame_is = ap (frame_number i) now_is

    -- The current frame, by the number that the code works out.
    pub by_number : (P : ℕ → Type 0) → P frame → P (frame_number i (frame_of core.state))
    by_number P h = subst P frame_is h

    pub current_frame : FrameBytes desk frame (current core)
    current_frame =
        subst (λ (n : ℕ). FrameBytes desk n (current core)) (sym frame_is) (frame_bytes enc.in_desk i (frame_of core.state) w.core now_less)

    pub small : SmallLocks (current core)
    small = small_locks few core (valid.cores i) (frame_of core.state)

    pub refuses_by : (ev : Event) → event_of bytes ≡ ev → (x : Refusal) → refusal_by K core s.cross ev ≡ some x
        → ActedOn K s bytes desk sheet seen history (refusal_number x) desk sheet seen history
    refuses_by ev e x h = refuses x (refusal_by_lem K s bytes opened w.formed ev e ∙ ap (or_full s.journal.accepted) h)

    pub accepted_is : accepted_of desk ≡ s.journal.accepted
    accepted_is = number_is desk s.journal.accepted accepted_at valid.journal.limit enc.in_count

    -- No other refusal applies, and the count is full.
    pub full_by : (ev : Event) → event_of bytes ≡ ev → refusal_by K core s.cross ev ≡ none → leb max_accepted (accepted_of desk) ≡ true
        → ActedOn K s bytes desk sheet seen history 9 desk sheet seen history
    full_by ev e h f =
        refuses count_full
        (refusal_by_lem K s bytes opened w.formed ev e ∙ ap (or_full s.journal.accepted) h ∙ rw (rw accepted_is at f) refl)

    pub accepts_by : (ev : Event) → event_of bytes ≡ ev → refusal_by K core s.cross ev ≡ none → leb max_accepted (accepted_of desk) ≡ false
        → {desk' sheet' seen' history' : List ℕ} → DeskBytes K s.is_closed (changed s.cores i (after_event ev core)) s.graph.marks desk'
        → SheetBytes K (λ f t k. s.graph.locks f t k || drawn_on ev i core s.cross f t k) sheet'
        → SeenBytes K (with_record (drawn_on ev i core s.cross) s.journal).seen seen' → CrossBytes (after_cross ev i core s.cross) desk' history'
        → KeepsCount desk desk' → KeepsPast desk_size desk desk' → KeepsPast (sheet_size K) sheet sheet' → KeepsPast (seen_size K) seen seen'
        → KeepsPast (kept_size * length (after_cross ev i core s.cross).history) history history'
        → ActedOn K s bytes desk sheet seen history 0 desk' sheet' seen' history'
    accepts_by ev e h f {desk'} {sheet'} {seen'} {history'} sb mb nb xb kc kd km kn kh =
        accepts (refusal_by_lem K s bytes opened w.formed ev e ∙ ap (or_full s.journal.accepted) h ∙ rw (rw accepted_is at f) refl)
        (subst (λ (v : Event). DeskBytes K s.is_closed (changed s.cores i (after_event v core)) s.graph.marks desk') (sym e) sb)
        (subst (λ (v : Event). SheetBytes K (λ f t k. s.graph.locks f t k || drawn_on v i core s.cross f t k) sheet') (sym e) mb)
        (subst (λ (v : Event). SeenBytes K (with_record (drawn_on v i core s.cross) s.journal).seen seen') (sym e) nb)
        (subst (λ (v : Event). CrossBytes (after_cross v i core s.cross) desk' history') (sym e) xb) kc kd km kn
        (subst (λ (v : Event). KeepsPast (kept_size * length (after_cross v i core s.cross).history) history history') (sym e) kh)

    -- Nothing is drawn, and no pair gets a number.
    pub unnumbered : SeenBytes K (λ f t. cond (eqb (s.journal.seen f t) 0 && false) (suc s.journal.accepted) (s.journal.seen f t)) seen
    unnumbered =
        same_seen s.journal.seen (λ f t. cond (eqb (s.journal.seen f t) 0 && false) (suc s.journal.accepted) (s.journal.seen f t))
        (λ f t. sym (rw (and-false (eqb (s.journal.seen f t) 0)) refl)) enc.in_seen

    pub undrawn : SheetBytes K (λ f t k. s.graph.locks f t k || false) sheet
    undrawn = same_dependencies s.graph.locks (λ f t k. s.graph.locks f t k || false) (λ f t k. sym (or-false (s.graph.locks f t k))) enc.in_sheet
