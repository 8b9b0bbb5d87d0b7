-- What each event of a core comes to, from what the functions of `held`, `update` and `history` leave. Assumes nothing.
use mathlib.Core.Path.{◌≡◌, refl, sym, ap, ◌∙◌, subst}
use mathlib.Core.Bool.{Bool, true, false, cond, not, ◌&&◌, ◌||◌, and-false}
use mathlib.Core.List.{List, [], ◌∷◌, ◌++◌, map}
use mathlib.Core.Logic.{◌⊎◌, inl, inr}
use mathlib.Core.Option.{none, some}
use Prim.Native.Nat.{ℕ, suc, ◌+◌, ◌*◌, ◌-◌, ◌<◌, ◌≤◌}
use native.Mathlib.Omega.{arith}
use lib.Dec.{leb}
use lib.ListN.{length, set, length-set, length-map}
use lib.Seq.{get_or-set_other}
use borrow.Author.Tests.{le-leb, lt-leb, lt-ltb, leb-true, leb-false, eq-eqb, ne_eqb}
use Rattle.rules.specs.Limits.{max_depth, max_accepted, max_classes, max_kept, interrupt_kinds}
use Rattle.rules.specs.Record.{acquire, release, interrupt, cross_event_by, event_by, event_of, core_of, kind_of, class_of, mode_of}
use Rattle.rules.specs.WellFormed.{WellFormed}
use Rattle.rules.specs.Context.{frame_of, no_state, next_state, leaves_handler}
use Rattle.rules.specs.HeldLocks.{HeldLock, is_try, current, release_newest, with_state}
use Rattle.rules.specs.Crosslocks.{is_idle, is_kept, strike, with_history}
use Rattle.rules.specs.Verdict.{no_class, wrong_sort, no_transition, still_held, not_held, too_deep, history_full, some_lock}
use Rattle.rules.specs.Run.{State}
use Rattle.validity.specs.Valid.{Valid}
use Rattle.layout.specs.Layout.{accepted_at, sheet_size, seen_size, kept_size, states_at, progress_at, kept_at, number_size, classes_of, state_of, depth_of, accepted_of, declared_of, progress_of, kept_of, member_of, KeepsPast}
use Rattle.rules.specs.Log.{word_size}
use Rattle.layout.specs.Encoding.{DeskBytes, NumberBytes, CrossBytes, Encodes}
use Rattle.layout.proofs.Buffers.{keeps_self, keeps_both, keeps_more}
use Rattle.layout.proofs.Numbers.{same_value}
use Rattle.layout.proofs.Cross.{declared_at_lem, progress_size, kept_is, cross_kept}
use Rattle.held.specs.Frames.{FrameBytes, KeepsElse, Pushed, Removed, fitting_of}
use Rattle.held.proofs.Releases.{FittingCases, not_found, found_at, fitting_is}
use Rattle.update.specs.Update.{Drawn}
use Rattle.update.proofs.Cores.{changed, frame_changed, state_changed, behind_changed}
use Rattle.numbering.specs.Numbering.{Numbered}
use Rattle.history.specs.Histories.{HistoryRoom, KeptIn, Struck}
use Rattle.acting.specs.Action.{no_room_for, Acted}
use Rattle.acting.proofs.Refusals.{refusal_by}
use Rattle.action.specs.Locks.{not_lock}
use Rattle.acting.proofs.Common.{frame_past, count_past, uncrossed_count, uncrossed_past, count_both, frame, now_less, frame_inside, frame_is, by_number, current_frame, small, refuses_by, accepted_is, full_by, accepts_by, undrawn, unnumbered}

-- An acquire that is not refused with 19 has room in the history, also once it is held.
pub kept_room : {desk desk' history : List ℕ} (mode : ℕ) → no_room_for desk mode ≡ false → KeepsPast accepted_at desk desk' → kept_size * max_kept ≤ length history
    → HistoryRoom desk' history mode
kept_room {desk} {desk'} mode h k long =
    let p : progress_of desk' ≡ progress_of desk = same_value word_size desk' desk progress_at (λ j l. k.past (progress_at + j) (omega arith)) in
    let q : kept_of desk' ≡ kept_of desk = same_value number_size desk' desk kept_at (λ j l. k.past (kept_at + j) (omega arith)) in
    record {
      long = long;
      room = λ t.
          let u : not (is_idle (member_of (progress_of desk)) || is_try mode) ≡ true = rw p at t in
          let v : leb max_kept (kept_of desk) ≡ false = rw u at h in
          let l = leb-false max_kept (kept_of desk) v in
          omega arith;
    }

-- The tests of a lock's class.
module _ (desk : List ℕ) (c : ℕ) where
  pub is_lock : not_lock desk c ≡ 0 → (c < classes_of desk) × (member_of (declared_of desk) c ≡ false)
  is_lock h = by (leb (classes_of desk) c) refl (member_of (declared_of desk) c) refl h
    where
      by : (a : Bool) → leb (classes_of desk) c ≡ a → (d : Bool) → member_of (declared_of desk) c ≡ d → ◌≡◌ {A = ℕ} (cond a 4 (cond d 15 0)) 0
          → (c < classes_of desk) × (member_of (declared_of desk) c ≡ false)
      by true e d q z = absurd (omega arith)
      by false e true q z = absurd (omega arith)
      by false e false q z = (leb-false (classes_of desk) c e, q)

  not_lock_cases : (P : ℕ → Type 0) → (classes_of desk ≤ c → P 4) → (c < classes_of desk → member_of (declared_of desk) c ≡ true → P 15)
      → (r : ℕ) → r ≡ not_lock desk c → (r ≡ 0 → ⊥) → P r
  not_lock_cases P unknown wrong r e ne = by (leb (classes_of desk) c) refl (member_of (declared_of desk) c) refl e
    where
      by : (a : Bool) → leb (classes_of desk) c ≡ a → (d : Bool) → member_of (declared_of desk) c ≡ d → ◌≡◌ {A = ℕ} r (cond a 4 (cond d 15 0)) → P r
      by true e d q z = rw z (unknown (leb-true (classes_of desk) c e))
      by false e true q z = rw z (wrong (leb-false (classes_of desk) c e) q)
      by false e false q z = absurd (ne z)

module _ (desk sheet seen history bytes : List ℕ) (w : WellFormed bytes) (few : classes_of desk ≤ max_classes) where
  abbrev K : ℕ
  K = classes_of desk

  abbrev i : ℕ
  i = core_of bytes

  abbrev n : ℕ
  n = frame desk sheet seen history bytes w few

  -- No byte of the crosslocks changed.
  still_crossed : {desk' : List ℕ} → KeepsPast accepted_at desk desk' → (s : State) → Encodes K s desk sheet seen history → CrossBytes s.cross desk' history
  still_crossed {desk'} k s enc = cross_kept s.cross desk desk' history (λ j l h. k.past j (omega arith)) enc.in_cross

  -- ---- Acquire and release: the class is one of the desk's, and no crosslock.

  module _ (s : State) (o : s.is_closed ≡ false) (v : Valid K s) (enc : Encodes K s desk sheet seen history) where
    undeclared : {b : Bool} → class_of bytes < K → member_of (declared_of desk) (class_of bytes) ≡ b → s.cross.declared (class_of bytes) ≡ b
    undeclared l h = sym (declared_at_lem enc.in_cross (class_of bytes) (omega arith)) ∙ h

    same_room : no_room_for desk (mode_of bytes) ≡ (is_kept s.cross (mode_of bytes) && leb max_kept (length s.cross.history))
    same_room = rw (progress_size enc.in_cross, kept_is enc.in_cross v.cross.kept) refl

  module _ (kind : kind_of bytes ≡ 0) where
    acquires : event_of bytes ≡ acquire (class_of bytes) (mode_of bytes)
    acquires = ap (λ (k : ℕ). event_by k (class_of bytes) (mode_of bytes)) kind

    pub acquire_no_class : K ≤ class_of bytes → Acted desk sheet seen history bytes 4 desk sheet seen history
    acquire_no_class l =
        record {
          acted = λ s o v enc.
              refuses_by desk sheet seen history bytes w few s o v enc (acquire (class_of bytes) (mode_of bytes)) acquires no_class (rw (le-leb K (class_of bytes) l) refl);
        }

    module _ (l : class_of bytes < K) where
      pub acquire_wrong_sort : member_of (declared_of desk) (class_of bytes) ≡ true → Acted desk sheet seen history bytes 15 desk sheet seen history
      acquire_wrong_sort h =
          record {
            acted = λ s o v enc.
                refuses_by desk sheet seen history bytes w few s o v enc (acquire (class_of bytes) (mode_of bytes)) acquires wrong_sort
                (rw (lt-leb K (class_of bytes) l, undeclared s o v enc l h) refl);
          }

      module _ (u : member_of (declared_of desk) (class_of bytes) ≡ false) where
        pub acquire_too_deep : max_depth ≤ depth_of desk n → Acted desk sheet seen history bytes 8 desk sheet seen history
        acquire_too_deep d =
            record {
              acted = λ s o v enc.
                  let e = (current_frame desk sheet seen history bytes w few s o v enc).depth in
                  refuses_by desk sheet seen history bytes w few s o v enc (acquire (class_of bytes) (mode_of bytes)) acquires too_deep
                  (rw (lt-leb K (class_of bytes) l, undeclared s o v enc l u, le-leb max_depth (length (current (s.cores i))) (omega arith)) refl);
            }

        module _ (d : depth_of desk n < max_depth) where
          passes : (b : Bool) → no_room_for desk (mode_of bytes) ≡ b → (s : State) (o : s.is_closed ≡ false) (v : Valid K s) (enc : Encodes K s desk sheet seen history)
              → refusal_by K (s.cores i) s.cross (acquire (class_of bytes) (mode_of bytes)) ≡ cond b (some history_full) none
          passes b r s o v enc =
              let e = (current_frame desk sheet seen history bytes w few s o v enc).depth in
              rw (
                lt-leb K (class_of bytes) l,
                undeclared s o v enc l u,
                lt-leb max_depth (length (current (s.cores i))) (omega arith),
                sym (same_room s o v enc) ∙ r,
              )
              refl

          pub acquire_history_full : no_room_for desk (mode_of bytes) ≡ true → Acted desk sheet seen history bytes 19 desk sheet seen history
          acquire_history_full r =
              record {
                acted = λ s o v enc.
                    refuses_by desk sheet seen history bytes w few s o v enc (acquire (class_of bytes) (mode_of bytes)) acquires history_full (passes true r s o v enc);
              }

          module _ (r : no_room_for desk (mode_of bytes) ≡ false) where
            pub acquire_count_full : leb max_accepted (accepted_of desk) ≡ true → Acted desk sheet seen history bytes 9 desk sheet seen history
            acquire_count_full f =
                record {
                  acted = λ s o v enc.
                      full_by desk sheet seen history bytes w few s o v enc (acquire (class_of bytes) (mode_of bytes)) acquires (passes false r s o v enc) f;
                }

            pub acquire_accepts : leb max_accepted (accepted_of desk) ≡ false → {held desk' sheet' seen' history' : List ℕ}
                → Drawn desk K n (class_of bytes) (mode_of bytes) sheet sheet' → Numbered desk K n (class_of bytes) (mode_of bytes) seen seen'
                → Pushed desk n (class_of bytes) (mode_of bytes) held → KeptIn held history n (class_of bytes) (mode_of bytes) desk' history'
                → Acted desk sheet seen history bytes 0 desk' sheet' seen' history'
            acquire_accepts f {held} {desk'} {sheet'} {seen'} {history'} D M P Q =
                record {
                  acted = λ s o v enc.
                      let F = current_frame desk sheet seen history bytes w few s o v enc in
                      let m = small desk sheet seen history bytes w few s o v enc in
                      let hs = current (s.cores i) ++ (record { class = class_of bytes; mode = mode_of bytes } ∷ []) in
                      let keeps = by_number desk sheet seen history bytes w few s o v enc (λ m. KeepsElse m desk held) P.keeps in
                      let past = frame_past (frame_inside desk sheet seen history bytes w few s o v enc) keeps in
                      let bytes_held =
                      frame_changed enc.in_desk i w.core (now_less desk sheet seen history bytes w few s o v enc) hs keeps
                      (by_number desk sheet seen history bytes w few s o v enc (λ m. FrameBytes held m hs) (P.frame (current (s.cores i)) F)) in
                      let x =
                      Q.kept s.cross i (frame_of (s.cores i).state) (frame_is desk sheet seen history bytes w few s o v enc) v.cross.kept
                      (still_crossed past s enc) in
                      accepts_by desk sheet seen history bytes w few s o v enc (acquire (class_of bytes) (mode_of bytes)) acquires (passes false r s o v enc) f
                      (behind_changed bytes_held Q.keeps.long (λ j h. Q.keeps.else j (inl (omega arith))))
                      (D.drawn (current (s.cores i)) F m s.graph.locks enc.in_sheet)
                      (M.numbered (current (s.cores i)) F m s.journal (sym (accepted_is desk sheet seen history bytes w few s o v enc)) v.journal.at_most enc.in_seen)
                      x.bytes (count_both (count_past past) (uncrossed_count Q.keeps)) (keeps_both (keeps_more (omega arith) past) (uncrossed_past Q.keeps))
                      D.keeps M.keeps x.past;
                }

    pub acquire_not_lock : (r : ℕ) → r ≡ not_lock desk (class_of bytes) → (r ≡ 0 → ⊥) → Acted desk sheet seen history bytes r desk sheet seen history
    acquire_not_lock = not_lock_cases desk (class_of bytes) (λ r. Acted desk sheet seen history bytes r desk sheet seen history) acquire_no_class acquire_wrong_sort

  -- ---- Release.

  module _ (kind : kind_of bytes ≡ 1) where
    releases : event_of bytes ≡ release (class_of bytes) (mode_of bytes)
    releases = ap (λ (k : ℕ). event_by k (class_of bytes) (mode_of bytes)) kind

    pub release_no_class : K ≤ class_of bytes → Acted desk sheet seen history bytes 4 desk sheet seen history
    release_no_class l =
        record {
          acted = λ s o v enc.
              refuses_by desk sheet seen history bytes w few s o v enc (release (class_of bytes) (mode_of bytes)) releases no_class (rw (le-leb K (class_of bytes) l) refl);
        }

    module _ (l : class_of bytes < K) where
      pub release_wrong_sort : member_of (declared_of desk) (class_of bytes) ≡ true → Acted desk sheet seen history bytes 15 desk sheet seen history
      release_wrong_sort h =
          record {
            acted = λ s o v enc.
                refuses_by desk sheet seen history bytes w few s o v enc (release (class_of bytes) (mode_of bytes)) releases wrong_sort
                (rw (lt-leb K (class_of bytes) l, undeclared s o v enc l h) refl);
          }

      found : (s : State) (opened : s.is_closed ≡ false) (valid : Valid K s) (enc : Encodes K s desk sheet seen history)
          → FittingCases (class_of bytes) (mode_of bytes) (current (s.cores i)) (fitting_of desk n (class_of bytes) (mode_of bytes))
      found s o v enc =
          fitting_is desk n (current (s.cores i)) (current_frame desk sheet seen history bytes w few s o v enc) (small desk sheet seen history bytes w few s o v enc)
          ((v.cores i).depths (frame_of (s.cores i).state)) (class_of bytes) (mode_of bytes)

      module _ (u : member_of (declared_of desk) (class_of bytes) ≡ false) where
        pub release_not_held : fitting_of desk n (class_of bytes) (mode_of bytes) ≡ 0 → Acted desk sheet seen history bytes 5 desk sheet seen history
        release_not_held z =
            record {
              acted = λ s o v enc.
                  refuses_by desk sheet seen history bytes w few s o v enc (release (class_of bytes) (mode_of bytes)) releases not_held
                  (rw (lt-leb K (class_of bytes) l, undeclared s o v enc l u, not_found (found s o v enc) z) refl);
            }

        module _ (ne : fitting_of desk n (class_of bytes) (mode_of bytes) ≡ 0 → ⊥) where
          release_passes : (s : State) (opened : s.is_closed ≡ false) (valid : Valid K s) (enc : Encodes K s desk sheet seen history)
              → refusal_by K (s.cores i) s.cross (release (class_of bytes) (mode_of bytes)) ≡ none
          release_passes s o v enc = rw (lt-leb K (class_of bytes) l, undeclared s o v enc l u, (found_at (found s o v enc) ne).0) refl

          pub release_count_full : leb max_accepted (accepted_of desk) ≡ true → Acted desk sheet seen history bytes 9 desk sheet seen history
          release_count_full f =
              record {
                acted = λ s o v enc.
                    full_by desk sheet seen history bytes w few s o v enc (release (class_of bytes) (mode_of bytes)) releases (release_passes s o v enc) f;
              }

          pub release_accepts : {desk' : List ℕ} → leb max_accepted (accepted_of desk) ≡ false → Removed desk n (fitting_of desk n (class_of bytes) (mode_of bytes) - 1) desk'
              → Acted desk sheet seen history bytes 0 desk' sheet seen history
          release_accepts {desk'} f R =
              record {
                acted = λ s o v enc.
                    let F = current_frame desk sheet seen history bytes w few s o v enc in
                    let N = (found_at (found s o v enc) ne).1 in
                    let hs = release_newest (class_of bytes) (current (s.cores i)) in
                    let keeps = by_number desk sheet seen history bytes w few s o v enc (λ m. KeepsElse m desk desk') R.keeps in
                    let past = frame_past (frame_inside desk sheet seen history bytes w few s o v enc) keeps in
                    accepts_by desk sheet seen history bytes w few s o v enc (release (class_of bytes) (mode_of bytes)) releases (release_passes s o v enc) f
                    (frame_changed enc.in_desk i w.core (now_less desk sheet seen history bytes w few s o v enc) hs keeps
                    (by_number desk sheet seen history bytes w few s o v enc (λ m. FrameBytes desk' m hs)
                    (subst (λ (h : List HeldLock). FrameBytes desk' n h) (sym N.released) (R.frame (current (s.cores i)) F))))
                    (undrawn desk sheet seen history bytes w few s o v enc) (unnumbered desk sheet seen history bytes w few s o v enc) (still_crossed past s enc)
                    (count_past past) (keeps_more (omega arith) past) (keeps_self (sheet_size K) sheet) (keeps_self (seen_size K) seen)
                    (keeps_self (kept_size * length s.cross.history) history);
              }

    pub release_not_lock : (r : ℕ) → r ≡ not_lock desk (class_of bytes) → (r ≡ 0 → ⊥) → Acted desk sheet seen history bytes r desk sheet seen history
    release_not_lock = not_lock_cases desk (class_of bytes) (λ r. Acted desk sheet seen history bytes r desk sheet seen history) release_no_class release_wrong_sort

  -- ---- Interrupt event.

  some_lock_lem : (hs : List HeldLock) → (length hs ≡ 0 → ⊥) → some_lock hs ≡ true
  some_lock_lem [] ne = absurd (ne refl)
  some_lock_lem (h ∷ hs) ne = refl

  no_lock : (hs : List HeldLock) → length hs ≡ 0 → some_lock hs ≡ false
  no_lock [] e = refl
  no_lock (h ∷ hs) e = absurd (omega arith)

  module _ (kind : 2 ≤ kind_of bytes) (last : kind_of bytes < 10) where
    abbrev event : ℕ
    event = kind_of bytes - 2

    abbrev to : ℕ
    to = next_state (state_of desk i) event

    interrupts : event_of bytes ≡ interrupt event
    interrupts =
        let e : kind_of bytes ≡ suc (suc event) = omega arith in
        let l : event < interrupt_kinds = omega arith in
        ap (λ (k : ℕ). event_by k (class_of bytes) (mode_of bytes)) e
        ∙ ap (λ (b : Bool). cond b (interrupt event) (cross_event_by (event - interrupt_kinds) (class_of bytes))) (lt-ltb event interrupt_kinds l)

    to_is : (s : State) (enc : Encodes K s desk sheet seen history) → next_state (s.cores i).state event ≡ to
    to_is s enc = ap (λ (c : ℕ). next_state c event) (sym (enc.in_desk.states i w.core))

    pub interrupt_no_transition : to ≡ no_state → Acted desk sheet seen history bytes 6 desk sheet seen history
    interrupt_no_transition e =
        record {
          acted = λ s o v enc.
              refuses_by desk sheet seen history bytes w few s o v enc (interrupt event) interrupts no_transition
              (rw (eq-eqb (next_state (s.cores i).state event) no_state (to_is s enc ∙ e)) refl);
        }

    pub interrupt_still_held : (to ≡ no_state → ⊥) → leaves_handler event ≡ true → (depth_of desk n ≡ 0 → ⊥) → Acted desk sheet seen history bytes 7 desk sheet seen history
    interrupt_still_held ne h d =
        record {
          acted = λ s o v enc.
              let q = (current_frame desk sheet seen history bytes w few s o v enc).depth in
              refuses_by desk sheet seen history bytes w few s o v enc (interrupt event) interrupts still_held
              (rw (
                ne_eqb (next_state (s.cores i).state event) no_state (λ z. ne (sym (to_is s enc) ∙ z)),
                h,
                some_lock_lem (current (s.cores i)) (λ z. d (q ∙ z)),
              )
              refl);
        }

    module _ (ne : to ≡ no_state → ⊥) (h : (leaves_handler event ≡ false) ⊎ (depth_of desk n ≡ 0)) where
      empty_passes : (s : State) → depth_of desk n ≡ length (current (s.cores i)) → (leaves_handler event ≡ false) ⊎ (depth_of desk n ≡ 0)
          → cond (leaves_handler event && true && some_lock (current (s.cores i))) (some still_held) none ≡ none
      empty_passes s q (inl e) = rw e refl
      empty_passes s q (inr e) = rw (no_lock (current (s.cores i)) (sym q ∙ e), and-false (leaves_handler event && true)) refl

      interrupt_passes : (s : State) (opened : s.is_closed ≡ false) (valid : Valid K s) (enc : Encodes K s desk sheet seen history)
          → refusal_by K (s.cores i) s.cross (interrupt event) ≡ none
      interrupt_passes s o v enc =
          rw (ne_eqb (next_state (s.cores i).state event) no_state (λ z. ne (sym (to_is s enc) ∙ z)))
          (empty_passes s (current_frame desk sheet seen history bytes w few s o v enc).depth h)

      pub interrupt_count_full : leb max_accepted (accepted_of desk) ≡ true → Acted desk sheet seen history bytes 9 desk sheet seen history
      interrupt_count_full f =
          record {
            acted = λ s o v enc. full_by desk sheet seen history bytes w few s o v enc (interrupt event) interrupts (interrupt_passes s o v enc) f;
          }

      -- The state's byte.
      moved : KeepsPast accepted_at desk (set desk (states_at + i) to)
      moved = let l = w.core in record { long = length-set desk (states_at + i) to; past = λ j m. get_or-set_other desk (states_at + i) j to 0 (λ e. omega arith) }

      -- The history that is left: with a handler what was acquired in it is struck out.
      abbrev pub Leaves : List ℕ → Type 0
      Leaves history' = ((leaves_handler event ≡ true) × Struck (kept_of desk) history n history') ⊎ ((leaves_handler event ≡ false) × (history' ≡ history))

      record LeftAs (s : State) (leaves : Bool) (history' : List ℕ) : Type 0 where
        bytes_are : CrossBytes (with_history s.cross (cond leaves (map (strike i (frame_of (s.cores i).state)) s.cross.history) s.cross.history))
            (set desk (states_at + i) to) history'
        past : KeepsPast (kept_size * length (cond leaves (map (strike i (frame_of (s.cores i).state)) s.cross.history) s.cross.history)) history history'

      left : (s : State) (o : s.is_closed ≡ false) (v : Valid K s) (enc : Encodes K s desk sheet seen history) {history' : List ℕ} → Leaves history' → LeftAs s (leaves_handler event) history'
      left s o v enc {history'} (inr p) =
          rw (p.0, p.1) (record { bytes_are = still_crossed moved s enc; past = keeps_self (kept_size * length s.cross.history) history })
      left s o v enc {history'} (inl p) =
          let x = still_crossed moved s enc in
          let es = s.cross.history in
          let f = frame_of (s.cores i).state in
          let k = kept_is enc.in_cross v.cross.kept in
          let m = length-map es (strike i f) in
          let q =
          p.1.struck es K i f (frame_is desk sheet seen history bytes w few s o v enc) (now_less desk sheet seen history bytes w few s o v enc) (sym k)
          v.cross.entries enc.in_cross.entries in
          rw p.0 (record {
            bytes_are = record { declared = x.declared; progress = x.progress; kept = subst (λ (n : ℕ). NumberBytes n (set desk (states_at + i) to) kept_at) (sym m) x.kept; since = x.since; entries = q };
            past = subst (λ (n : ℕ). KeepsPast (kept_size * n) history history') (k ∙ sym m) p.1.keeps;
          })

      pub interrupt_accepts : leb max_accepted (accepted_of desk) ≡ false → {history' : List ℕ} → Leaves history'
          → Acted desk sheet seen history bytes 0 (set desk (states_at + i) to) sheet seen history'
      interrupt_accepts f g =
          record {
            acted = λ s o v enc.
                let x = left s o v enc g in
                accepts_by desk sheet seen history bytes w few s o v enc (interrupt event) interrupts (interrupt_passes s o v enc) f
                (subst (λ (t : ℕ). DeskBytes K s.is_closed (changed s.cores i (with_state (s.cores i) t)) s.graph.marks (set desk (states_at + i) to))
                (sym (to_is s enc)) (state_changed enc.in_desk i w.core to))
                (undrawn desk sheet seen history bytes w few s o v enc) (unnumbered desk sheet seen history bytes w few s o v enc) x.bytes_are (count_past moved)
                (keeps_more (omega arith) moved) (keeps_self (sheet_size K) sheet) (keeps_self (seen_size K) seen) x.past;
          }
