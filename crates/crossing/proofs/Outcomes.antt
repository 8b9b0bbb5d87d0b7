-- What each kind of a crosslock comes to. Assumes nothing.
use mathlib.Core.Path.{◌≡◌, refl, sym, ap, ◌∙◌, subst, fun_ext}
use mathlib.Core.Bool.{Bool, true, false, cond, not}
use mathlib.Core.List.{List}
use mathlib.Core.Logic.{inl}
use mathlib.Core.Option.{none, some}
use Prim.Native.Nat.{ℕ, ◌*◌, ◌<◌, ◌≤◌}
use native.Mathlib.Decide.{ℕ_discrete}
use native.Mathlib.Omega.{arith}
use lib.Dec.{leb}
use lib.ListN.{length}
use borrow.Author.Tests.{leb-true, leb-false, eq-eqb, ne_eqb}
use Rattle.rules.specs.Limits.{core_count, max_accepted, max_classes, max_in_progress, max_kept}
use Rattle.rules.specs.Record.{Event, cross_acquire, commit, cross_release, event_by, event_of, core_of, kind_of, class_of, mode_of}
use Rattle.rules.specs.WellFormed.{WellFormed}
use Rattle.rules.specs.Context.{frame_of}
use Rattle.rules.specs.HeldLocks.{Core, current}
use Rattle.rules.specs.Marks.{Marks}
use Rattle.rules.specs.Crosslocks.{Crosslocks, size_of, ended}
use Rattle.rules.specs.Verdict.{no_class, wrong_sort, in_progress, not_in_progress, list_full}
use Rattle.rules.specs.Run.{State}
use Rattle.validity.specs.Valid.{Valid}
use Rattle.layout.specs.Layout.{desk_size, sheet_size, seen_size, kept_size, frame_count, frame_number, classes_of, state_of, declared_of, progress_of, kept_of, accepted_of, member_of}
use Rattle.layout.specs.Encoding.{DeskBytes, Encodes}
use Rattle.layout.proofs.Buffers.{keeps_self}
use Rattle.layout.proofs.Cross.{declared_at_lem, progress_at_lem, progress_size, kept_is}
use Rattle.update.specs.Update.{Drawn}
use Rattle.numbering.specs.Numbering.{Numbered}
use Rattle.update.proofs.Cores.{changed, behind_changed}
use Rattle.crosslocks.specs.Progress.{Entered, Ended}
use Rattle.history.specs.Histories.{EntriesIn, CommitDrawn, CommitNumbered}
use Rattle.history.proofs.Entries.{entries_in}
use Rattle.cores.specs.Cores.{Cored}
use Rattle.cores.proofs.Bytes.{number_less}
use Rattle.acting.specs.Action.{Crossed, not_crosslock, Acted}
use Rattle.acting.proofs.Refusals.{refusal_by}
use Rattle.crossing.specs.Going.{not_going}
use Rattle.acting.proofs.Common.{uncrossed_count, uncrossed_past, frame, now_less, frame_is, current_frame, small, refuses_by, accepted_is, full_by, accepts_by, undrawn, unnumbered}

-- A crosslock is no held lock: the cores are as they were.
same_cores : {K : ℕ} {b : Bool} {marks : Marks} {desk : List ℕ} (cores : ℕ → Core) (i : ℕ) → DeskBytes K b cores marks desk
    → DeskBytes K b (changed cores i (cores i)) marks desk
same_cores {K} {b} {marks} {desk} cores i d = subst (λ (c : ℕ → Core). DeskBytes K b c marks desk) (fun_ext (λ j. sym (at j))) d
  where
    at : (j : ℕ) → changed cores i (cores i) j ≡ cores j
    at j = elim (ℕ_discrete j i) [ yes e ↦ rw (e, eq-eqb i i refl) refl | no n ↦ rw (ne_eqb j i n) refl ]

-- A class of the desk that is declared.
pub is_crosslock : (desk : List ℕ) (c : ℕ) → not_crosslock desk c ≡ 0 → (c < classes_of desk) × (member_of (declared_of desk) c ≡ true)
is_crosslock desk c h = by (leb (classes_of desk) c) refl (member_of (declared_of desk) c) refl h
  where
    by : (a : Bool) → leb (classes_of desk) c ≡ a → (d : Bool) → member_of (declared_of desk) c ≡ d → ◌≡◌ {A = ℕ} (cond a 4 (cond (not d) 15 0)) 0
        → (c < classes_of desk) × (member_of (declared_of desk) c ≡ true)
    by true e d q z = absurd (omega arith)
    by false e true q z = (leb-false (classes_of desk) c e, q)
    by false e false q z = absurd (omega arith)

-- What a commit's drawing asks for.
pub ready : (desk history : List ℕ) (cored : Cored desk) → Crossed desk history → 0 < classes_of desk → (i : ℕ) → i < core_count
    → (kept_of desk ≤ max_kept) × EntriesIn (kept_of desk) history (classes_of desk) × (frame_number i (frame_of (state_of desk i)) < frame_count)
ready desk history cored x least i li =
    let k = kept_is x.encodes x.valid.kept in
    let l = x.valid.kept in
    (omega arith, rw k (entries_in (classes_of desk) least cored.few x.cross desk history x.long x.valid x.encodes), number_less desk cored i li)

-- What no refusal of a commit or a release says.
module _ (desk : List ℕ) (c : ℕ) where
  pub going : not_going desk c ≡ 0 → (not_crosslock desk c ≡ 0) × (member_of (progress_of desk) c ≡ true) × (leb max_accepted (accepted_of desk) ≡ false)
  going h = by (leb (classes_of desk) c) refl (member_of (declared_of desk) c) refl (member_of (progress_of desk) c) refl (leb max_accepted (accepted_of desk)) refl h
    where
      by : (a : Bool) → leb (classes_of desk) c ≡ a → (d : Bool) → member_of (declared_of desk) c ≡ d → (p : Bool) → member_of (progress_of desk) c ≡ p
          → (f : Bool) → leb max_accepted (accepted_of desk) ≡ f
          → ◌≡◌ {A = ℕ} (cond a 4 (cond (not d) 15 (cond (not p) 17 (cond f 9 0)))) 0
          → (not_crosslock desk c ≡ 0) × (member_of (progress_of desk) c ≡ true) × (leb max_accepted (accepted_of desk) ≡ false)
      by true e d q p u f v z = absurd (omega arith)
      by false e false q p u f v z = absurd (omega arith)
      by false e true q false u f v z = absurd (omega arith)
      by false e true q true u true v z = absurd (omega arith)
      by false e true q true u false v z = (rw (e, q) refl, u, v)

module _ (desk sheet seen history bytes : List ℕ) (w : WellFormed bytes) (few : classes_of desk ≤ max_classes) where
  abbrev K : ℕ
  K = classes_of desk

  abbrev i : ℕ
  i = core_of bytes

  abbrev c : ℕ
  c = class_of bytes

  -- The event asks for a class first, and for a crosslock then.
  pub record Sorted (ev : Event) : Type 0 where
    pub is : event_of bytes ≡ ev
    pub unknown : (core : Core) (x : Crosslocks) → leb K c ≡ true → refusal_by K core x ev ≡ some no_class
    pub wrong : (core : Core) (x : Crosslocks) → leb K c ≡ false → x.declared c ≡ false → refusal_by K core x ev ≡ some wrong_sort

  pub acquires : kind_of bytes ≡ 10 → Sorted (cross_acquire c)
  acquires kind =
      record { is = ap (λ (k : ℕ). event_by k c (mode_of bytes)) kind; unknown = λ core x h. rw h refl; wrong = λ core x h d. rw (h, d) refl }

  pub commits : kind_of bytes ≡ 11 → Sorted (commit c)
  commits kind =
      record { is = ap (λ (k : ℕ). event_by k c (mode_of bytes)) kind; unknown = λ core x h. rw h refl; wrong = λ core x h d. rw (h, d) refl }

  pub releases : kind_of bytes ≡ 12 → Sorted (cross_release c)
  releases kind =
      record { is = ap (λ (k : ℕ). event_by k c (mode_of bytes)) kind; unknown = λ core x h. rw h refl; wrong = λ core x h d. rw (h, d) refl }

  pub not_crosslock_lem : {ev : Event} → Sorted ev → (r : ℕ) → r ≡ not_crosslock desk c → (r ≡ 0 → ⊥) → Acted desk sheet seen history bytes r desk sheet seen history
  not_crosslock_lem {ev} S r e ne = by (leb K c) refl (member_of (declared_of desk) c) refl e
    where
      by : (a : Bool) → leb K c ≡ a → (d : Bool) → member_of (declared_of desk) c ≡ d → ◌≡◌ {A = ℕ} r (cond a 4 (cond (not d) 15 0))
          → Acted desk sheet seen history bytes r desk sheet seen history
      by true q d z h =
          rw h (record { acted = λ s o v enc. refuses_by desk sheet seen history bytes w few s o v enc ev S.is no_class (S.unknown (s.cores i) s.cross q) })
      by false q false z h =
          let l = leb-false K c q in
          rw h (record {
            acted = λ s o v enc.
                refuses_by desk sheet seen history bytes w few s o v enc ev S.is wrong_sort
                (S.wrong (s.cores i) s.cross q (sym (declared_at_lem enc.in_cross c (omega arith)) ∙ z));
          })
      by false q true z h = absurd (ne h)

  pub asks_commit : (core : Core) (x : Crosslocks) (b : Bool) → leb K c ≡ false → x.declared c ≡ true → x.progress c ≡ b → refusal_by K core x (commit c) ≡ cond b none (some not_in_progress)
  asks_commit core x true l d p = rw (l, d, p) refl
  asks_commit core x false l d p = rw (l, d, p) refl

  pub asks_release : (core : Core) (x : Crosslocks) (b : Bool) → leb K c ≡ false → x.declared c ≡ true → x.progress c ≡ b → refusal_by K core x (cross_release c) ≡ cond b none (some not_in_progress)
  asks_release core x true l d p = rw (l, d, p) refl
  asks_release core x false l d p = rw (l, d, p) refl

  module _ (sort : not_crosslock desk c ≡ 0) where
    class_less : c < K
    class_less = (is_crosslock desk c sort).0

    class_small : c < max_classes
    class_small = let l = class_less in omega arith

    module _ (s : State) (o : s.is_closed ≡ false) (v : Valid K s) (enc : Encodes K s desk sheet seen history) where
      no_test : leb K c ≡ false
      no_test = by (leb K c) refl
        where
          by : (a : Bool) → leb K c ≡ a → a ≡ false
          by true e = let l = leb-true K c e in let h = class_less in absurd (omega arith)
          by false e = refl

      declared : s.cross.declared c ≡ true
      declared = sym (declared_at_lem enc.in_cross c class_small) ∙ (is_crosslock desk c sort).1

      progress : {b : Bool} → member_of (progress_of desk) c ≡ b → s.cross.progress c ≡ b
      progress h = sym (progress_at_lem enc.in_cross c class_small) ∙ h

    -- ---- Acquire.

    module _ (kind : kind_of bytes ≡ 10) where
      pub acquire_in_progress : member_of (progress_of desk) c ≡ true → Acted desk sheet seen history bytes 16 desk sheet seen history
      acquire_in_progress p =
          record {
            acted = λ s o v enc.
                refuses_by desk sheet seen history bytes w few s o v enc (cross_acquire c) (acquires kind).is in_progress
                (rw (no_test s o v enc, declared s o v enc, progress s o v enc p) refl);
          }

      module _ (p : member_of (progress_of desk) c ≡ false) where
        pub acquire_list_full : leb max_in_progress (size_of (member_of (progress_of desk))) ≡ true → Acted desk sheet seen history bytes 18 desk sheet seen history
        acquire_list_full f =
            record {
              acted = λ s o v enc.
                  let e : leb max_in_progress (size_of s.cross.progress) ≡ true = rw (progress_size enc.in_cross) at f in
                  refuses_by desk sheet seen history bytes w few s o v enc (cross_acquire c) (acquires kind).is list_full
                  (rw (no_test s o v enc, declared s o v enc, progress s o v enc p, e) refl);
            }

        module _ (f : leb max_in_progress (size_of (member_of (progress_of desk))) ≡ false) where
          passes : (s : State) (o : s.is_closed ≡ false) (v : Valid K s) (enc : Encodes K s desk sheet seen history) → refusal_by K (s.cores i) s.cross (cross_acquire c) ≡ none
          passes s o v enc =
              let e : leb max_in_progress (size_of s.cross.progress) ≡ false = rw (progress_size enc.in_cross) at f in
              rw (no_test s o v enc, declared s o v enc, progress s o v enc p, e) refl

          pub acquire_count_full : leb max_accepted (accepted_of desk) ≡ true → Acted desk sheet seen history bytes 9 desk sheet seen history
          acquire_count_full h =
              record { acted = λ s o v enc. full_by desk sheet seen history bytes w few s o v enc (cross_acquire c) (acquires kind).is (passes s o v enc) h }

          pub acquire_accepts : leb max_accepted (accepted_of desk) ≡ false → {desk' sheet' seen' : List ℕ}
              → Drawn desk K (frame desk sheet seen history bytes w few) c 0 sheet sheet' → Numbered desk K (frame desk sheet seen history bytes w few) c 0 seen seen' → Entered desk c desk'
              → Acted desk sheet seen history bytes 0 desk' sheet' seen' history
          acquire_accepts h {desk'} D N E =
              record {
                acted = λ s o v enc.
                    let F = current_frame desk sheet seen history bytes w few s o v enc in
                    let m = small desk sheet seen history bytes w few s o v enc in
                    accepts_by desk sheet seen history bytes w few s o v enc (cross_acquire c) (acquires kind).is (passes s o v enc) h
                    (same_cores s.cores i (behind_changed enc.in_desk E.keeps.long (λ j l. E.keeps.else j (inl (omega arith)))))
                    (D.drawn (current (s.cores i)) F m s.graph.locks enc.in_sheet)
                    (N.numbered (current (s.cores i)) F m s.journal (sym (accepted_is desk sheet seen history bytes w few s o v enc)) v.journal.at_most enc.in_seen)
                    (E.entered s.cross history v.cross.kept enc.in_cross)
                    (uncrossed_count E.keeps) (uncrossed_past E.keeps) D.keeps N.keeps (keeps_self (kept_size * length s.cross.history) history);
              }

    -- ---- Commit and release.

    module _ {ev : Event} (S : Sorted ev)
        (asks : (core : Core) (x : Crosslocks) (b : Bool) → leb K c ≡ false → x.declared c ≡ true → x.progress c ≡ b → refusal_by K core x ev ≡ cond b none (some not_in_progress)) where
      pub not_in_progress_lem : member_of (progress_of desk) c ≡ false → Acted desk sheet seen history bytes 17 desk sheet seen history
      not_in_progress_lem p =
          record {
            acted = λ s o v enc.
                refuses_by desk sheet seen history bytes w few s o v enc ev S.is not_in_progress
                (asks (s.cores i) s.cross false (no_test s o v enc) (declared s o v enc) (progress s o v enc p));
          }

      pub passes_on : member_of (progress_of desk) c ≡ true → (s : State) (o : s.is_closed ≡ false) (v : Valid K s) (enc : Encodes K s desk sheet seen history) → refusal_by K (s.cores i) s.cross ev ≡ none
      passes_on p s o v enc = asks (s.cores i) s.cross true (no_test s o v enc) (declared s o v enc) (progress s o v enc p)

      pub count_full : member_of (progress_of desk) c ≡ true → leb max_accepted (accepted_of desk) ≡ true → Acted desk sheet seen history bytes 9 desk sheet seen history
      count_full p h = record { acted = λ s o v enc. full_by desk sheet seen history bytes w few s o v enc ev S.is (passes_on p s o v enc) h }

    pub commit_accepts : kind_of bytes ≡ 11 → member_of (progress_of desk) c ≡ true → leb max_accepted (accepted_of desk) ≡ false → {sheet' seen' : List ℕ}
        → CommitDrawn desk history K (frame desk sheet seen history bytes w few) c sheet sheet'
        → CommitNumbered desk history K (frame desk sheet seen history bytes w few) c seen seen' → Acted desk sheet seen history bytes 0 desk sheet' seen' history
    commit_accepts kind p h D N =
        record {
          acted = λ s o v enc.
              let f = frame_is desk sheet seen history bytes w few s o v enc in
              let l = now_less desk sheet seen history bytes w few s o v enc in
              accepts_by desk sheet seen history bytes w few s o v enc (commit c) (commits kind).is (passes_on (commits kind) asks_commit p s o v enc) h
              (same_cores s.cores i enc.in_desk)
              (D.drawn s.cross i (frame_of (s.cores i).state) f l v.cross enc.in_cross s.graph.locks enc.in_sheet)
              (N.numbered s.cross i (frame_of (s.cores i).state) f l v.cross enc.in_cross s.journal (sym (accepted_is desk sheet seen history bytes w few s o v enc)) v.journal.at_most enc.in_seen)
              enc.in_cross (record { count = λ j l. refl }) (keeps_self desk_size desk) D.keeps N.keeps (keeps_self (kept_size * length s.cross.history) history);
        }

    pub release_accepts : kind_of bytes ≡ 12 → member_of (progress_of desk) c ≡ true → leb max_accepted (accepted_of desk) ≡ false → {desk' : List ℕ} → Ended desk c desk'
        → Acted desk sheet seen history bytes 0 desk' sheet seen history
    release_accepts kind p h E =
        record {
          acted = λ s o v enc.
              accepts_by desk sheet seen history bytes w few s o v enc (cross_release c) (releases kind).is (passes_on (releases kind) asks_release p s o v enc) h
              (same_cores s.cores i (behind_changed enc.in_desk E.keeps.long (λ j l. E.keeps.else j (inl (omega arith)))))
              (undrawn desk sheet seen history bytes w few s o v enc) (unnumbered desk sheet seen history bytes w few s o v enc)
              (E.ended s.cross history enc.in_cross) (uncrossed_count E.keeps) (uncrossed_past E.keeps) (keeps_self (sheet_size K) sheet)
              (keeps_self (seen_size K) seen) (keeps_self (kept_size * length (ended c s.cross).history) history);
        }

  -- The refusals of both.
  pub not_going_lem : {ev : Event} → Sorted ev
      → (asks : (core : Core) (x : Crosslocks) (b : Bool) → leb K c ≡ false → x.declared c ≡ true → x.progress c ≡ b → refusal_by K core x ev ≡ cond b none (some not_in_progress))
      → (r : ℕ) → r ≡ not_going desk c → (r ≡ 0 → ⊥) → Acted desk sheet seen history bytes r desk sheet seen history
  not_going_lem {ev} S asks r e ne = by (leb K c) refl (member_of (declared_of desk) c) refl (member_of (progress_of desk) c) refl (leb max_accepted (accepted_of desk)) refl e
    where
      by : (a : Bool) → leb K c ≡ a → (d : Bool) → member_of (declared_of desk) c ≡ d → (p : Bool) → member_of (progress_of desk) c ≡ p
          → (f : Bool) → leb max_accepted (accepted_of desk) ≡ f → ◌≡◌ {A = ℕ} r (cond a 4 (cond (not d) 15 (cond (not p) 17 (cond f 9 0))))
          → Acted desk sheet seen history bytes r desk sheet seen history
      by true q d u p v f y z = not_crosslock_lem S r (rw q z) ne
      by false q false u p v f y z = not_crosslock_lem S r (rw (q, u) z) ne
      by false q true u false v f y z = rw z (not_in_progress_lem (rw (q, u) refl) S asks v)
      by false q true u true v true y z = rw z (count_full (rw (q, u) refl) S asks v y)
      by false q true u true v false y z = absurd (ne z)
