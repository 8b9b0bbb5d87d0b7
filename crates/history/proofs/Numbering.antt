-- The numbers that a commit gives, entry by entry. Assumes nothing.
use mathlib.Core.Path.{◌≡◌, refl, sym, ap, ◌∙◌, subst, subst₂}
use mathlib.Core.Bool.{Bool, true, false, true≢false, cond, ◌&&◌, ◌||◌, and-false, or-false, or-true}
use mathlib.Core.List.{List, [], ◌∷◌}
use mathlib.Core.Option.{none, some}
use mathlib.Core.Logic.{inr}
use Prim.Native.Nat.{ℕ, suc, ◌+◌, ◌*◌, ◌%◌, ◌<◌, ◌≤◌}
use native.Mathlib.Decide.{ℕ_discrete}
use native.Mathlib.Numerals.{add-one}
use native.Mathlib.Omega.{arith}
use lib.Dec.{eqb}
use lib.ListN.{length, get_or, take, drop}
use borrow.Author.Tests.{eqb-true, eq-eqb}
use Rattle.rules.specs.Limits.{max_classes, max_accepted}
use Rattle.rules.specs.Context.{Frame}
use Rattle.rules.specs.HeldLocks.{Second, R, N, same_second, second_by}
use Rattle.rules.specs.KindNames.{some_kind}
use Rattle.rules.specs.Crosslocks.{History, Crosslocks, some_kept, committed, drawn_by_commit}
use Rattle.rules.specs.Number.{low_first}
use Rattle.rules.proofs.Booleans.{and_cases}
use Rattle.validity.specs.Valid.{ValidCross}
use Rattle.layout.specs.Layout.{frames_per_core, frame_number, number_size, seen_size, accepted_of, kept_of, since_of, place_of, lock_of, KeepsPast}
use Rattle.layout.specs.Encoding.{SeenBytes, CrossBytes}
use Rattle.layout.proofs.Buffers.{cell_inside, keeps_self}
use Rattle.layout.proofs.Numbers.{number_is}
use Rattle.layout.proofs.Cross.{kept_is, since_is}
use Rattle.numbers.specs.Numbers.{NumberPut}
use Rattle.numbering.specs.Numbering.{PairNumbered}
use Rattle.numbering.proofs.Numbering.{put_as, same_seen, put_pair, by_journal}
use Rattle.history.specs.Histories.{cell_of, EntryNumbered, CommitNumbered}
use Rattle.history.proofs.Commits.{kept_test, since_more, since_none, since_all, of_frame, hit_at, miss_at}

-- ---- One pair: it gets the number where it has none.

module _ (K from to next : ℕ) (lf : from < K) (lt : to < K) (seen : ℕ → ℕ → ℕ) (most : (f t : ℕ) → seen f t ≤ max_accepted) (room : next < max_accepted)
    (was : ℕ → ℕ → Bool) (now : List ℕ) where
  abbrev numbers_by : (ℕ → ℕ → Bool) → ℕ → ℕ → ℕ
  numbers_by w f t = cond (eqb (seen f t) 0 && w f t) (suc next) (seen f t)

  abbrev with_pair : ℕ → ℕ → Bool
  with_pair f t = was f t || (eqb f from && eqb t to)

  stands : SeenBytes K (numbers_by was) now → low_first number_size now (number_size * (from * K + to)) ≡ numbers_by was from to
  stands b = number_is now (numbers_by was from to) (number_size * (from * K + to)) (by (eqb (seen from to) 0 && was from to)) (b.numbers from to lf lt)
    where
      by : (t : Bool) → cond t (suc next) (seen from to) ≤ max_accepted
      by true = omega arith
      by false = most from to

  -- A fact of the pair holds where the test finds it.
  there : (P : ℕ → Type 0) → P (numbers_by was from to) → (f t : ℕ) → (eqb f from && eqb t to) ≡ true → P (numbers_by was f t)
  there P h f t e =
      let q = and_cases (eqb f from) (eqb t to) e in
      subst₂ (λ (f t : ℕ). P (numbers_by was f t)) (sym (eqb-true f from q.0)) (sym (eqb-true t to q.1)) h

  put_by : (old : ℕ) (w here z : Bool) → eqb old 0 ≡ z → (here ≡ true → cond (z && w) (suc next) old ≡ 0)
      → cond here (suc next) (cond (z && w) (suc next) old) ≡ cond (z && (w || here)) (suc next) old
  put_by old w false z e h = ap (λ (y : Bool). cond (z && y) (suc next) old) (sym (or-false w))
  put_by old w true true e h = ap (λ (y : Bool). cond y (suc next) old) (sym (or-true w))
  put_by old w true false e h = absurd (true≢false (sym (eq-eqb old 0 (h refl)) ∙ e))

  kept_by : (old : ℕ) (w here z : Bool) → eqb old 0 ≡ z → (here ≡ true → cond (z && w) (suc next) old ≡ 0 → ⊥)
      → cond (z && w) (suc next) old ≡ cond (z && (w || here)) (suc next) old
  kept_by old w false z e h = ap (λ (y : Bool). cond (z && y) (suc next) old) (sym (or-false w))
  kept_by old true true z e h = refl
  kept_by old false true true e h = absurd (h refl (eqb-true old 0 e))
  kept_by old false true false e h = refl

  pub put_more : (after : List ℕ) → SeenBytes K (numbers_by was) now → low_first number_size now (number_size * (from * K + to)) ≡ 0
      → NumberPut now (number_size * (from * K + to)) (suc next) after → SeenBytes K (numbers_by with_pair) after
  put_more after b z P =
      same_seen _ (numbers_by with_pair)
      (λ f t. put_by (seen f t) (was f t) (eqb f from && eqb t to) (eqb (seen f t) 0) refl (there (λ (n : ℕ). n ≡ 0) (sym (stands b) ∙ z) f t))
      (put_pair K from to (suc next) lf lt (numbers_by was) now after b P)

  pub keep_more : SeenBytes K (numbers_by was) now → (low_first number_size now (number_size * (from * K + to)) ≡ 0 → ⊥) → SeenBytes K (numbers_by with_pair) now
  keep_more b z =
      same_seen (numbers_by was) (numbers_by with_pair)
      (λ f t. kept_by (seen f t) (was f t) (eqb f from && eqb t to) (eqb (seen f t) 0) refl (there (λ (n : ℕ). n ≡ 0 → ⊥) (λ e. z (stands b ∙ e)) f t)) b

-- ---- Where a commit draws.

-- To the class of an entry, by its one letter or by the other.
by_letter : (core : ℕ) (frame : Frame) (t : ℕ) (es : History)
    → (some_kept (committed core frame t R) es || some_kept (committed core frame t N) es) ≡ some_kept (of_frame core frame (λ e. eqb t e.class)) es
by_letter core frame t [] = refl
by_letter core frame t (none ∷ es) = by_letter core frame t es
by_letter core frame t (some e ∷ es) =
    by (eqb core e.core) (eqb frame e.frame) (eqb t e.class) (second_by e.mode) (some_kept (committed core frame t R) es)
    (some_kept (committed core frame t N) es) (by_letter core frame t es)
  where
    by : (a b c : Bool) (s : Second) (r n : Bool) {rest : Bool} → (r || n) ≡ rest
        → (((a && (b && (c && same_second R s))) || r) || ((a && (b && (c && same_second N s))) || n)) ≡ ((a && (b && c)) || rest)
    by true true true R r n q = refl
    by true true true N true n q = refl
    by true true true N false n q = refl
    by true true false s r n q = q
    by true false c s r n q = q
    by false b c s r n q = q

-- The pairs of the crosslock with the classes of some entries.
abbrev pairs_to : (class core : ℕ) → Frame → History → ℕ → ℕ → Bool
pairs_to class core frame es f t = eqb f class && some_kept (of_frame core frame (λ e. eqb t e.class)) es

some_drawn : (class core : ℕ) (frame : Frame) (x : Crosslocks) (f t : ℕ)
    → some_kind (drawn_by_commit class core frame x f t) ≡ pairs_to class core frame (drop (x.since class) x.history) f t
some_drawn class core frame x f t =
    by (eqb f class) (some_kept (committed core frame t R) es) (some_kept (committed core frame t N) es)
    ∙ ap (λ (y : Bool). eqb f class && y) (by_letter core frame t es)
  where
    es : History
    es = drop (x.since class) x.history

    by : (a r n : Bool) → (((a && (true && r)) || (a && (true && n))) || ((a && (false && r)) || (a && (false && n)))) ≡ (a && (r || n))
    by true r n = or-false (r || n)
    by false r n = refl

-- ---- Entry by entry.

-- One entry, as the code does it.
pub entry_numbers : (history : List ℕ) (i K n class number : ℕ) (before after : List ℕ) → place_of history i ≡ suc n
    → PairNumbered before (number_size * cell_of history i K class) number after → EntryNumbered history i K n class number before after
entry_numbers history i K n class number before after h P = record { missed = λ m. absurd (m h); had = P.had; numbered = λ p. P.numbered }

pub entry_passed : (history : List ℕ) (i K n class number : ℕ) (before : List ℕ) → (place_of history i ≡ suc n → ⊥)
    → EntryNumbered history i K n class number before before
entry_passed history i K n class number before m = record { missed = λ q. refl; had = λ z. refl; numbered = λ h. absurd (m h) }

-- The entries below p are done.
pub record Numbering (desk history : List ℕ) (K n class : ℕ) (before : List ℕ) (p : ℕ) (now : List ℕ) : Type 0 where
  pub keeps : KeepsPast (seen_size K) before now
  pub numbered : (x : Crosslocks) (core : ℕ) (frame : Frame) → n ≡ frame_number core frame → frame < frames_per_core → ValidCross K x → CrossBytes x desk history
      → (seen : ℕ → ℕ → ℕ) → ((f t : ℕ) → seen f t ≤ max_accepted) → SeenBytes K seen before
      → SeenBytes K
      (λ f t.
      cond (eqb (seen f t) 0 && pairs_to class core frame (drop (x.since class) (take p x.history)) f t) (suc (accepted_of desk)) (seen f t))
      now

module _ (desk history : List ℕ) (K n class : ℕ) (before : List ℕ) (most : K ≤ max_classes) (lc : class < K) (room : accepted_of desk < max_accepted) where
  pub numbering_start : (p : ℕ) → p ≡ since_of desk class → Numbering desk history K n class before p before
  numbering_start p e =
      record {
        keeps = keeps_self (seen_size K) before;
        numbered = λ x core frame is inside v b seen small m.
            let s : p ≡ x.since class = e ∙ since_is b class (omega arith) (v.since class) in
            let z : drop (x.since class) (take p x.history) ≡ [] = rw s (since_none x.history (x.since class)) in
            same_seen seen _
            (λ f t.
            sym
            (ap (λ (es : History). cond (eqb (seen f t) 0 && pairs_to class core frame es f t) (suc (accepted_of desk)) (seen f t)) z
            ∙ rw (and-false (eqb f class), and-false (eqb (seen f t) 0)) refl))
            m;
      }

  module _ (p : ℕ) (now : List ℕ) (D : Numbering desk history K n class before p now) (since : since_of desk class ≤ p) (l : p < kept_of desk)
      (lh : lock_of history p % 64 < K) where
    abbrev cell : ℕ
    cell = number_size * cell_of history p K class

    module _ (x : Crosslocks) (core : ℕ) (frame : Frame) (is : n ≡ frame_number core frame) (inside : frame < frames_per_core) (v : ValidCross K x)
        (b : CrossBytes x desk history) (seen : ℕ → ℕ → ℕ) (small : (f t : ℕ) → seen f t ≤ max_accepted) (m : SeenBytes K seen before) where
      abbrev up_to : ℕ → ℕ → ℕ → Bool
      up_to q f t = pairs_to class core frame (drop (x.since class) (take q x.history)) f t

      abbrev numbers_to : (ℕ → ℕ → Bool) → ℕ → ℕ → ℕ
      numbers_to w f t = cond (eqb (seen f t) 0 && w f t) (suc (accepted_of desk)) (seen f t)

      within : p < length x.history
      within = let k = kept_is b v.kept in omega arith

      sofar : SeenBytes K (numbers_to (up_to p)) now
      sofar = D.numbered x core frame is inside v b seen small m

      -- One entry more, whether it is of the frame or not.
      grown : (f t : ℕ) {here : Bool}
          → kept_test (of_frame core frame (λ e. eqb t e.class)) (get_or x.history p none) ≡ here
          → up_to (suc p) f t ≡ (up_to p f t || (eqb f class && here))
      grown f t h =
          let s = since_is b class (omega arith) (v.since class) in
          ap (λ (y : Bool). eqb f class && y) (since_more (of_frame core frame (λ e. eqb t e.class)) x.history (x.since class) p (omega arith) within)
          ∙ by (eqb f class) (some_kept (of_frame core frame (λ e. eqb t e.class)) (drop (x.since class) (take p x.history))) h
        where
          by : (a y : Bool) {z here : Bool} → z ≡ here → (a && (y || z)) ≡ ((a && y) || (a && here))
          by true y q = ap (λ (b : Bool). y || b) q
          by false y q = refl

      over : (place_of history p ≡ suc n → ⊥) → SeenBytes K (numbers_to (up_to (suc p))) now
      over h =
          same_seen (numbers_to (up_to p)) (numbers_to (up_to (suc p)))
          (λ f t.
          ap (λ (y : Bool). cond (eqb (seen f t) 0 && y) (suc (accepted_of desk)) (seen f t))
          (sym
          (grown f t (miss_at v b p n core frame is inside within h (λ e. eqb t e.class))
          ∙ ap (λ (y : Bool). up_to p f t || y) (and-false (eqb f class)) ∙ or-false (up_to p f t))))
          sofar

      module _ (h : place_of history p ≡ suc n) where
        abbrev entry : ℕ
        entry = (hit_at v b p n core frame is inside within most h).kept.class

        class_is : lock_of history p % 64 ≡ entry
        class_is = (hit_at v b p n core frame is inside within most h).class

        ahead : (f t : ℕ) → numbers_to (λ f t. up_to p f t || (eqb f class && eqb t entry)) f t ≡ numbers_to (up_to (suc p)) f t
        ahead f t =
            ap (λ (y : Bool). cond (eqb (seen f t) 0 && y) (suc (accepted_of desk)) (seen f t))
            (sym (grown f t ((hit_at v b p n core frame is inside within most h).passes (λ e. eqb t e.class))))

        given : (after : List ℕ) → low_first number_size now cell ≡ 0 → NumberPut now cell (suc (accepted_of desk)) after
            → SeenBytes K (numbers_to (up_to (suc p))) after
        given after z P =
            same_seen _ (numbers_to (up_to (suc p))) ahead
            (put_more K class entry (accepted_of desk) lc (rw class_is at lh) seen small room (up_to p) now after sofar (rw class_is at z) (rw class_is at P))

        had : (low_first number_size now cell ≡ 0 → ⊥) → SeenBytes K (numbers_to (up_to (suc p))) now
        had z =
            same_seen _ (numbers_to (up_to (suc p))) ahead
            (keep_more K class entry (accepted_of desk) lc (rw class_is at lh) seen small room (up_to p) now sofar (rw class_is at z))

    pub numbering_step : (number : ℕ) (after : List ℕ) → number ≡ suc (accepted_of desk) → EntryNumbered history p K n class number now after
        → Numbering desk history K n class before (p + 1) after
    numbering_step number after e T =
        elim (ℕ_discrete (place_of history p) (suc n)) [
          | no h ↦
              subst (λ (s : List ℕ). Numbering desk history K n class before (p + 1) s) (sym (T.missed h))
              (record {
                keeps = D.keeps;
                numbered = λ x core frame is inside v b seen small m. rw add-one (over x core frame is inside v b seen small m h);
              })
          | yes h ↦
              elim (ℕ_discrete (low_first number_size now cell) 0) [
                | no z ↦
                    subst (λ (s : List ℕ). Numbering desk history K n class before (p + 1) s) (sym (T.had z))
                    (record {
                      keeps = D.keeps;
                      numbered = λ x core frame is inside v b seen small m. rw add-one (had x core frame is inside v b seen small m h z);
                    })
                | yes z ↦
                    let P = put_as e (T.numbered h z) in
                    record {
                      keeps = record {
                        long = P.long ∙ D.keeps.long;
                        past = λ j out.
                            P.else j (inr (let i = cell_inside K class (lock_of history p % 64) lc lh in omega arith)) ∙ D.keeps.past j out;
                      };
                      numbered = λ x core frame is inside v b seen small m. rw add-one (given x core frame is inside v b seen small m h after z P);
                    }
              ]
        ]

  pub numbering_done : (p : ℕ) (now : List ℕ) → kept_of desk ≤ p → Numbering desk history K n class before p now
      → CommitNumbered desk history K n class before now
  numbering_done p now l D =
      record {
        keeps = D.keeps;
        numbered = λ x core frame is inside v b j accepted small m.
            let k = kept_is b v.kept in
            by_journal desk now K (drawn_by_commit class core frame x) j accepted
            (same_seen _ _
            (λ f t.
            ap (λ (y : Bool). cond (eqb (j.seen f t) 0 && y) (suc (accepted_of desk)) (j.seen f t)) (sym (some_drawn class core frame x f t)))
            (subst
            (λ (es : History).
            SeenBytes K
            (λ f t. cond (eqb (j.seen f t) 0 && pairs_to class core frame (drop (x.since class) es) f t) (suc (accepted_of desk)) (j.seen f t)) now)
            (since_all x.history p (omega arith)) (D.numbered x core frame is inside v b j.seen small m)));
      }
