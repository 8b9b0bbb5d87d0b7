-- What a commit draws, entry by entry. Assumes nothing.
use mathlib.Core.Path.{◌≡◌, refl, sym, ap, ◌∙◌, subst}
use mathlib.Core.Bool.{Bool, true, false, ◌&&◌, ◌||◌, and-false, or-false}
use mathlib.Core.List.{List, []}
use mathlib.Core.Option.{none}
use Prim.Native.Nat.{ℕ, suc, ◌+◌, ◌*◌, ◌/◌, ◌%◌, ◌<◌, ◌≤◌}
use native.Mathlib.Decide.{ℕ_discrete}
use native.Mathlib.Numerals.{add-one}
use native.Mathlib.Omega.{arith}
use lib.Dec.{eqb}
use lib.Bits.{bit_or}
use lib.ListN.{length, get_or, set, take, drop, length-set}
use lib.Seq.{get_or-set_other}
use Rattle.rules.specs.Limits.{max_classes}
use Rattle.rules.specs.Context.{Frame}
use Rattle.rules.specs.HeldLocks.{Second, E, same_first, same_second, second_by}
use Rattle.rules.specs.Graph.{Dependencies}
use Rattle.rules.specs.Crosslocks.{History, Crosslocks, some_kept, committed}
use Rattle.validity.specs.Valid.{ValidCross}
use Rattle.layout.specs.Layout.{frames_per_core, frame_number, kept_of, since_of, place_of, lock_of, KeepsPast}
use Rattle.layout.specs.Encoding.{SheetBytes, CrossBytes}
use Rattle.layout.proofs.Buffers.{cell_inside, keeps_self}
use Rattle.layout.proofs.Cross.{kept_is, since_is}
use Rattle.context.specs.Bits.{kind_bits}
use Rattle.update.proofs.Drawing.{same_dependencies, with_one_more, add_cell}
use Rattle.history.specs.Histories.{cell_of, EntryDrawn, CommitDrawn}
use Rattle.history.proofs.Commits.{kept_test, since_more, since_none, since_all, Hit, hit_at, miss_at}

-- One entry, as the code does it.
module _ (history : List ℕ) (i K n class : ℕ) (before : List ℕ) where
  pub entry_draws : (bits : ℕ) → bits ≡ kind_bits 0 (lock_of history i / 64) → place_of history i ≡ suc n
      → EntryDrawn history i K n class before (set before (cell_of history i K class) (bit_or (get_or before (cell_of history i K class) 0) bits))
  entry_draws bits e h =
      record {
        missed = λ m. absurd (m h);
        drawn = λ q. ap (λ (b : ℕ). set before (cell_of history i K class) (bit_or (get_or before (cell_of history i K class) 0) b)) e;
      }

  pub entry_passed : (place_of history i ≡ suc n → ⊥) → EntryDrawn history i K n class before before
  entry_passed m = record { missed = λ q. refl; drawn = λ h. absurd (m h) }

-- What is drawn to some entries.
abbrev drawn_to : (class core : ℕ) → Frame → History → Dependencies
drawn_to class core frame es f t k = eqb f class && (same_first k.first E && some_kept (committed core frame t k.second) es)

-- The entries below p are done.
pub record Committing (desk history : List ℕ) (K n class : ℕ) (before : List ℕ) (p : ℕ) (now : List ℕ) : Type 0 where
  pub keeps : KeepsPast (K * K) before now
  pub drawn : (x : Crosslocks) (core : ℕ) (frame : Frame) → n ≡ frame_number core frame → frame < frames_per_core → ValidCross K x → CrossBytes x desk history
      → (locks : Dependencies) → SheetBytes K locks before
      → SheetBytes K (λ f t k. locks f t k || drawn_to class core frame (drop (x.since class) (take p x.history)) f t k) now

module _ (desk history : List ℕ) (K n class : ℕ) (before : List ℕ) (most : K ≤ max_classes) (lc : class < K) where
  pub committing_start : (p : ℕ) → p ≡ since_of desk class → Committing desk history K n class before p before
  committing_start p e =
      record {
        keeps = keeps_self (K * K) before;
        drawn = λ x core frame is inside v b locks m.
            let s : p ≡ x.since class = e ∙ since_is b class (omega arith) (v.since class) in
            let z : drop (x.since class) (take p x.history) ≡ [] = rw s (since_none x.history (x.since class)) in
            same_dependencies locks _
            (λ f t k.
            sym
            (ap (λ (es : History). locks f t k || drawn_to class core frame es f t k) z
            ∙ nothing (locks f t k) (eqb f class) (same_first k.first E)))
            m;
      }
    where
      nothing : (l a b : Bool) → (l || (a && (b && false))) ≡ l
      nothing l a b = rw (and-false b, and-false a) (or-false l)

  module _ (p : ℕ) (now : List ℕ) (D : Committing desk history K n class before p now) (since : since_of desk class ≤ p) (l : p < kept_of desk) where
    module _ (x : Crosslocks) (core : ℕ) (frame : Frame) (is : n ≡ frame_number core frame) (inside : frame < frames_per_core) (v : ValidCross K x)
        (b : CrossBytes x desk history) (locks : Dependencies) (m : SheetBytes K locks before) where
      -- Some entry below q is of the frame, of class t and waits so.
      abbrev some_to : ℕ → ℕ → Second → Bool
      some_to q t w = some_kept (committed core frame t w) (drop (x.since class) (take q x.history))

      abbrev up_to : ℕ → Dependencies
      up_to q f t k = locks f t k || (eqb f class && (same_first k.first E && some_to q t k.second))

      within : p < length x.history
      within = let k = kept_is b v.kept in omega arith

      sofar : SheetBytes K (up_to p) now
      sofar = D.drawn x core frame is inside v b locks m

      -- One entry more.
      grown : (t : ℕ) (w : Second) {here : Bool} → kept_test (committed core frame t w) (get_or x.history p none) ≡ here
          → some_to (suc p) t w ≡ (some_to p t w || here)
      grown t w h =
          let s = since_is b class (omega arith) (v.since class) in
          since_more (committed core frame t w) x.history (x.since class) p (omega arith) within ∙ ap (λ (y : Bool). some_to p t w || y) h

      -- It is not of the frame.
      over : (place_of history p ≡ suc n → ⊥) → SheetBytes K (up_to (suc p)) now
      over h =
          same_dependencies (up_to p) (up_to (suc p))
          (λ f t k.
          ap (λ (y : Bool). locks f t k || (eqb f class && (same_first k.first E && y)))
          (sym
          (grown t k.second (miss_at v b p n core frame is inside within h (λ e. eqb t e.class && same_second k.second (second_by e.mode)))
          ∙ or-false (some_to p t k.second))))
          sofar

      regroup : (l a b y t s : Bool) → ((l || (a && (b && y))) || (a && (t && (s && b)))) ≡ (l || (a && (b && (y || (t && s)))))
      regroup true a b y t s = refl
      regroup false false b y t s = refl
      regroup false true true true t s = refl
      regroup false true true false true true = refl
      regroup false true true false true false = refl
      regroup false true true false false s = refl
      regroup false true false y true true = refl
      regroup false true false y true false = refl
      regroup false true false y false s = refl

      -- It is: one dependency more.
      more : (e : Hit K history p core frame (get_or x.history p none))
          → SheetBytes K (up_to (suc p))
          (set now (class * K + e.kept.class) (bit_or (get_or now (class * K + e.kept.class) 0) (kind_bits 0 e.kept.mode)))
      more e =
          same_dependencies (with_one_more K class e.kept.class 0 e.kept.mode lc e.inside (up_to p)) (up_to (suc p))
          (λ f t k.
          regroup (locks f t k) (eqb f class) (same_first k.first E) (some_to p t k.second) (eqb t e.kept.class)
          (same_second k.second (second_by e.kept.mode))
          ∙ ap (λ (y : Bool). locks f t k || (eqb f class && (same_first k.first E && y)))
          (sym (grown t k.second (e.passes (λ e. eqb t e.class && same_second k.second (second_by e.mode))))))
          (add_cell K class e.kept.class 0 e.kept.mode lc e.inside (up_to p) now sofar)

    passed : (place_of history p ≡ suc n → ⊥) → Committing desk history K n class before (p + 1) now
    passed h = record { keeps = D.keeps; drawn = λ x core frame is inside v b locks m. rw add-one (over x core frame is inside v b locks m h) }

    added : place_of history p ≡ suc n → lock_of history p % 64 < K → K * K ≤ length before
        → Committing desk history K n class before (p + 1)
        (set now (cell_of history p K class) (bit_or (get_or now (cell_of history p K class) 0) (kind_bits 0 (lock_of history p / 64))))
    added h lh room =
        record {
          keeps = record {
            long = simp length-set D.keeps.long;
            past = λ j out.
                get_or-set_other now _ j _ 0 (λ e. let i = cell_inside K class (lock_of history p % 64) lc lh in omega arith) ∙ D.keeps.past j out;
          };
          drawn = λ x core frame is inside v b locks m.
              let e = hit_at v b p n core frame is inside (within x core frame is inside v b locks m) most h in
              rw (e.class, e.mode, add-one) (more x core frame is inside v b locks m e);
        }

    pub committing_step : (after : List ℕ) → EntryDrawn history p K n class now after → lock_of history p % 64 < K → K * K ≤ length before
        → Committing desk history K n class before (p + 1) after
    committing_step after T lh room =
        elim (ℕ_discrete (place_of history p) (suc n)) [
          | yes h ↦ subst (λ (s : List ℕ). Committing desk history K n class before (p + 1) s) (sym (T.drawn h)) (added h lh room)
          | no m ↦ subst (λ (s : List ℕ). Committing desk history K n class before (p + 1) s) (sym (T.missed m)) (passed m)
        ]

  pub committing_done : (p : ℕ) (now : List ℕ) → kept_of desk ≤ p → Committing desk history K n class before p now
      → CommitDrawn desk history K n class before now
  committing_done p now l D =
      record {
        keeps = D.keeps;
        drawn = λ x core frame is inside v b locks m.
            let k = kept_is b v.kept in
            subst (λ (es : History). SheetBytes K (λ f t k. locks f t k || drawn_to class core frame (drop (x.since class) es) f t k) now)
            (since_all x.history p (omega arith)) (D.drawn x core frame is inside v b locks m);
      }
