-- The crosslocks over one accepted event: they stay in their limits, and what a commit draws is in range. Assumes nothing.
use mathlib.Core.Path.{◌≡◌, refl}
use mathlib.Core.Bool.{Bool, true, false, cond, not, ◌&&◌, ◌||◌, false≢true}
use mathlib.Core.List.{[], ◌∷◌, ◌++◌, map}
use mathlib.Core.Logic.{⊎_elim}
use mathlib.Core.Option.{Option, none, some}
use Prim.Native.Nat.{ℕ, zero, suc, ◌≤◌, ◌<◌, zero-le, suc-le-suc}
use native.Mathlib.Nat.{le_of_suc-le-suc, not-suc-le-zero}
use native.Mathlib.Omega.{arith}
use lib.Dec.{leb, eqb}
use lib.ListN.{length, get_or, drop, length-append, length-map}
use borrow.Author.Tests.{leb-false, eqb-true, ne_eqb, not-true, not-false}
use Rattle.rules.specs.Limits.{core_count, max_classes, max_accepted, max_in_progress, max_kept, held_modes}
use Rattle.rules.specs.Record.{Event, acquire, release, interrupt, cross_acquire, commit, cross_release}
use Rattle.rules.specs.Context.{Frame, frame_of, hard_over_soft, leaves_handler}
use Rattle.rules.specs.HeldLocks.{E, same_first, Core, is_try}
use Rattle.rules.specs.Graph.{Kind}
use Rattle.rules.specs.Crosslocks.{Kept, History, Crosslocks, declaring, count_below, size_of, is_idle, with, without, some_kept, committed, drawn_by_commit, strike, is_kept, with_history, entered, ended, after_cross}
use Rattle.rules.specs.Verdict.{class_missing, sort_wrong, no_place, no_room}
use Rattle.rules.proofs.Booleans.{or_cases, or_none, and_cases}
use Rattle.validity.specs.Valid.{ValidEntry, struck, counts, ValidCross}
use Rattle.validity.proofs.Contexts.{frame_last}

-- ---- Sizes of sets.

-- A set within another is not larger; one that may have c besides has one more at most.
pub count_within : (n : ℕ) (p q : ℕ → Bool) → ((x : ℕ) → p x ≡ true → q x ≡ true) → count_below n p ≤ count_below n q
unfolding count_below
count_within zero p q m = zero-le
count_within (suc n) p q m = by (p zero) (q zero) (m zero) (count_within n (λ x. p (suc x)) (λ x. q (suc x)) (λ x. m (suc x)))
  where
    by : (a b : Bool) → (a ≡ true → b ≡ true) → count_below n (λ x. p (suc x)) ≤ count_below n (λ x. q (suc x))
        → cond a (suc (count_below n (λ x. p (suc x)))) (count_below n (λ x. p (suc x)))
        ≤ cond b (suc (count_below n (λ x. q (suc x)))) (count_below n (λ x. q (suc x)))
    by true true h l = omega arith
    by true false h l = absurd (false≢true (h refl))
    by false true h l = omega arith
    by false false h l = l

pub count_besides : (n c : ℕ) (p q : ℕ → Bool) → ((x : ℕ) → (x ≡ c → ⊥) → p x ≡ true → q x ≡ true) → count_below n p ≤ suc (count_below n q)
unfolding count_below
count_besides zero c p q m = zero-le
count_besides (suc n) zero p q m =
    by (p zero) (q zero) (count_within n (λ x. p (suc x)) (λ x. q (suc x)) (λ x. m (suc x) (λ e. omega arith)))
  where
    by : (a b : Bool) → count_below n (λ x. p (suc x)) ≤ count_below n (λ x. q (suc x))
        → cond a (suc (count_below n (λ x. p (suc x)))) (count_below n (λ x. p (suc x)))
        ≤ suc (cond b (suc (count_below n (λ x. q (suc x)))) (count_below n (λ x. q (suc x))))
    by true true l = omega arith
    by true false l = omega arith
    by false true l = omega arith
    by false false l = omega arith
count_besides (suc n) (suc c) p q m =
    by (p zero) (q zero) (m zero (λ e. omega arith)) (count_besides n c (λ x. p (suc x)) (λ x. q (suc x)) (λ x d. m (suc x) (λ e. d (omega arith))))
  where
    by : (a b : Bool) → (a ≡ true → b ≡ true) → count_below n (λ x. p (suc x)) ≤ suc (count_below n (λ x. q (suc x)))
        → cond a (suc (count_below n (λ x. p (suc x)))) (count_below n (λ x. p (suc x)))
        ≤ suc (cond b (suc (count_below n (λ x. q (suc x)))) (count_below n (λ x. q (suc x))))
    by true true h l = omega arith
    by true false h l = absurd (false≢true (h refl))
    by false true h l = omega arith
    by false false h l = l

-- ---- The history.

abbrev pub ValidEntries : ℕ → History → Type 0
ValidEntries K es = (i : ℕ) → i < length es → ValidEntry K (get_or es i none)

no_entries : (K : ℕ) → ValidEntries K []
no_entries K i l = absurd (not-suc-le-zero l)

rest_entries : (K : ℕ) (a : Option Kept) (es : History) → ValidEntries K (a ∷ es) → ValidEntries K es
rest_entries K a es v i l = v (suc i) (suc-le-suc l)

cons_entries : (K : ℕ) (a : Option Kept) (es : History) → ValidEntry K a → ValidEntries K es → ValidEntries K (a ∷ es)
cons_entries K a es v vs zero l = v
cons_entries K a es v vs (suc i) l = vs i (le_of_suc-le-suc l)

append_entries : (K : ℕ) (es : History) (a : Option Kept) → ValidEntries K es → ValidEntry K a → ValidEntries K (es ++ (a ∷ []))
append_entries K [] a vs v = cons_entries K a [] v vs
append_entries K (b ∷ es) a vs v = cons_entries K b (es ++ (a ∷ [])) (vs zero (suc-le-suc zero-le)) (append_entries K es a (rest_entries K b es vs) v)

strike_valid : (K i : ℕ) (f : Frame) (a : Option Kept) → ValidEntry K a → ValidEntry K (strike i f a)
strike_valid K i f none v = v
strike_valid K i f (some e) v = by (eqb i e.core && eqb f e.frame)
  where
    by : (b : Bool) → ValidEntry K (cond b none (some e))
    by true = struck
    by false = v

pub strike_entries : (K i : ℕ) (f : Frame) (es : History) → ValidEntries K es → ValidEntries K (map (strike i f) es)
strike_entries K i f [] vs = vs
strike_entries K i f (a ∷ es) vs =
    cons_entries K (strike i f a) (map (strike i f) es) (strike_valid K i f a (vs zero (suc-le-suc zero-le))) (strike_entries K i f es (rest_entries K a es vs))

drop_entries : (K n : ℕ) (es : History) → ValidEntries K es → ValidEntries K (drop n es)
drop_entries K zero [] vs = vs
drop_entries K zero (a ∷ es) vs = vs
drop_entries K (suc n) [] vs = vs
drop_entries K (suc n) (a ∷ es) vs = drop_entries K n es (rest_entries K a es vs)

entry_class : (K : ℕ) (e : Kept) → ValidEntry K (some e) → e.class < K
entry_class K e (counts c f l m) = l

-- What a test that names the class t finds has a class below K.
kept_in_range : (K t : ℕ) (test : Kept → Bool) → ((e : Kept) → test e ≡ true → t ≡ e.class) → (es : History) → ValidEntries K es
    → some_kept test es ≡ true → t < K
kept_in_range K t test is [] vs h = absurd (false≢true h)
kept_in_range K t test is (none ∷ es) vs h = kept_in_range K t test is es (rest_entries K none es vs) h
kept_in_range K t test is (some e ∷ es) vs h =
    ⊎_elim (λ q. rw (is e q) (entry_class K e (vs zero (suc-le-suc zero-le)))) (kept_in_range K t test is es (rest_entries K (some e) es vs))
    (or_cases (test e) (some_kept test es) h)

pub commit_in_range : (K c i : ℕ) (frame : Frame) (x : Crosslocks) → ValidCross K x → c < K → (f t : ℕ) (k : Kind)
    → drawn_by_commit c i frame x f t k ≡ true → (f < K) × (t < K)
commit_in_range K c i frame x v l f t k h =
    let p = and_cases (eqb f c) _ h in
    let named : (e : Kept) → committed i frame t k.second e ≡ true → t ≡ e.class =
    λ e q. eqb-true t e.class (and_cases (eqb t e.class) _ (and_cases (eqb frame e.frame) _ (and_cases (eqb i e.core) _ q).1).1).0 in (
      rw (eqb-true f c p.0) l,
      kept_in_range K t (committed i frame t k.second) named (drop (x.since c) x.history) (drop_entries K (x.since c) x.history v.entries)
          (and_cases (same_first k.first E) _ p.1).1,
    )

-- ---- An accepted event.

pub valid_declaring : (K : ℕ) (d : ℕ → Bool) → ((c : ℕ) → d c ≡ true → c < K) → ValidCross K (declaring d)
unfolding count_below
valid_declaring K d small =
    record {
      declared = small;
      progress = λ c h. absurd (false≢true h);
      few = zero-le;
      kept = zero-le;
      since = λ c. zero-le;
      no_more = λ c l. refl;
      entries = no_entries K;
    }

module _ (K : ℕ) (x : Crosslocks) (v : ValidCross K x) where
  history_kept : (es : History) → length es ≤ max_kept → ValidEntries K es → ValidCross K (with_history x es)
  history_kept es l vs =
      record { declared = v.declared; progress = v.progress; few = v.few; kept = l; since = v.since; no_more = v.no_more; entries = vs }

  acquire_kept : (e : Kept) → (b : Bool) → (b ≡ true → ValidEntry K (some e)) → (b && leb max_kept (length x.history)) ≡ false
      → ValidCross K (with_history x (cond b (x.history ++ (some e ∷ [])) x.history))
  acquire_kept e true w h =
      history_kept (x.history ++ (some e ∷ []))
      (let p = leb-false max_kept (length x.history) h in rw length-append (omega arith))
      (append_entries K x.history (some e) v.entries (w refl))
  acquire_kept e false w h = history_kept x.history v.kept v.entries

  leave_kept : (i : ℕ) (f : Frame) (b : Bool) → ValidCross K (with_history x (cond b (map (strike i f) x.history) x.history))
  leave_kept i f true =
      history_kept (map (strike i f) x.history) (let l = v.kept in rw length-map l) (strike_entries K i f x.history v.entries)
  leave_kept i f false = history_kept x.history v.kept v.entries

  entered_kept : (c : ℕ) → c < max_classes → x.declared c ≡ true → size_of x.progress < max_in_progress → ValidCross K (entered c x)
  entered_kept c l d few =
      record {
        declared = v.declared;
        progress = λ a h. ⊎_elim (λ e. rw (eqb-true a c e) d) (v.progress a) (or_cases (eqb a c) (x.progress a) h);
        few = let n = count_besides max_classes c (with c x.progress) x.progress (λ a o h. other a o h) in omega arith;
        kept = v.kept;
        since = λ a. since_by (eqb a c) a;
        no_more = λ a m. rw (ne_eqb a c (λ e. omega arith)) (v.no_more a m);
        entries = v.entries;
      }
    where
      other : (a : ℕ) → (a ≡ c → ⊥) → with c x.progress a ≡ true → x.progress a ≡ true
      other a o h = rw (ne_eqb a c o) at h

      since_by : (b : Bool) (a : ℕ) → cond b (length x.history) (x.since a) ≤ max_accepted
      since_by true a = let k = v.kept in omega arith
      since_by false a = v.since a

  ended_kept : (c : ℕ) → ValidCross K (ended c x)
  ended_kept c =
      record {
        declared = v.declared;
        progress = λ a h. v.progress a (still a h);
        few = let n = count_within max_classes (without c x.progress) x.progress still in let k = v.few in omega arith;
        kept = kept_by (is_idle (without c x.progress));
        since = v.since;
        no_more = v.no_more;
        entries = entries_by (is_idle (without c x.progress));
      }
    where
      still : (a : ℕ) → without c x.progress a ≡ true → x.progress a ≡ true
      still a h = (and_cases (not (eqb a c)) (x.progress a) h).1

      kept_by : (b : Bool) → length (cond b [] x.history) ≤ max_kept
      kept_by true = zero-le
      kept_by false = v.kept

      entries_by : (b : Bool) → ValidEntries K (cond b [] x.history)
      entries_by true = no_entries K
      entries_by false = v.entries

  pub cross_kept : (ev : Event) (i : ℕ) (core : Core) → K ≤ max_classes → i < core_count → core.state ≤ hard_over_soft → class_missing K ev ≡ false
      → sort_wrong x.declared ev ≡ false → no_place x ev ≡ false → no_room x ev ≡ false → ValidCross K (after_cross ev i core x)
  cross_kept (acquire c m) i core few l s n w p r =
      acquire_kept (record { core = i; frame = frame_of core.state; class = c; mode = m }) (is_kept x m)
      (λ h. counts l (frame_last core.state s) (leb-false K c n)
      (leb-false held_modes m (or_none (is_idle x.progress) (is_try m) (not-true (is_idle x.progress || is_try m) h)).1))
      r
  cross_kept (release c m) i core few l s n w p r = v
  cross_kept (interrupt e) i core few l s n w p r = leave_kept i (frame_of core.state) (leaves_handler e)
  cross_kept (cross_acquire c) i core few l s n w p r =
      entered_kept c (let q = leb-false K c n in omega arith) (not-false (x.declared c) w) (leb-false max_in_progress (size_of x.progress) p)
  cross_kept (commit c) i core few l s n w p r = v
  cross_kept (cross_release c) i core few l s n w p r = ended_kept c
