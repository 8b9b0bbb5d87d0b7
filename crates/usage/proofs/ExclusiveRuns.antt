-- A log of exclusive acquires draws an exclusive graph; so its faults are document 002's broken rules. Assumes nothing.
use mathlib.Core.Path.{◌≡◌, refl}
use mathlib.Core.Bool.{Bool, true, false, not, cond, ◌&&◌, false≢true}
use mathlib.Core.List.Memᴰ
use mathlib.Core.List.{List, [], ◌∷◌, ◌++◌, map, Memᴰ}
use mathlib.Core.Logic.{◌⊎◌, ⊎_elim, ◌↔◌}
use mathlib.Core.Option.{none, some}
use Prim.Native.Nat.{ℕ, zero, suc, ◌<◌}
use lib.Dec.{eqb}
use lib.ListN.{length, get_or, take, drop}
use native.Mathlib.Omega.{arith}
use borrow.Author.Tests.{ne_eqb}
use Rattle.rules.specs.Record.{Bytes, Event, acquire, release, interrupt, cross_acquire, commit, cross_release, core_of, event_of, is_malformed}
use Rattle.rules.specs.Context.{Frame, frame_of, leaves_handler, task_both_on, task_soft_off, soft_hard_on}
use Rattle.rules.specs.HeldLocks.{First, Second, E, S, R, N, same_first, same_second, held_as, first_in, second_in, HeldLock, first_of, second_of, first_by, second_by, is_try, some_held, release_newest, Core, current, after_event}
use Rattle.rules.specs.Marks.{Level, hard_irq, soft_irq, safe, unsafe, set_in, letter_fits, marks_of}
use Rattle.rules.specs.Graph.{Kind}
use Rattle.rules.specs.KindNames.{EN}
use Rattle.rules.specs.Crosslocks.{Kept, History, Crosslocks, is_idle, is_kept, some_kept, committed, drawn_on, strike, without, after_cross}
use Rattle.rules.specs.StrongPath.{ClosedStrongPath}
use Rattle.rules.specs.Verdict.{malformed}
use Rattle.rules.specs.Run.{State, start, situation, accept, Result, step, answers, run, graph_at}
use Rattle.rules.proofs.Booleans.{or_cases, or_left, or_right, or_mono, and_cases, and_both, and_mono}
use Rattle.rules.proofs.FewClasses.{append_some, release_some}
use Rattle.rules.proofs.Histories.{kept_mono, since_only, strike_only}
use Rattle.rules.proofs.Steps.{StepCases, was_refused, was_clean, was_fault, stepped, accepted_passes, fault_exactly}
use Rattle.usage.specs.UsageRules.{Broken, Exclusive, SoftBringsHard, is_exclusive, ExclusiveLog}
use Rattle.usage.proofs.BrokenRules.{broken_exactly}

-- ---- Modes and letters.

abbrev read_mode : ℕ → Bool
read_mode m = not (eqb (held_as m) 0)

some_read : (n : ℕ) → not (eqb (suc n) 0) ≡ true
some_read n = rw (ne_eqb (suc n) 0 (λ e. absurd (omega arith)))

-- An exclusive lock has the letters E and N.
shared_read : (m : ℕ) → same_first S (first_by m) ≡ true → read_mode m ≡ true
shared_read m = by (held_as m)
  where
    by : (n : ℕ) → same_first S (first_in n) ≡ true → not (eqb n 0) ≡ true
    by zero h = absurd (false≢true h)
    by (suc n) h = some_read n

recursive_read : (m : ℕ) → same_second R (second_by m) ≡ true → read_mode m ≡ true
recursive_read m = by (held_as m)
  where
    by : (n : ℕ) → same_second R (second_in n) ≡ true → not (eqb n 0) ≡ true
    by zero h = absurd (false≢true h)
    by (suc n) h = some_read n

kind_is : (k : Kind) → (k.first ≡ S → ⊥) → (k.second ≡ R → ⊥) → k ≡ EN
kind_is k p q = λ i. record { first = first_is k.first p i; second = second_is k.second q i }
  where
    first_is : (a : First) → (a ≡ S → ⊥) → a ≡ E
    first_is E h = refl
    first_is S h = absurd (h refl)

    second_is : (b : Second) → (b ≡ R → ⊥) → b ≡ N
    second_is N h = refl
    second_is R h = absurd (h refl)

-- ---- No lock is held or kept by a read.

record NoRead (hs : List HeldLock) : Type 0 where
  none_held : (c : ℕ) → some_held c (λ h. read_mode h.mode) hs ≡ true → ⊥

held_mono : {t t' : HeldLock → Bool} → ((h : HeldLock) → t h ≡ true → t' h ≡ true) → (c : ℕ) (hs : List HeldLock) → some_held c t hs ≡ true → some_held c t' hs ≡ true
held_mono m c [] x = absurd (false≢true x)
held_mono {t} {t'} m c (h ∷ hs) x =
    or_mono (eqb c h.class && t h) (some_held c t hs) (and_mono (eqb c h.class) (t h) (λ z. z) (m h)) (held_mono m c hs) x

record NoneKept (es : History) : Type 0 where
  none_kept : some_kept (λ e. read_mode e.mode) es ≡ true → ⊥

drop_some : (t : Kept → Bool) (n : ℕ) (es : History) → some_kept t (drop n es) ≡ true → some_kept t es ≡ true
drop_some t zero es x = x
drop_some t (suc n) [] x = x
drop_some t (suc n) (none ∷ es) x = drop_some t n es x
drop_some t (suc n) (some e ∷ es) x = or_right (t e) (drop_some t n es x)

record OnlyExclusive (core : Core) : Type 0 where
  frames : (f : Frame) → NoRead (core.held f)

exclusive_read : (m : ℕ) → eqb (held_as m) 0 ≡ true → read_mode m ≡ true → ⊥
exclusive_read m x y = false≢true (rw x at y)

-- ---- One event.

module _ (core : Core) (p : OnlyExclusive core) where
  event_core : (ev : Event) → is_exclusive ev ≡ true → OnlyExclusive (after_event ev core)
  event_core (acquire c m) x = record { frames = λ f. by (eqb f (frame_of core.state)) f }
    where
      new : HeldLock
      new = record { class = c; mode = m }

      by : (b : Bool) (f : Frame) → NoRead (cond b (current core ++ (new ∷ [])) (core.held f))
      by true f =
          record {
            none_held = λ d h.
                ⊎_elim ((p.frames (frame_of core.state)).none_held d) (λ z. exclusive_read m x (and_cases (eqb d c) (read_mode m) z).1)
                (append_some d (λ h. read_mode h.mode) (current core) new h);
          }
      by false f = p.frames f
  event_core (release c m) x = record { frames = λ f. by (eqb f (frame_of core.state)) f }
    where
      by : (b : Bool) (f : Frame) → NoRead (cond b (release_newest c (current core)) (core.held f))
      by true f = record { none_held = λ d h. (p.frames (frame_of core.state)).none_held d (release_some c d (λ h. read_mode h.mode) (current core) h) }
      by false f = p.frames f
  event_core (interrupt e) x = record { frames = p.frames }
  event_core (cross_acquire c) x = p
  event_core (commit c) x = p
  event_core (cross_release c) x = p

  -- Held locks meet no test that only reads meet.
  none_meets : (c : ℕ) (t : HeldLock → Bool) → ((h : HeldLock) → t h ≡ true → read_mode h.mode ≡ true) → some_held c t (current core) ≡ true → ⊥
  none_meets c t m x = (p.frames (frame_of core.state)).none_held c (held_mono m c (current core) x)

  marked_safe : (c : ℕ) (l : Level) (b : Second) → marks_of core c l (safe b) ≡ true → b ≡ N
  marked_safe c l N x = refl
  marked_safe c l R x =
      absurd (none_meets c (letter_fits (safe R)) (λ h y. recursive_read h.mode (and_cases (not (is_try h.mode)) (same_second R (second_of h)) y).1)
      (and_cases (set_in l (safe R) core.state) _ x).1)

  marked_unsafe : (c : ℕ) (l : Level) (a : First) → marks_of core c l (unsafe a) ≡ true → a ≡ E
  marked_unsafe c l E x = refl
  marked_unsafe c l S x =
      absurd (none_meets c (letter_fits (unsafe S)) (λ h y. shared_read h.mode y) (and_cases (set_in l (unsafe S) core.state) _ x).1)

  -- What is drawn from held locks to a lock that waits as N.
  held_first : (f : ℕ) (k : Kind) → some_held f (λ h. same_first k.first (first_of h)) (current core) ≡ true → k.first ≡ S → ⊥
  held_first f k x e = none_meets f (λ h. same_first k.first (first_of h)) (λ h y. shared_read h.mode (rw e at y)) x

  drawn_exclusive : (ev : Event) → is_exclusive ev ≡ true → (i : ℕ) (x : Crosslocks) → NoneKept x.history → (f t : ℕ) (k : Kind) → drawn_on ev i core x f t k ≡ true
      → k ≡ EN
  drawn_exclusive (acquire c m) o i x q f t k y =
      let held : HeldLock → Bool = λ h. same_first k.first (first_of h) in
      let u = and_cases (eqb t c && same_second k.second (second_by m)) (some_held f held (current core)) (and_cases (not (is_try m)) _ y).1 in
      let v = and_cases (eqb t c) (same_second k.second (second_by m)) u.0 in
      kind_is k (held_first f k u.1) (λ e. exclusive_read m o (recursive_read m (rw e at v.1)))
  drawn_exclusive (release c m) o i x q f t k y = absurd (false≢true y)
  drawn_exclusive (interrupt e) o i x q f t k y = absurd (false≢true y)
  drawn_exclusive (cross_acquire c) o i x q f t k y =
      let held : HeldLock → Bool = λ h. same_first k.first (first_of h) in
      let u = and_cases (eqb t c && same_second k.second N) (some_held f held (current core)) y in
      let v = and_cases (eqb t c) (same_second k.second N) u.0 in
      kind_is k (held_first f k u.1) (λ e. false≢true (rw e at v.1))
  drawn_exclusive (commit c) o i x q f t k y =
      let test : Kept → Bool = committed i (frame_of core.state) t k.second in
      let u = and_cases (eqb f c) _ y in
      let v = and_cases (same_first k.first E) (some_kept test (drop (x.since c) x.history)) u.1 in
      kind_is k (λ e. false≢true (rw e at v.0))
      (λ e. q.none_kept (kept_mono (reads e) x.history (drop_some test (x.since c) x.history v.1)))
    where
      reads : k.second ≡ R → (a : Kept) → committed i (frame_of core.state) t k.second a ≡ true → read_mode a.mode ≡ true
      reads e a z =
          let n = and_cases (eqb i a.core) _ z in
          let o = and_cases (eqb (frame_of core.state) a.frame) _ n.1 in
          recursive_read a.mode (rw e at (and_cases (eqb t a.class) _ o.1).1)
  drawn_exclusive (cross_release c) o i x q f t k y = absurd (false≢true y)

event_kept : (ev : Event) → is_exclusive ev ≡ true → (i : ℕ) (core : Core) (x : Crosslocks) → NoneKept x.history → NoneKept (after_cross ev i core x).history
event_kept (acquire c m) o i core x q = by (is_kept x m)
  where
    new : Kept
    new = record { core = i; frame = frame_of core.state; class = c; mode = m }

    by : (b : Bool) → NoneKept (cond b (x.history ++ (some new ∷ [])) x.history)
    by true = record { none_kept = λ h. ⊎_elim q.none_kept (exclusive_read m o) (since_only (λ e. read_mode e.mode) new 0 x.history h) }
    by false = q
event_kept (release c m) o i core x q = q
event_kept (interrupt e) o i core x q = by (leaves_handler e)
  where
    by : (b : Bool) → NoneKept (cond b (map (strike i (frame_of core.state)) x.history) x.history)
    by true =
        record {
          none_kept = λ h.
              q.none_kept (kept_mono (λ e z. (and_cases (read_mode e.mode) _ z).0) x.history
              (strike_only i (frame_of core.state) (λ e. read_mode e.mode) x.history h));
        }
    by false = q
event_kept (cross_acquire c) o i core x q = q
event_kept (commit c) o i core x q = q
event_kept (cross_release c) o i core x q = by (is_idle (without c x.progress))
  where
    by : (b : Bool) → NoneKept (cond b [] x.history)
    by true = record { none_kept = λ h. false≢true h }
    by false = q

-- "softirq-unsafe .. automatically hardirq-unsafe": soft interrupts are enabled only where hard ones are.
marked_both : (c : ℕ) (core : Core) → marks_of core c soft_irq (unsafe E) ≡ true → marks_of core c hard_irq (unsafe E) ≡ true
marked_both c core x =
    let p = and_cases (eqb core.state task_both_on) (some_held c (letter_fits (unsafe E)) (current core)) x in
    and_both (or_left (eqb core.state soft_hard_on) (or_left (eqb core.state task_soft_off) p.0)) p.1

-- ---- A run.

record Only (s : State) : Type 0 where
  cores : (i : ℕ) → OnlyExclusive (s.cores i)
  kept : NoneKept s.cross.history
  graph : Exclusive s.graph
  soft_hard : SoftBringsHard s.graph

only_accept : (s : State) (r : Bytes) → is_exclusive (event_of r) ≡ true → Only s → Only (accept s r)
only_accept s r o p =
    record {
      cores = λ i. by (eqb i j) i;
      kept = event_kept (event_of r) o j (s.cores j) s.cross p.kept;
      graph = record {
        locks = λ f t k y.
            ⊎_elim (p.graph.locks f t k) (drawn_exclusive (s.cores j) (p.cores j) (event_of r) o j s.cross p.kept f t k) (or_cases (s.graph.locks f t k) _ y);
        safes = λ c l b y. ⊎_elim (p.graph.safes c l b) (marked_safe after then c l b) (or_cases (s.graph.marks c l (safe b)) _ y);
        unsafes = λ c l a y. ⊎_elim (p.graph.unsafes c l a) (marked_unsafe after then c l a) (or_cases (s.graph.marks c l (unsafe a)) _ y);
      };
      soft_hard = record {
        soft_unsafe = λ c. or_mono (s.graph.marks c soft_irq (unsafe E)) (marks_of after c soft_irq (unsafe E)) (p.soft_hard.soft_unsafe c) (marked_both c after);
      };
    }
  where
    j : ℕ
    j = core_of r

    after : Core
    after = after_event (event_of r) (s.cores j)

    then : OnlyExclusive after
    then = event_core (s.cores j) (p.cores j) (event_of r) o

    by : (b : Bool) (i : ℕ) → OnlyExclusive (cond b after (s.cores i))
    by true i = then
    by false i = p.cores i

-- An accepted record is well-formed.
only_step : {K : ℕ} {s : State} {r : Bytes} {o : Result} → (is_malformed r ≡ false → is_exclusive (event_of r) ≡ true) → Only s → StepCases K s r o → Only o.state
only_step x p (was_refused y e) = p
only_step {K} {s} {r} x p (was_clean e c) = only_accept s r (x (accepted_passes (situation K s r) malformed e)) p
only_step {K} {s} {r} x p (was_fault e c) =
    let q = only_accept s r (x (accepted_passes (situation K s r) malformed e)) p in
    record { cores = q.cores; kept = q.kept; graph = q.graph; soft_hard = q.soft_hard }

only_run : (K : ℕ) (s : State) (rs : List Bytes) → ExclusiveLog rs → Only s → Only (run K s rs)
only_run K s [] x p = p
only_run K s (r ∷ rs) x p =
    only_run K (step K s r).state rs (record { each = λ y m. x.each y (Memᴰ.tail m) }) (only_step (x.each r (Memᴰ.head refl)) p (stepped K s r))

taken : (n : ℕ) (rs : List Bytes) {r : Bytes} → Memᴰ r (take n rs) → Memᴰ r rs
taken zero rs m = absurd (Memᴰ.not-nil m)
taken (suc n) [] m = m
taken (suc n) (x ∷ rs) (Memᴰ.head e) = Memᴰ.head e
taken (suc n) (x ∷ rs) (Memᴰ.tail m) = Memᴰ.tail (taken n rs m)

only_start : (d : ℕ → Bool) → Only (start d)
only_start d =
    record {
      cores = λ i. record { frames = λ f. record { none_held = λ c h. false≢true h } };
      kept = record { none_kept = λ h. false≢true h };
      graph = record {
        locks = λ f t k y. absurd (false≢true y);
        safes = λ c l b y. absurd (false≢true y);
        unsafes = λ c l a y. absurd (false≢true y);
      };
      soft_hard = record { soft_unsafe = λ c y. y };
    }

-- The graph at a record.
only_at : (K : ℕ) (d : ℕ → Bool) (rs : List Bytes) (i : ℕ) → ExclusiveLog rs → Only (run K (start d) (take (suc i) rs))
only_at K d rs i x = only_run K (start d) (take (suc i) rs) (record { each = λ r m. x.each r (taken (suc i) rs m) }) (only_start d)

-- "a fault stands exactly when document 002's rules are broken", of the graph at a record.
pub graph_exactly : (K : ℕ) (d : ℕ → Bool) (rs : List Bytes) (i : ℕ) → ExclusiveLog rs → ClosedStrongPath K (graph_at K (start d) rs i) ↔ Broken K (graph_at K (start d) rs i)
graph_exactly K d rs i x = let o = only_at K d rs i x in broken_exactly K (graph_at K (start d) rs i) o.graph o.soft_hard

-- The same of the answer to an accepted record.
pub rules_exactly : (K : ℕ) (d : ℕ → Bool) (rs : List Bytes) (i : ℕ) → ExclusiveLog rs → i < length rs
    → (get_or (answers K (start d) rs) i 0 ≡ 0) ⊎ (get_or (answers K (start d) rs) i 0 ≡ 1)
    → (get_or (answers K (start d) rs) i 0 ≡ 1) ↔ Broken K (graph_at K (start d) rs i)
rules_exactly K d rs i x l accepted =
    let f = fault_exactly K (start d) rs i l accepted in
    let b = graph_exactly K d rs i x in
    (λ h. b.0 (f.0 h), λ h. f.1 (b.1 h))
