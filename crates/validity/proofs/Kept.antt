-- Opening gives a valid state, and each record leaves a valid state valid. Assumes nothing.
use mathlib.Core.Path.{◌≡◌, refl, sym}
use mathlib.Core.Bool.{Bool, true, false, cond, not, ◌&&◌, ◌||◌, false≢true}
use mathlib.Core.List.{List, [], ◌∷◌, ◌++◌, Memᴰ}
use mathlib.Core.Logic.{⊎_elim}
use mathlib.Core.Option.{none}
use Prim.Native.Nat.{ℕ, zero, suc, ◌-◌, ◌≤◌, ◌<◌, zero-le, suc-le-suc}
use native.Mathlib.Nat.{le_of_suc-le-suc, not-suc-le-zero}
use native.Mathlib.Omega.{arith}
use lib.Dec.{leb, ltb, eqb}
use lib.ListN.{length, length-append}
use borrow.Author.Tests.{ltb-true, leb-false, eqb-true, ne_eqb}
use Rattle.rules.specs.Limits.{max_classes, max_depth, max_accepted, interrupt_kinds, kind_count, mode_count}
use Rattle.rules.specs.Record.{Bytes, Event, acquire, release, interrupt, cross_acquire, commit, cross_release, cross_event_by, event_by, core_of, kind_of, class_of, mode_of, event_of}
use Rattle.rules.specs.WellFormed.{WellFormed}
use Rattle.rules.specs.Context.{CoreState, leaves_handler, Frame, soft, hard, frame_of, hard_over_soft, may_hold_soft, may_hold_hard, task_soft_off, soft_hard_on}
use Rattle.rules.specs.HeldLocks.{First, HeldLock, is_try, some_held, is_held, release_newest, Core, current, with_current, after_event}
use Rattle.rules.specs.Marks.{Level, hard_irq, soft_irq, Usage, unsafe, set_in, letter_fits, marks_of}
use Rattle.rules.specs.Graph.{Kind, Dependencies, Graph, empty_graph, add_to}
use Rattle.rules.specs.Crosslocks.{Crosslocks, drawn_on}
use Rattle.rules.specs.KindNames.{some_kind}
use Rattle.rules.specs.Verdict.{Refusal, applies, malformed, no_class, wrong_sort, no_transition, still_held, too_deep, list_full, history_full, count_full, class_missing, transition_missing, some_lock, leaves_locked, frame_full, refusal}
use Rattle.rules.specs.Join.{joined_graph, joined_journal, joined_state}
use Rattle.rules.specs.Run.{Journal, empty_journal, with_record, State, starting_from, start, situation, drawn_with, accept, close, Result, step, run}
use Rattle.rules.proofs.Booleans.{or_cases, or_left, or_mono, and_cases, and_mono}
use Rattle.rules.proofs.Formed.{well_formed}
use Rattle.rules.proofs.Journals.{numbered_kept, numbered_joined}
use Rattle.rules.proofs.Steps.{StepCases, was_refused, was_clean, was_fault, stepped, accepted_passes}
use Rattle.validity.specs.Valid.{ValidLock, ValidLocks, ValidCore, ValidGraph, ValidJournal, ValidCross, Valid}
use Rattle.validity.proofs.Crossed.{commit_in_range, valid_declaring, cross_kept}
use Rattle.validity.proofs.Contexts.{event_count, FrameStates, soft_states, hard_states, current_may, next_in_range, next_may, frame_last}

-- ---- Held locks.

no_locks : (K : ℕ) → ValidLocks K []
no_locks K p d l = absurd (not-suc-le-zero l)

cons_valid : (K : ℕ) (h : HeldLock) (hs : List HeldLock) → ValidLock K h → ValidLocks K hs → ValidLocks K (h ∷ hs)
cons_valid K h hs v vs zero d l = v
cons_valid K h hs v vs (suc p) d l = vs p d (le_of_suc-le-suc l)

first_valid : (K : ℕ) (h : HeldLock) (hs : List HeldLock) → ValidLocks K (h ∷ hs) → ValidLock K h
first_valid K h hs v = v zero h (suc-le-suc zero-le)

rest_valid : (K : ℕ) (h : HeldLock) (hs : List HeldLock) → ValidLocks K (h ∷ hs) → ValidLocks K hs
rest_valid K h hs v p d l = v (suc p) d (suc-le-suc l)

-- The same by membership, both ways.
pub member_valid : (K : ℕ) {h : HeldLock} {hs : List HeldLock} → ValidLocks K hs → Memᴰ h hs → ValidLock K h
member_valid K v (Memᴰ.head {x = y} {xs} e) = rw e (first_valid K y xs v)
member_valid K v (Memᴰ.tail {x = y} {xs} m) = member_valid K (rest_valid K y xs v) m

pub members_valid : (K : ℕ) (hs : List HeldLock) → ((h : HeldLock) → Memᴰ h hs → ValidLock K h) → ValidLocks K hs
members_valid K [] v = no_locks K
members_valid K (h ∷ hs) v = cons_valid K h hs (v h (Memᴰ.head refl)) (members_valid K hs (λ y m. v y (Memᴰ.tail m)))

append_valid : (K : ℕ) (hs : List HeldLock) (h : HeldLock) → ValidLocks K hs → ValidLock K h → ValidLocks K (hs ++ (h ∷ []))
append_valid K [] h vs v = cons_valid K h [] v vs
append_valid K (y ∷ hs) h vs v =
    cons_valid K y (hs ++ (h ∷ [])) (first_valid K y hs vs) (append_valid K hs h (rest_valid K y hs vs) v)

release_kept : (K c : ℕ) (hs : List HeldLock) → ValidLocks K hs
    → (length (release_newest c hs) ≤ length hs) × ValidLocks K (release_newest c hs)
release_kept K c [] vs = (zero-le, vs)
release_kept K c (h ∷ hs) vs = by (is_held c hs) (eqb c h.class) (release_kept K c hs (rest_valid K h hs vs))
  where
    by : (later here : Bool) → (length (release_newest c hs) ≤ length hs) × ValidLocks K (release_newest c hs)
        → (length (cond later (h ∷ release_newest c hs) (cond here hs (h ∷ hs))) ≤ suc (length hs))
        × ValidLocks K (cond later (h ∷ release_newest c hs) (cond here hs (h ∷ hs)))
    by true here ih = (suc-le-suc ih.0, cons_valid K h (release_newest c hs) (first_valid K h hs vs) ih.1)
    by false true ih = (omega arith, rest_valid K h hs vs)
    by false false ih = (omega arith, vs)

held_in_range : (K c : ℕ) (test : HeldLock → Bool) (hs : List HeldLock) → ValidLocks K hs → some_held c test hs ≡ true → c < K
held_in_range K c test [] vs h = absurd (false≢true h)
held_in_range K c test (y ∷ hs) vs h =
    ⊎_elim (λ e. rw (eqb-true c y.class (and_cases (eqb c y.class) (test y) e).0) (first_valid K y hs vs).class)
    (held_in_range K c test hs (rest_valid K y hs vs))
    (or_cases (eqb c y.class && test y) (some_held c test hs) h)

-- ---- A core over one accepted event.

no_lock : (hs : List HeldLock) → some_lock hs ≡ false → 0 < length hs → ⊥
no_lock [] h l = not-suc-le-zero l
no_lock (y ∷ hs) h l = false≢true (sym h)

-- What the form of a record says of its event.
abbrev InLimits : Event → Type 0
InLimits (acquire c m) = m < mode_count
InLimits (release c m) = Unit {0}
InLimits (interrupt e) = e < event_count
InLimits (cross_acquire c) = Unit {0}
InLimits (commit c) = Unit {0}
InLimits (cross_release c) = Unit {0}

cross_in_limits : (k c : ℕ) → InLimits (cross_event_by k c)
cross_in_limits zero c = tt
cross_in_limits (suc zero) c = tt
cross_in_limits (suc (suc k)) c = tt

event_in_limits : (k c m : ℕ) → k < kind_count → m < mode_count → InLimits (event_by k c m)
event_in_limits zero c m h l = l
event_in_limits (suc zero) c m h l = tt
event_in_limits (suc (suc k)) c m h l = by (ltb k interrupt_kinds) refl
  where
    by : (b : Bool) → ltb k interrupt_kinds ≡ b → InLimits (cond b (interrupt k) (cross_event_by (k - interrupt_kinds) c))
    by true e = ltb-true k interrupt_kinds e
    by false e = cross_in_limits (k - interrupt_kinds) c

in_limits : (r : Bytes) → WellFormed r → InLimits (event_of r)
in_limits r w = event_in_limits (kind_of r) (class_of r) (mode_of r) w.kind w.mode

-- The frame holds a lock only in the states that pass the test.
record HeldOnlyIn (f : Frame) (may : CoreState → Bool) (c : Core) : Type 0 where
  only : 0 < length (c.held f) → may c.state ≡ true

module _ {f : Frame} {may : CoreState → Bool} (t : FrameStates f may) (c : Core) (s : c.state ≤ hard_over_soft) (v : HeldOnlyIn f may c) where
  current_only : (hs : List HeldLock) → HeldOnlyIn f may (with_current c hs)
  current_only hs = record { only = by (eqb f (frame_of c.state)) refl }
    where
      by : (b : Bool) → eqb f (frame_of c.state) ≡ b → 0 < length (cond b hs (c.held f)) → may c.state ≡ true
      by true e l = current_may t c.state s e
      by false e l = v.only l

  next_only : (e : ℕ) → e < event_count → transition_missing c (interrupt e) ≡ false → leaves_locked c (interrupt e) ≡ false
      → HeldOnlyIn f may (after_event (interrupt e) c)
  next_only e l m q = record { only = λ p. next_may t c.state e s l m (by (leaves_handler e) refl (eqb f (frame_of c.state)) refl p) (v.only p) }
    where
      -- A handler is left only with its frame empty.
      by : (leaves : Bool) → leaves_handler e ≡ leaves → (here : Bool) → eqb f (frame_of c.state) ≡ here → 0 < length (c.held f)
          → (leaves && here) ≡ false
      by true a true b p = absurd (no_lock (current c) (rw (a, m) at q) (rw (eqb-true f (frame_of c.state) b) at p))
      by true a false b p = refl
      by false a here b p = refl

module _ (K : ℕ) (c : Core) (v : ValidCore K c) where
  soft_only : HeldOnlyIn soft may_hold_soft c
  soft_only = record { only = v.soft_held }

  hard_only : HeldOnlyIn hard may_hold_hard c
  hard_only = record { only = v.hard_held }

  current_kept : (hs : List HeldLock) → length hs ≤ max_depth → ValidLocks K hs → ValidCore K (with_current c hs)
  current_kept hs l vs =
      record {
        states = v.states;
        depths = λ f. depth (eqb f (frame_of c.state)) f;
        locks = λ f. lock (eqb f (frame_of c.state)) f;
        soft_held = (current_only soft_states c v.states soft_only hs).only;
        hard_held = (current_only hard_states c v.states hard_only hs).only;
        no_more = λ f l. let k = frame_last c.state v.states in rw (ne_eqb f (frame_of c.state) (λ e. omega arith)) (v.no_more f l);
      }
    where
      depth : (b : Bool) (f : Frame) → length (cond b hs (c.held f)) ≤ max_depth
      depth true f = l
      depth false f = v.depths f

      lock : (b : Bool) (f : Frame) → ValidLocks K (cond b hs (c.held f))
      lock true f = vs
      lock false f = v.locks f

  core_kept : (ev : Event) → InLimits ev → class_missing K ev ≡ false → transition_missing c ev ≡ false → leaves_locked c ev ≡ false
      → frame_full c ev ≡ false → ValidCore K (after_event ev c)
  core_kept (acquire a m) i n t q d =
      current_kept (current c ++ (record { class = a; mode = m } ∷ []))
      (let p = leb-false max_depth (length (current c)) d in rw length-append (omega arith))
      (append_valid K (current c) (record { class = a; mode = m }) (v.locks (frame_of c.state))
      (record { class = leb-false K a n; mode = i }))
  core_kept (release a m) i n t q d =
      let p = release_kept K a (current c) (v.locks (frame_of c.state)) in
      current_kept (release_newest a (current c)) (let o = v.depths (frame_of c.state) in omega arith) p.1
  core_kept (interrupt e) i n t q d =
      record {
        states = next_in_range soft_states c.state e v.states i t;
        depths = v.depths;
        locks = v.locks;
        soft_held = (next_only soft_states c v.states soft_only e i t q).only;
        hard_held = (next_only hard_states c v.states hard_only e i t q).only;
        no_more = v.no_more;
      }
  core_kept (cross_acquire a) i n t q d = v
  core_kept (commit a) i n t q d = v
  core_kept (cross_release a) i n t q d = v

  -- The classes that a valid core marks, and those between which its event draws dependencies, are in range.
  marked_in_range : (a : ℕ) (l : Level) (u : Usage) → marks_of c a l u ≡ true → a < K
  marked_in_range a l u h = held_in_range K a (letter_fits u) (current c) (v.locks (frame_of c.state)) (and_cases (set_in l u c.state) _ h).1

  drawn_in_range : (ev : Event) (i : ℕ) (x : Crosslocks) → ValidCross K x → class_missing K ev ≡ false
      → (f t : ℕ) (k : Kind) → drawn_on ev i c x f t k ≡ true → (f < K) × (t < K)
  drawn_in_range (acquire a m) i x w n f t k h =
      let p = and_cases _ _ (and_cases (not (is_try m)) _ h).1 in (
        held_in_range K f _ (current c) (v.locks (frame_of c.state)) p.1,
        rw (eqb-true t a (and_cases _ _ p.0).0) (leb-false K a n),
      )
  drawn_in_range (release a m) i x w n f t k h = absurd (false≢true h)
  drawn_in_range (interrupt e) i x w n f t k h = absurd (false≢true h)
  drawn_in_range (cross_acquire a) i x w n f t k h =
      let p = and_cases _ _ h in (
        held_in_range K f _ (current c) (v.locks (frame_of c.state)) p.1,
        rw (eqb-true t a (and_cases _ _ p.0).0) (leb-false K a n),
      )
  drawn_in_range (commit a) i x w n f t k h = commit_in_range K a i (frame_of c.state) x w (leb-false K a n) f t k h
  drawn_in_range (cross_release a) i x w n f t k h = absurd (false≢true h)

-- Soft-unsafe is set in one state, in which hard-unsafe is set too.
marked_unsafe : (c : Core) (a : ℕ) (i : First) → marks_of c a soft_irq (unsafe i) ≡ true → marks_of c a hard_irq (unsafe i) ≡ true
marked_unsafe c a i =
    and_mono (set_in soft_irq (unsafe i) c.state) (some_held a (letter_fits (unsafe i)) (current c))
    (λ h. or_left (eqb c.state soft_hard_on) (or_left (eqb c.state task_soft_off) h))
    (λ h. h)

graph_kept : (K : ℕ) (g : Graph) (ev : Event) (i : ℕ) (c : Core) (x : Crosslocks) → ValidGraph K g → ValidCore K c → ValidCross K x
    → ValidCore K (after_event ev c) → class_missing K ev ≡ false → ValidGraph K (add_to g (drawn_on ev i c x) (marks_of (after_event ev c)))
graph_kept K g ev i c x w v u after n =
    record {
      marks_in_range = λ a l u h.
          ⊎_elim (w.marks_in_range a l u) (marked_in_range K (after_event ev c) after a l u) (or_cases (g.marks a l u) _ h);
      soft_unsafe = λ a l. or_mono (g.marks a soft_irq (unsafe l)) _ (w.soft_unsafe a l) (marked_unsafe (after_event ev c) a l);
      locks_in_range = λ f t k h. ⊎_elim (w.locks_in_range f t k) (drawn_in_range K c v ev i x u n f t k) (or_cases (g.locks f t k) _ h);
    }

-- ---- States.

pub valid_starting_from : (K : ℕ) (d : ℕ → Bool) (g : Graph) (j : Journal) → ((c : ℕ) → d c ≡ true → c < K) → ValidGraph K g
    → ValidJournal g.locks j → Valid K (starting_from d g j)
valid_starting_from K d g j small w v =
    record {
      cores = λ i. record {
        states = zero-le;
        depths = λ f. zero-le;
        locks = λ f. no_locks K;
        soft_held = λ l. absurd (not-suc-le-zero l);
        hard_held = λ l. absurd (not-suc-le-zero l);
        no_more = λ f l. refl;
      };
      no_more = λ i l. refl;
      graph = w;
      cross = valid_declaring K d small;
      journal = v;
    }

pub valid_start : (K : ℕ) (d : ℕ → Bool) → ((c : ℕ) → d c ≡ true → c < K) → Valid K (start d)
valid_start K d small =
    valid_starting_from K d empty_graph empty_journal small
    (record {
      marks_in_range = λ c l u h. absurd (false≢true h);
      soft_unsafe = λ c a h. absurd (false≢true h);
      locks_in_range = λ f t k h. absurd (false≢true h);
    })
    (record { limit = zero-le; at_most = λ f t. zero-le; numbered = λ f t. refl })

-- ---- Two benches joined.

graphs_joined : (K : ℕ) (g h : Graph) → ValidGraph K g → ValidGraph K h → ValidGraph K (joined_graph g h)
graphs_joined K g h v w =
    record {
      marks_in_range = λ a l u e. ⊎_elim (v.marks_in_range a l u) (w.marks_in_range a l u) (or_cases (g.marks a l u) _ e);
      soft_unsafe = λ a i. or_mono (g.marks a soft_irq (unsafe i)) _ (v.soft_unsafe a i) (w.soft_unsafe a i);
      locks_in_range = λ f t k e. ⊎_elim (v.locks_in_range f t k) (w.locks_in_range f t k) (or_cases (g.locks f t k) _ e);
    }

journals_joined : (d e : Dependencies) (i j : Journal) → ValidJournal d i → ValidJournal e j
    → ValidJournal (λ f t k. d f t k || e f t k) (joined_journal i j)
journals_joined d e i j v w =
    record {
      limit = zero-le;
      at_most = λ f t. by (eqb (i.seen f t) 0) f t;
      numbered = λ f t. numbered_joined (i.seen f t) (j.seen f t) (d f t) (e f t) (v.numbered f t) (w.numbered f t);
    }
  where
    by : (b : Bool) (f t : ℕ) → cond b (j.seen f t) (i.seen f t) ≤ max_accepted
    by true f t = w.at_most f t
    by false f t = v.at_most f t

pub valid_joined : {K : ℕ} {s t : State} → Valid K s → Valid K t → Valid K (joined_state s t)
valid_joined {K} {s} {t} v w =
    valid_starting_from K s.cross.declared (joined_graph s.graph t.graph) (joined_journal s.journal t.journal) v.cross.declared
    (graphs_joined K s.graph t.graph v.graph w.graph)
    (journals_joined s.graph.locks t.graph.locks s.journal t.journal v.journal w.journal)

-- An accepted record's number is one more than the count, which is below its limit.
journal_kept : (locks drawn : Dependencies) (j : Journal) → ValidJournal locks j → leb max_accepted j.accepted ≡ false
    → ValidJournal (λ f t k. locks f t k || drawn f t k) (with_record drawn j)
journal_kept locks drawn j v h =
    record {
      limit = let l = leb-false max_accepted j.accepted h in omega arith;
      at_most = λ f t. by (eqb (j.seen f t) 0 && some_kind (drawn f t)) f t;
      numbered = λ f t. numbered_kept j locks drawn f t (v.numbered f t);
    }
  where
    by : (b : Bool) (f t : ℕ) → cond b (suc j.accepted) (j.seen f t) ≤ max_accepted
    by true f t = let l = leb-false max_accepted j.accepted h in omega arith
    by false f t = v.at_most f t

pub valid_accept : (K : ℕ) (s : State) (r : Bytes) → K ≤ max_classes → Valid K s → refusal (situation K s r) ≡ none → Valid K (accept s r)
valid_accept K s r few v h =
    record {
      cores = λ i. by (eqb i (core_of r)) i;
      no_more = λ i l. let c = formed.core in rw (ne_eqb i (core_of r) (λ e. omega arith)) (v.no_more i l);
      graph =
          graph_kept K s.graph (event_of r) (core_of r) (s.cores (core_of r)) s.cross v.graph (v.cores (core_of r)) v.cross after (passes no_class);
      cross =
          cross_kept K s.cross v.cross (event_of r) (core_of r) (s.cores (core_of r)) few formed.core (v.cores (core_of r)).states (passes no_class)
          (passes wrong_sort) (passes list_full) (passes history_full);
      journal = journal_kept s.graph.locks (drawn_with (s.cores (core_of r)) s.cross r) s.journal v.journal (passes count_full);
    }
  where
    passes : (x : Refusal) → applies x (situation K s r) ≡ false
    passes x = accepted_passes (situation K s r) x h

    formed : WellFormed r
    formed = well_formed r (passes malformed)

    after : ValidCore K (after_event (event_of r) (s.cores (core_of r)))
    after =
        core_kept K (s.cores (core_of r)) (v.cores (core_of r)) (event_of r) (in_limits r formed) (passes no_class)
        (passes no_transition) (passes still_held) (passes too_deep)

    by : (b : Bool) (i : ℕ) → ValidCore K (cond b (after_event (event_of r) (s.cores (core_of r))) (s.cores i))
    by true i = after
    by false i = v.cores i

pub valid_close : {K : ℕ} {s : State} → Valid K s → Valid K (close s)
valid_close v = record { cores = v.cores; no_more = v.no_more; graph = v.graph; cross = v.cross; journal = v.journal }

stepped_valid : {K : ℕ} {s : State} {r : Bytes} {o : Result} → K ≤ max_classes → StepCases K s r o → Valid K s → Valid K o.state
stepped_valid few (was_refused x e) v = v
stepped_valid {K} {s} {r} few (was_clean e q) v = valid_accept K s r few v e
stepped_valid {K} {s} {r} few (was_fault e q) v = valid_close (valid_accept K s r few v e)

pub valid_step : (K : ℕ) (s : State) (r : Bytes) → K ≤ max_classes → Valid K s → Valid K (step K s r).state
valid_step K s r few v = stepped_valid few (stepped K s r) v

pub valid_run : (K : ℕ) (s : State) (rs : List Bytes) → K ≤ max_classes → Valid K s → Valid K (run K s rs)
valid_run K s [] few v = v
valid_run K s (r ∷ rs) few v = valid_run K (step K s r).state rs few (valid_step K s r few v)
