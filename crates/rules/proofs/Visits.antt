-- The history has exactly the kept acquires whose visit has not ended, whatever the number of visits. Assumes nothing.
use mathlib.Core.Path.{◌≡◌, refl, sym, ◌∙◌, ap, ap₂, subst}
use mathlib.Core.Bool.{Bool, true, false, cond, ◌&&◌}
use mathlib.Core.List.{List, [], ◌∷◌, ◌++◌, map}
use mathlib.Core.Option.{Option, none, some}
use Prim.Native.Nat.{ℕ, suc, ◌≤◌}
use native.Mathlib.Nat.{le_refl}
use native.Mathlib.Omega.{arith}
use lib.Dec.{eqb}
use borrow.Author.Tests.{eq-eqb, ne_eqb}
use Rattle.rules.specs.Record.{Bytes, Event, acquire, release, interrupt, cross_acquire, commit, cross_release, core_of, event_of}
use Rattle.rules.specs.Context.{Frame, frame_of, leaves_handler}
use Rattle.rules.specs.HeldLocks.{Core}
use Rattle.rules.specs.Crosslocks.{Kept, History, Crosslocks, is_idle, is_kept, strike, without, after_cross}
use Rattle.rules.specs.Graph.{Graph}
use Rattle.rules.specs.Verdict.{Refusal, refusal}
use Rattle.rules.specs.Run.{Journal, State, starting_from, situation, accept, Result, step, run}
use Rattle.rules.specs.Visits.{Numbered, Track, counting, track_on, track_by, track, untracked}
use Rattle.rules.proofs.Steps.{StepCases, was_refused, was_clean, was_fault, stepped}

-- No acquire is of a visit to come.
data Past (over : ℕ → Frame → ℕ) : List Numbered → Type 0 where
  no_acquire : Past over []
  an_acquire : {n : Numbered} {ns : List Numbered} → n.visit ≤ over n.kept.core n.kept.frame → Past over ns → Past over (n ∷ ns)

pub record Tracked (h : History) (t : Track) : Type 0 where
  pub history : h ≡ map (counting t.over) t.acquires
  past : Past t.over t.acquires

map_append : (f : Numbered → Option Kept) (ns : List Numbered) (n : Numbered) → map f (ns ++ (n ∷ [])) ≡ map f ns ++ (f n ∷ [])
map_append f [] n = refl
map_append f (m ∷ ns) n = ap (λ (es : History). f m ∷ es) (map_append f ns n)

past_append : {over : ℕ → Frame → ℕ} (ns : List Numbered) (n : Numbered) → Past over ns → n.visit ≤ over n.kept.core n.kept.frame
    → Past over (ns ++ (n ∷ []))
past_append [] n p l = an_acquire l no_acquire
past_append (m ∷ ns) n (an_acquire k p) l = an_acquire k (past_append ns n p l)

-- The end of a visit.
module _ (i : ℕ) (frame : Frame) (over : ℕ → Frame → ℕ) where
  abbrev later : ℕ → Frame → ℕ
  later j f = cond (eqb i j && eqb frame f) (suc (over j f)) (over j f)

  struck_one : (n : Numbered) → n.visit ≤ over n.kept.core n.kept.frame → strike i frame (counting over n) ≡ counting later n
  struck_one n l = by (eqb i n.kept.core && eqb frame n.kept.frame) refl (eqb n.visit (over n.kept.core n.kept.frame)) refl
    where
      by : (b : Bool) → (eqb i n.kept.core && eqb frame n.kept.frame) ≡ b
          → (c : Bool) → eqb n.visit (over n.kept.core n.kept.frame) ≡ c → strike i frame (counting over n) ≡ counting later n
      by true e c q =
          let no : eqb n.visit (suc (over n.kept.core n.kept.frame)) ≡ false =
          ne_eqb n.visit (suc (over n.kept.core n.kept.frame)) (λ z. omega arith) in
          rw (e, no) (none_left c q)
        where
          none_left : (c : Bool) → eqb n.visit (over n.kept.core n.kept.frame) ≡ c → strike i frame (counting over n) ≡ none
          none_left true q = rw (q, e)
          none_left false q = rw q
      by false e true q = rw (e, q, e)
      by false e false q = rw (e, q)

  struck_all : (ns : List Numbered) → Past over ns → map (strike i frame) (map (counting over) ns) ≡ map (counting later) ns
  struck_all [] p = refl
  struck_all (n ∷ ns) (an_acquire l p) = ap₂ ◌∷◌ (struck_one n l) (struck_all ns p)

  later_past : (ns : List Numbered) → Past over ns → Past later ns
  later_past [] p = no_acquire
  later_past (n ∷ ns) (an_acquire l p) = an_acquire (by (eqb i n.kept.core && eqb frame n.kept.frame)) (later_past ns p)
    where
      by : (b : Bool) → n.visit ≤ cond b (suc (over n.kept.core n.kept.frame)) (over n.kept.core n.kept.frame)
      by true = omega arith
      by false = l

tracked_on : (ev : Event) (i : ℕ) (core : Core) (x : Crosslocks) (t : Track) → Tracked x.history t
    → Tracked (after_cross ev i core x).history (track_on ev i core x t)
tracked_on (acquire c m) i core x t p = by (is_kept x m)
  where
    k : Kept
    k = record { core = i; frame = frame_of core.state; class = c; mode = m }

    n : Numbered
    n = record { kept = k; visit = t.over i (frame_of core.state) }

    by : (b : Bool) → Tracked (cond b (x.history ++ (some k ∷ [])) x.history) (record { over = t.over; acquires = cond b (t.acquires ++ (n ∷ [])) t.acquires })
    by false = p
    by true =
        let now : counting t.over n ≡ some k = rw (eq-eqb n.visit n.visit refl) in
        record {
          history = ap (λ (h : History). h ++ (some k ∷ [])) p.history
              ∙ ap (λ (e : Option Kept). map (counting t.over) t.acquires ++ (e ∷ [])) (sym now) ∙ sym (map_append (counting t.over) t.acquires n);
          past = past_append t.acquires n p.past (le_refl n.visit);
        }
tracked_on (release c m) i core x t p = p
tracked_on (interrupt e) i core x t p = by (leaves_handler e)
  where
    f : Frame
    f = frame_of core.state

    by : (b : Bool)
        → Tracked (cond b (map (strike i f) x.history) x.history)
        (record { over = cond b (later i f t.over) t.over; acquires = t.acquires })
    by true =
        record {
          history = ap (map (strike i f)) p.history ∙ struck_all i f t.over t.acquires p.past;
          past = later_past i f t.over t.acquires p.past;
        }
    by false = p
tracked_on (cross_acquire c) i core x t p = record { history = p.history; past = p.past }
tracked_on (commit c) i core x t p = p
tracked_on (cross_release c) i core x t p = by (is_idle (without c x.progress))
  where
    by : (b : Bool) → Tracked (cond b [] x.history) (record { over = t.over; acquires = cond b [] t.acquires })
    by true = record { history = refl; past = no_acquire }
    by false = p

tracked_step : {K : ℕ} {s : State} {r : Bytes} {o : Result} (t : Track) → Tracked s.cross.history t → StepCases K s r o
    → Tracked o.state.cross.history (track_by s r t (refusal (situation K s r)))
tracked_step {s} {r} t p (was_refused x e) = subst (λ (y : Option Refusal). Tracked s.cross.history (track_by s r t y)) (sym e) p
tracked_step {s} {r} t p (was_clean e c) =
    subst (λ (y : Option Refusal). Tracked (accept s r).cross.history (track_by s r t y)) (sym e)
    (tracked_on (event_of r) (core_of r) (s.cores (core_of r)) s.cross t p)
tracked_step {s} {r} t p (was_fault e c) =
    subst (λ (y : Option Refusal). Tracked (accept s r).cross.history (track_by s r t y)) (sym e)
    (tracked_on (event_of r) (core_of r) (s.cores (core_of r)) s.cross t p)

tracked_run : (K : ℕ) (s : State) (rs : List Bytes) (t : Track) → Tracked s.cross.history t → Tracked (run K s rs).cross.history (track K s rs t)
tracked_run K s [] t p = p
tracked_run K s (r ∷ rs) t p = tracked_run K (step K s r).state rs (track_by s r t (refusal (situation K s r))) (tracked_step t p (stepped K s r))

-- From opening, and from a join: at any record the history is the kept acquires, in their order, each struck out exactly when its visit has ended.
pub struck_exactly : (K : ℕ) (d : ℕ → Bool) (g : Graph) (j : Journal) (rs : List Bytes)
    → Tracked (run K (starting_from d g j) rs).cross.history (track K (starting_from d g j) rs untracked)
struck_exactly K d g j rs = tracked_run K (starting_from d g j) rs untracked (record { history = refl; past = no_acquire })
