-- A log that names few classes, none of them a crosslock, is answered alike at as many classes as it names: for the tables of examples. Assumes nothing.
use mathlib.Core.Path.{◌≡◌, refl, sym, ap, ◌∙◌}
use mathlib.Core.Bool.{Bool, true, false, cond, not, ◌&&◌, ◌||◌, false≢true}
use mathlib.Core.List.{List, [], ◌∷◌, ◌++◌}
use mathlib.Core.Logic.{◌⊎◌, inl, inr, ⊎_elim}
use mathlib.Core.Option.{Option, none, some}
use Prim.Native.Nat.{ℕ, zero, suc, ◌-◌, ◌≤◌, ◌<◌, max}
use native.Mathlib.Omega.{arith}
use lib.Dec.{leb, ltb, eqb}
use borrow.Author.Tests.{ltb-true, leb-true, leb-false, eqb-true, lt-ltb, le-leb, lt-leb}
use Rattle.rules.specs.Limits.{interrupt_kinds}
use Rattle.rules.specs.Record.{Bytes, Event, acquire, release, interrupt, cross_acquire, commit, cross_release, cross_event_by, event_by, core_of, kind_of, class_of, mode_of, event_of}
use Rattle.rules.specs.Context.{Frame, frame_of}
use Rattle.rules.specs.HeldLocks.{same_first, same_second, HeldLock, is_try, first_of, second_by, some_held, is_held, release_newest, Core, current, after_event}
use Rattle.rules.specs.Marks.{Level, hard_irq, soft_irq, Usage, safe, unsafe, set_in, letter_fits}
use Rattle.rules.specs.Graph.{Kind, lock, irq, Source, dependency_by, dependency}
use Rattle.rules.specs.Crosslocks.{Crosslocks, drawn_on, after_cross}
use Rattle.rules.specs.StrongPath.{Dependency, StrongPath, one, more}
use Rattle.rules.specs.Decision.{cyclic}
use Rattle.rules.specs.Verdict.{Refusal, closed, malformed, no_class, wrong_sort, no_transition, still_held, not_held, too_deep, in_progress, not_in_progress, list_full, history_full, count_full, refused, number, class_missing, sort_wrong, refusal}
use Rattle.rules.specs.Run.{State, start, situation, accept, Result, step, answers}
use Rattle.rules.proofs.Booleans.{or_cases, or_right, and_cases, and_both}
use Rattle.rules.proofs.Decided.{cyclic_sound, cyclic_complete}
use Rattle.rules.proofs.Steps.{refused_alike, accepted_passes, StepCases, was_refused, was_clean, was_fault, stepped}

-- One more than the highest class below K that a record of the log has, and at least 1.
abbrev pub classes_named : ℕ → List Bytes → ℕ
classes_named K [] = 1
classes_named K (r ∷ rs) = max (cond (ltb (class_of r) K) (suc (class_of r)) 1) (classes_named K rs)

-- Every record's class is below n, or K or more.
abbrev pub all_named : (n K : ℕ) → List Bytes → Bool
all_named n K [] = leb n K
all_named n K (r ∷ rs) = (ltb (class_of r) n || leb K (class_of r)) && all_named n K rs

-- Only classes below n are held, have a mark or a lock dependency.
record HeldBelow (n : ℕ) (hs : List HeldLock) : Type 0 where
  below : (c : ℕ) (test : HeldLock → Bool) → some_held c test hs ≡ true → c < n

record Below (n : ℕ) (s : State) : Type 0 where
  held : (i : ℕ) (f : Frame) → HeldBelow n ((s.cores i).held f)
  locks : (f t : ℕ) (k : Kind) → s.graph.locks f t k ≡ true → (f < n) × (t < n)
  marks : (c : ℕ) (l : Level) (u : Usage) → s.graph.marks c l u ≡ true → c < n
  undeclared : (c : ℕ) → s.cross.declared c ≡ false

start_below : (n : ℕ) → Below n (start (λ c. false))
start_below n =
    record {
      held = λ i f. record { below = λ c test h. absurd (false≢true h) };
      locks = λ f t k h. absurd (false≢true h);
      marks = λ c l u h. absurd (false≢true h);
      undeclared = λ c. refl;
    }

-- ---- One accepted record.

pub append_some : (c : ℕ) (test : HeldLock → Bool) (hs : List HeldLock) (h : HeldLock)
    → some_held c test (hs ++ (h ∷ [])) ≡ true → (some_held c test hs ≡ true) ⊎ ((eqb c h.class && test h) ≡ true)
append_some c test [] h e = ⊎_elim inr (λ x. absurd (false≢true x)) (or_cases (eqb c h.class && test h) false e)
append_some c test (y ∷ hs) h e =
    ⊎_elim (λ x. inl (rw x refl))
    (λ x. ⊎_elim (λ z. inl (or_right (eqb c y.class && test y) z)) (λ z. inr z) (append_some c test hs h x))
    (or_cases (eqb c y.class && test y) (some_held c test (hs ++ (h ∷ []))) e)

pub release_some : (d c : ℕ) (test : HeldLock → Bool) (hs : List HeldLock) → some_held c test (release_newest d hs) ≡ true → some_held c test hs ≡ true
release_some d c test [] e = e
release_some d c test (y ∷ hs) e = by (is_held d hs) (eqb d y.class) (release_some d c test hs) e
  where
    by : (later here : Bool) → (some_held c test (release_newest d hs) ≡ true → some_held c test hs ≡ true)
        → some_held c test (cond later (y ∷ release_newest d hs) (cond here hs (y ∷ hs))) ≡ true
        → ((eqb c y.class && test y) || some_held c test hs) ≡ true
    by true here ih h =
        ⊎_elim (λ x. rw x refl) (λ x. or_right (eqb c y.class && test y) (ih x))
        (or_cases (eqb c y.class && test y) (some_held c test (release_newest d hs)) h)
    by false true ih h = or_right (eqb c y.class && test y) h
    by false false ih h = h

-- The class that an acquire names is below n, and the event is none of a crosslock.
abbrev Names : ℕ → Event → Type 0
Names n (acquire c m) = c < n
Names n (release c m) = Unit {0}
Names n (interrupt e) = Unit {0}
Names n (cross_acquire c) = ⊥
Names n (commit c) = ⊥
Names n (cross_release c) = ⊥

module _ (n : ℕ) (core : Core) (b : (f : Frame) → HeldBelow n (core.held f)) where
  after_below : (ev : Event) → Names n ev → (f : Frame) → HeldBelow n ((after_event ev core).held f)
  after_below (acquire c m) l f = by (eqb f (frame_of core.state))
    where
      by : (t : Bool) → HeldBelow n (cond t (current core ++ (record { class = c; mode = m } ∷ [])) (core.held f))
      by true =
          record {
            below = λ x test h.
                let new : HeldLock = record { class = c; mode = m } in
                ⊎_elim ((b (frame_of core.state)).below x test) (λ z. let e = eqb-true x c (and_cases (eqb x c) (test new) z).0 in omega arith)
                (append_some x test (current core) new h);
          }
      by false = b f
  after_below (release c m) l f = by (eqb f (frame_of core.state))
    where
      by : (t : Bool) → HeldBelow n (cond t (release_newest c (current core)) (core.held f))
      by true = record { below = λ x test h. (b (frame_of core.state)).below x test (release_some c x test (current core) h) }
      by false = b f
  after_below (interrupt e) l f = b f
  after_below (cross_acquire c) l f = absurd l
  after_below (commit c) l f = absurd l
  after_below (cross_release c) l f = absurd l

  drawn_below : (ev : Event) (i : ℕ) (x : Crosslocks) → Names n ev → (f t : ℕ) (k : Kind) → drawn_on ev i core x f t k ≡ true → (f < n) × (t < n)
  drawn_below (acquire c m) i x l f t k h =
      let held : HeldLock → Bool = λ x. same_first k.first (first_of x) in
      let p = and_cases (eqb t c && same_second k.second (second_by m)) (some_held f held (current core)) (and_cases (not (is_try m)) _ h).1 in
      let q = and_cases (eqb t c) (same_second k.second (second_by m)) p.0 in
      ((b (frame_of core.state)).below f held p.1, let e = eqb-true t c q.0 in omega arith)
  drawn_below (release c m) i x l f t k h = absurd (false≢true h)
  drawn_below (interrupt e) i x l f t k h = absurd (false≢true h)
  drawn_below (cross_acquire c) i x l f t k h = absurd l
  drawn_below (commit c) i x l f t k h = absurd l
  drawn_below (cross_release c) i x l f t k h = absurd l

-- No record changes the declarations.
same_declared : (ev : Event) (i : ℕ) (core : Core) (x : Crosslocks) → (after_cross ev i core x).declared ≡ x.declared
same_declared (acquire c m) i core x = refl
same_declared (release c m) i core x = refl
same_declared (interrupt e) i core x = refl
same_declared (cross_acquire c) i core x = refl
same_declared (commit c) i core x = refl
same_declared (cross_release c) i core x = refl

accept_below : (n : ℕ) (s : State) (r : Bytes) → Names n (event_of r) → Below n s → Below n (accept s r)
accept_below n s r l b =
    let core = s.cores (core_of r) in
    let after = after_below n core (b.held (core_of r)) (event_of r) l in
    record {
      held = λ i f. by (eqb i (core_of r)) i f;
      locks = λ f t k h. ⊎_elim (b.locks f t k) (drawn_below n core (b.held (core_of r)) (event_of r) (core_of r) s.cross l f t k) (or_cases (s.graph.locks f t k) _ h);
      marks = λ c x u h.
          ⊎_elim (b.marks c x u)
          (λ z. (after (frame_of (after_event (event_of r) core).state)).below c (letter_fits u) (and_cases (set_in x u (after_event (event_of r) core).state) _ z).1)
          (or_cases (s.graph.marks c x u) _ h);
      undeclared = λ c. ap (λ (d : ℕ → Bool). d c) (same_declared (event_of r) (core_of r) core s.cross) ∙ b.undeclared c;
    }
  where
    by : (t : Bool) (i : ℕ) (f : Frame) → HeldBelow n ((cond t (after_event (event_of r) (s.cores (core_of r))) (s.cores i)).held f)
    by true i f = after_below n (s.cores (core_of r)) (b.held (core_of r)) (event_of r) l f
    by false i f = b.held i f

-- ---- The decision.

module _ (n K : ℕ) (few : n ≤ K) (s : State) (b : Below n s) where
  source_below : (o : Source) (f t : ℕ) (k : Kind) → dependency_by o s.graph f t k ≡ true → (f < n) × (t < n)
  source_below lock f t k h = b.locks f t k h
  source_below (irq l) f t k h =
      let p = and_cases (s.graph.marks t l (safe k.second)) _ h in
      (b.marks f l (unsafe k.first) p.1, b.marks t l (safe k.second) p.0)

  below_step : {f t : ℕ} {k : Kind} → Dependency K s.graph f k t → Dependency n s.graph f k t
  unfolding dependency
  below_step {f} {t} {k} d =
      let p = and_cases (ltb f K && ltb t K) _ d.drawn in
      let r : (f < n) × (t < n) =
      ⊎_elim
      (λ z. ⊎_elim (source_below lock f t k) (source_below (irq hard_irq) f t k) (or_cases (dependency_by lock s.graph f t k) (dependency_by (irq hard_irq) s.graph f t k) z))
      (source_below (irq soft_irq) f t k)
      (or_cases (dependency_by lock s.graph f t k || dependency_by (irq hard_irq) s.graph f t k) (dependency_by (irq soft_irq) s.graph f t k) p.1) in
      record { drawn = and_both (and_both (lt-ltb f n r.0) (lt-ltb t n r.1)) p.1 }

  above_step : {f t : ℕ} {k : Kind} → Dependency n s.graph f k t → Dependency K s.graph f k t
  unfolding dependency
  above_step {f} {t} {k} d =
      let p = and_cases (ltb f n && ltb t n) _ d.drawn in
      let q = and_cases (ltb f n) (ltb t n) p.0 in
      let x = ltb-true f n q.0 in
      let y = ltb-true t n q.1 in
      record { drawn = and_both (and_both (lt-ltb f K (omega arith)) (lt-ltb t K (omega arith))) p.1 }

  below_path : {f t : ℕ} {k l : Kind} → StrongPath K s.graph f k t l → StrongPath n s.graph f k t l
  below_path (one d) = one (below_step d)
  below_path (more d j p) = more (below_step d) j (below_path p)

  above_path : {f t : ℕ} {k l : Kind} → StrongPath n s.graph f k t l → StrongPath K s.graph f k t l
  above_path (one d) = one (above_step d)
  above_path (more d j p) = more (above_step d) j (above_path p)

  same_cyclic : cyclic K s.graph ≡ cyclic n s.graph
  same_cyclic = by (cyclic K s.graph) refl (cyclic n s.graph) refl
    where
      down : cyclic K s.graph ≡ true → cyclic n s.graph ≡ true
      down h =
          let c = cyclic_sound K s.graph h in
          cyclic_complete n s.graph (record { at = c.at; begins = c.begins; ends = c.ends; path = below_path c.path; closing = c.closing })

      up : cyclic n s.graph ≡ true → cyclic K s.graph ≡ true
      up h =
          let c = cyclic_sound n s.graph h in
          cyclic_complete K s.graph (record { at = c.at; begins = c.begins; ends = c.ends; path = above_path c.path; closing = c.closing })

      by : (x : Bool) → cyclic K s.graph ≡ x → (y : Bool) → cyclic n s.graph ≡ y → x ≡ y
      by true e true f = refl
      by false e false f = refl
      by true e false f = absurd (false≢true (sym f ∙ down e))
      by false e true f = absurd (false≢true (sym e ∙ up f))

-- ---- The refusal.

same_missing : (n K : ℕ) (r : Bytes) → n ≤ K → (ltb (class_of r) n || leb K (class_of r)) ≡ true → class_missing K (event_of r) ≡ class_missing n (event_of r)
same_missing n K r few h = by (kind_of r) (mode_of r)
  where
    same : leb K (class_of r) ≡ leb n (class_of r)
    same =
        ⊎_elim (λ z. let l = ltb-true (class_of r) n z in lt-leb K (class_of r) (omega arith) ∙ sym (lt-leb n (class_of r) l))
        (λ z. let l = leb-true K (class_of r) z in le-leb K (class_of r) l ∙ sym (le-leb n (class_of r) (omega arith)))
        (or_cases (ltb (class_of r) n) (leb K (class_of r)) h)

    by : (k m : ℕ) → class_missing K (event_by k (class_of r) m) ≡ class_missing n (event_by k (class_of r) m)
    by zero m = same
    by (suc zero) m = same
    by (suc (suc k)) m = later (ltb k interrupt_kinds) (k - interrupt_kinds)
      where
        later : (b : Bool) (j : ℕ) → class_missing K (cond b (interrupt k) (cross_event_by j (class_of r))) ≡ class_missing n (cond b (interrupt k) (cross_event_by j (class_of r)))
        later true j = refl
        later false zero = same
        later false (suc zero) = same
        later false (suc (suc j)) = same

same_refusal : (n K : ℕ) (s : State) (r : Bytes) → n ≤ K → (ltb (class_of r) n || leb K (class_of r)) ≡ true
    → refusal (situation K s r) ≡ refusal (situation n s r)
same_refusal n K s r few h =
    refused_alike (λ x. false)
    (record {
      same = elim [
        | closed ↦ λ z. refl
        | malformed ↦ λ z. refl
        | no_class ↦ λ z. sym (same_missing n K r few h)
        | wrong_sort ↦ λ z. refl
        | no_transition ↦ λ z. refl
        | still_held ↦ λ z. refl
        | not_held ↦ λ z. refl
        | too_deep ↦ λ z. refl
        | in_progress ↦ λ z. refl
        | not_in_progress ↦ λ z. refl
        | list_full ↦ λ z. refl
        | history_full ↦ λ z. refl
        | count_full ↦ λ z. refl
      ];
      fuller = λ x z. absurd (false≢true z);
    })
    (λ y z. absurd (false≢true z))

undeclared_not : (b : Bool) → b ≡ false → not b ≡ false → ⊥
undeclared_not true e z = false≢true (sym e)
undeclared_not false e z = false≢true (sym z)

-- An accepted record's class is below n.
named_below : (n : ℕ) (d : ℕ → Bool) (ev : Event) → ((c : ℕ) → d c ≡ false) → class_missing n ev ≡ false → sort_wrong d ev ≡ false → Names n ev
named_below n d (acquire c m) u h z = leb-false n c h
named_below n d (release c m) u h z = tt
named_below n d (interrupt e) u h z = tt
named_below n d (cross_acquire c) u h z = undeclared_not (d c) (u c) z
named_below n d (commit c) u h z = undeclared_not (d c) (u c) z
named_below n d (cross_release c) u h z = undeclared_not (d c) (u c) z

-- ---- The answers.

some_same : {x y : Refusal} → ◌≡◌ {A = Option Refusal} (some x) (some y) → x ≡ y
some_same e = cc

none_some : {x : Refusal} → ◌≡◌ {A = Option Refusal} none (some x) → ⊥
none_some e = let z : ◌≡◌ {A = ℕ} 0 1 = cc in absurd (omega arith)

same_step : (n K : ℕ) (s : State) (r : Bytes) → n ≤ K → (ltb (class_of r) n || leb K (class_of r)) ≡ true → Below n s
    → (step K s r ≡ step n s r) × Below n (step n s r).state
same_step n K s r few h b = by (step n s r) (stepped n s r) (step K s r) (stepped K s r)
  where
    e : refusal (situation K s r) ≡ refusal (situation n s r)
    e = same_refusal n K s r few h

    after : refusal (situation n s r) ≡ none → Below n (accept s r)
    after z =
        accept_below n s r
        (named_below n s.cross.declared (event_of r) b.undeclared (accepted_passes (situation n s r) no_class z) (accepted_passes (situation n s r) wrong_sort z)) b

    by : (o : Result) → StepCases n s r o → (p : Result) → StepCases K s r p → (p ≡ o) × Below n o.state
    by o (was_refused x q) p (was_refused y z) = (ap (λ (w : Refusal). record { answer = refused w; state = s }) (some_same (sym z ∙ e ∙ q)), b)
    by o (was_refused x q) p (was_clean y z) = absurd (none_some (sym y ∙ e ∙ q))
    by o (was_refused x q) p (was_fault y z) = absurd (none_some (sym y ∙ e ∙ q))
    by o (was_clean q c) p (was_refused y z) = absurd (none_some (sym q ∙ sym e ∙ z))
    by o (was_clean q c) p (was_clean y z) = (refl, after q)
    by o (was_clean q c) p (was_fault y z) = absurd (false≢true (sym c ∙ sym (same_cyclic n K few (accept s r) (after q)) ∙ z))
    by o (was_fault q c) p (was_refused y z) = absurd (none_some (sym q ∙ sym e ∙ z))
    by o (was_fault q c) p (was_clean y z) = absurd (false≢true (sym z ∙ same_cyclic n K few (accept s r) (after q) ∙ c))
    by o (was_fault q c) p (was_fault y z) = (refl, let w = after q in record { held = w.held; locks = w.locks; marks = w.marks; undeclared = w.undeclared })

named_few : (n K : ℕ) (rs : List Bytes) → all_named n K rs ≡ true → n ≤ K
named_few n K [] h = leb-true n K h
named_few n K (r ∷ rs) h = named_few n K rs (and_cases (ltb (class_of r) n || leb K (class_of r)) _ h).1

same_answers : (n K : ℕ) (s : State) (rs : List Bytes) → all_named n K rs ≡ true → Below n s → answers K s rs ≡ answers n s rs
same_answers n K s [] h b = refl
same_answers n K s (r ∷ rs) h b =
    let p = and_cases (ltb (class_of r) n || leb K (class_of r)) (all_named n K rs) h in
    let q = same_step n K s r (named_few n K rs p.1) p.0 b in
    ap (λ (o : Result). number o.answer ∷ answers K o.state rs) q.0
    ∙ ap (λ (l : List ℕ). number (step n s r).answer ∷ l) (same_answers n K (step n s r).state rs p.1 q.1)

pub few_answers : (n K : ℕ) (rs : List Bytes) → all_named n K rs ≡ true → answers K (start (λ c. false)) rs ≡ answers n (start (λ c. false)) rs
few_answers n K rs h = same_answers n K (start (λ c. false)) rs h (start_below n)
