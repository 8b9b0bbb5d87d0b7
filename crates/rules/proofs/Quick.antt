-- The answers of a list of records, with the marks kept in lists, and decided only where a class may be on a cycle: the same, and quicker to compute. For the tables of examples. Assumes nothing.
use mathlib.Core.Path.{◌≡◌, refl, sym, ap, ◌∙◌, subst, fun_ext}
use mathlib.Core.Bool.{Bool, true, false, cond, ◌&&◌, ◌||◌, false≢true}
use mathlib.Core.List.{List, [], ◌∷◌}
use mathlib.Core.Option.{Option, none, some}
use Prim.Native.Nat.{ℕ, zero, suc, ◌<◌}
use native.Mathlib.Nat.{not-suc-le-zero}
use native.Mathlib.Decide.{ℕ_discrete}
use native.Mathlib.Omega.{arith}
use lib.Dec.{ltb}
use lib.ListN.{get_or}
use borrow.Author.Tests.{ltb-true}
use Rattle.rules.specs.Record.{Bytes}
use Rattle.rules.specs.HeldLocks.{First, Second, E, S, R, N}
use Rattle.rules.specs.Marks.{Level, hard_irq, soft_irq, Usage, safe, unsafe, Marks}
use Rattle.rules.specs.Graph.{Kind, Graph, dependency}
use Rattle.rules.specs.KindNames.{ER, EN, SR, SN, some_kind}
use Rattle.rules.specs.StrongPath.{Dependency, StrongPath, one, more, ClosedStrongPath}
use Rattle.rules.specs.Decision.{tabulate, cyclic}
use Rattle.rules.specs.Verdict.{Refusal, number, refusal}
use Rattle.rules.specs.Run.{State, situation, accept, Result, decided, settled, step, answers, run}
use Rattle.rules.proofs.Booleans.{and_cases, and_both, or_left, or_right}
use Rattle.rules.proofs.Decided.{cyclic_sound}
use Rattle.rules.proofs.Closure.{get_d_tabulate}

abbrev pub place_of : Level → Usage → ℕ
place_of hard_irq (safe N) = 0
place_of hard_irq (safe R) = 1
place_of hard_irq (unsafe E) = 2
place_of hard_irq (unsafe S) = 3
place_of soft_irq (safe N) = 4
place_of soft_irq (safe R) = 5
place_of soft_irq (unsafe E) = 6
place_of soft_irq (unsafe S) = 7

-- The marks of a class.
abbrev pub flags_of : Marks → ℕ → List Bool
flags_of m c =
    m c hard_irq (safe N) ∷ m c hard_irq (safe R) ∷ m c hard_irq (unsafe E) ∷ m c hard_irq (unsafe S)
    ∷ m c soft_irq (safe N) ∷ m c soft_irq (safe R) ∷ m c soft_irq (unsafe E) ∷ m c soft_irq (unsafe S) ∷ []

flag_at : (m : Marks) (c : ℕ) (l : Level) (u : Usage) → get_or (flags_of m c) (place_of l u) false ≡ m c l u
flag_at m c hard_irq (safe N) = refl
flag_at m c hard_irq (safe R) = refl
flag_at m c hard_irq (unsafe E) = refl
flag_at m c hard_irq (unsafe S) = refl
flag_at m c soft_irq (safe N) = refl
flag_at m c soft_irq (safe R) = refl
flag_at m c soft_irq (unsafe E) = refl
flag_at m c soft_irq (unsafe S) = refl

abbrev pub kept : ℕ → List (List Bool) → Marks → Marks
kept K flags m c l u = cond (ltb c K) (get_or (get_or flags c []) (place_of l u) false) (m c l u)

abbrev pub keep : ℕ → State → State
keep K s =
    let flags = tabulate K (flags_of s.graph.marks) in
    record {
      is_closed = s.is_closed;
      cores = s.cores;
      graph = record { locks = s.graph.locks; marks = kept K flags s.graph.marks };
      cross = s.cross;
      journal = s.journal;
    }

kept_same : (K : ℕ) (m : Marks) (c : ℕ) (l : Level) (u : Usage) → kept K (tabulate K (flags_of m)) m c l u ≡ m c l u
kept_same K m c l u = by (ltb c K) refl
  where
    by : (b : Bool) → ltb c K ≡ b → cond b (get_or (get_or (tabulate K (flags_of m)) c []) (place_of l u) false) (m c l u) ≡ m c l u
    by true h = rw (get_d_tabulate K (flags_of m) [] c (ltb-true c K h)) (flag_at m c l u)
    by false h = refl

keep_same : (K : ℕ) (s : State) → keep K s ≡ s
keep_same K s =
    ap (λ (m : Marks). record { is_closed = s.is_closed; cores = s.cores; graph = record { locks = s.graph.locks; marks = m }; cross = s.cross; journal = s.journal })
    (fun_ext (λ c. fun_ext (λ l. fun_ext (λ u. kept_same K s.graph.marks c l u))))

-- ---- A class on a closed path has a dependency to it and one from it. Where no class has both, nothing has to be decided.

abbrev some_below : ℕ → (ℕ → Bool) → Bool
some_below zero test = false
some_below (suc n) test = test n || some_below n test

some_below_lem : (n : ℕ) (test : ℕ → Bool) (i : ℕ) → i < n → test i ≡ true → some_below n test ≡ true
some_below_lem zero test i l h = absurd (not-suc-le-zero l)
some_below_lem (suc n) test i l h =
    elim (ℕ_discrete i n) [
      | yes e ↦ or_left (some_below n test) (subst (λ (j : ℕ). test j ≡ true) e h)
      | no e ↦ or_right (test n) (some_below_lem n test i (omega arith) h)
    ]

abbrev joins : ℕ → Graph → ℕ → ℕ → Bool
joins K g f t = some_kind (dependency K g f t)

abbrev pub some_passed : ℕ → Graph → Bool
some_passed K g = some_below K (λ c. some_below K (λ f. joins K g f c) && some_below K (joins K g c))

kind_some : (d : Kind → Bool) (a : First) (b : Second) → d (record { first = a; second = b }) ≡ true → some_kind d ≡ true
kind_some d E R h = rw h refl
kind_some d E N h = or_left (d SR || d SN) (or_right (d ER) h)
kind_some d S R h = or_right (d ER || d EN) (rw h refl)
kind_some d S N h = or_right (d ER || d EN) (or_right (d SR) h)

record Step (K : ℕ) (g : Graph) (f t : ℕ) : Type 0 where
  from_less : f < K
  to_less : t < K
  there : joins K g f t ≡ true

step_of : {K : ℕ} {g : Graph} {f t : ℕ} {k : Kind} → Dependency K g f k t → Step K g f t
unfolding dependency
step_of {K} {g} {f} {t} {k} d =
    let p = and_cases (ltb f K) (ltb t K) (and_cases (ltb f K && ltb t K) _ d.drawn).0 in
    record { from_less = ltb-true f K p.0; to_less = ltb-true t K p.1; there = kind_some (dependency K g f t) k.first k.second d.drawn }

record Ends (K : ℕ) (g : Graph) (f t : ℕ) : Type 0 where
  next : ℕ
  first : Step K g f next
  before : ℕ
  last : Step K g before t

ends_of : {K : ℕ} {g : Graph} {f t : ℕ} {k l : Kind} → StrongPath K g f k t l → Ends K g f t
ends_of {f = f} {t} (one d) = record { next = t; first = step_of d; before = f; last = step_of d }
ends_of (more {m = m} d j p) = let e = ends_of p in record { next = m; first = step_of d; before = e.before; last = e.last }

passed_by : {K : ℕ} {g : Graph} → ClosedStrongPath K g → some_passed K g ≡ true
passed_by {K} {g} c =
    let e = ends_of c.path in
    some_below_lem K (λ c. some_below K (λ f. joins K g f c) && some_below K (joins K g c)) c.at e.first.from_less
    (and_both (some_below_lem K (λ f. joins K g f c.at) e.before e.last.from_less e.last.there)
    (some_below_lem K (joins K g c.at) e.next e.first.to_less e.first.there))

abbrev pub quick_cyclic : ℕ → Graph → Bool
quick_cyclic K g = cond (some_passed K g) (cyclic K g) false

quick_cyclic_lem : (K : ℕ) (g : Graph) → quick_cyclic K g ≡ cyclic K g
quick_cyclic_lem K g = by (some_passed K g) refl (cyclic K g) refl
  where
    by : (p : Bool) → some_passed K g ≡ p → (c : Bool) → cyclic K g ≡ c → cond p c false ≡ c
    by true e c h = refl
    by false e true h = absurd (false≢true (sym e ∙ passed_by (cyclic_sound K g h)))
    by false e false h = refl

-- An accepted record, decided over what is kept.
abbrev pub quick_settled : ℕ → State → Bytes → Option Refusal → Result
quick_settled K s r (some why) = settled K s r (some why)
quick_settled K s r none = let t = keep K (accept s r) in decided (quick_cyclic K t.graph) t

quick_settled_lem : (K : ℕ) (s : State) (r : Bytes) (w : Option Refusal) → quick_settled K s r w ≡ settled K s r w
quick_settled_lem K s r (some why) = refl
quick_settled_lem K s r none =
    ap (λ (t : State). decided (quick_cyclic K t.graph) t) (keep_same K (accept s r))
    ∙ ap (λ (b : Bool). decided b (accept s r)) (quick_cyclic_lem K (accept s r).graph)

abbrev pub quickly : ℕ → State → List Bytes → List ℕ
quickly K s [] = []
quickly K s (r ∷ rs) = let o = quick_settled K s r (refusal (situation K s r)) in number o.answer ∷ quickly K o.state rs

pub quickly_same : (K : ℕ) (s : State) (rs : List Bytes) → quickly K s rs ≡ answers K s rs
quickly_same K s [] = refl
quickly_same K s (r ∷ rs) =
    ap (λ (o : Result). number o.answer ∷ quickly K o.state rs) (quick_settled_lem K s r (refusal (situation K s r)))
    ∙ ap (λ (ns : List ℕ). number (step K s r).answer ∷ ns) (quickly_same K (step K s r).state rs)

-- The state in which they leave, the same way.
abbrev pub quick_state : ℕ → State → List Bytes → State
quick_state K s [] = s
quick_state K s (r ∷ rs) = quick_state K (quick_settled K s r (refusal (situation K s r))).state rs

pub quick_state_lem : (K : ℕ) (s : State) (rs : List Bytes) → quick_state K s rs ≡ run K s rs
quick_state_lem K s [] = refl
quick_state_lem K s (r ∷ rs) =
    ap (λ (o : Result). quick_state K o.state rs) (quick_settled_lem K s r (refusal (situation K s r))) ∙ quick_state_lem K (step K s r).state rs
