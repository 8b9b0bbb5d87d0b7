-- There is a reported cycle exactly when there is a closed strong path. Assumes nothing.
use mathlib.Core.Path.{◌≡◌, refl, ◌∙◌}
use mathlib.Core.Bool.{true, ◌&&◌, ◌||◌}
use mathlib.Core.List.{List, [], ◌∷◌, ◌++◌}
use mathlib.Core.Logic.{⊎_elim, ◌↔◌}
use Prim.Native.Nat.{ℕ, zero, suc, ◌<◌, ◌≤◌}
use native.Mathlib.Omega.{arith}
use native.Mathlib.Decide.{ℕ_discrete, dec_lt}
use lib.Dec.{ltb}
use lib.ListN.{length, get_or-append}
use lib.Seq.{get_or_at}
use borrow.Author.Tests.{lt-ltb, le-ltb}
use Rattle.rules.specs.HeldLocks.{Second}
use Rattle.rules.specs.Marks.{hard_irq, soft_irq}
use Rattle.rules.specs.Graph.{Kind, Graph, Source, lock, irq, dependency_by, dependency}
use Rattle.rules.specs.StrongPath.{strong_joint, Dependency, Joint, StrongPath, one, more, ClosedStrongPath}
use Rattle.rules.specs.Cycle.{Entry, entry_at, following, Cycle}
use Rattle.rules.proofs.Booleans.{or_cases, and_cases}
use Rattle.rules.proofs.Decided.{in_range}
use Rattle.rules.proofs.Cycles.{cycle_sound}
use Rattle.rules.specs.Rounds.{Leg, Route, stay, pass, Round}
use Rattle.rules.proofs.Rounds.{Shorter, repeats, turned}
use Rattle.rules.proofs.Pigeons.{some_below, pigeons}

pub source_of : (K : ℕ) (g : Graph) (f t : ℕ) (k : Kind) → dependency K g f t k ≡ true → (o : Source) × (dependency_by o g f t k ≡ true)
unfolding dependency
source_of K g f t k h =
    ⊎_elim (λ x. ⊎_elim (λ y. (lock, y)) (λ y. (irq hard_irq, y)) (or_cases (dependency_by lock g f t k) _ x)) (λ x. (irq soft_irq, x))
    (or_cases (dependency_by lock g f t k || dependency_by (irq hard_irq) g f t k) _ (and_cases (ltb f K && ltb t K) _ h).1)

-- The entry behind the last is the first.
pub following_at : (es : List Entry) (i : ℕ) → i < length es → entry_at (es ++ entry_at es 0 ∷ []) (suc i) ≡ following es i
following_at es i l = elim (dec_lt (suc i) (length es)) [
  | yes k ↦ rw (lt-ltb (suc i) (length es) k) (get_or-append es _ _ (suc i) k)
  | no k ↦ rw (le-ltb (suc i) (length es) (omega arith)) (get_or_at es _ [] _ (suc i) (omega arith))
]

-- Entry e leads to entry f, and is strong there.
pub record Leads (K : ℕ) (g : Graph) (e f : Entry) : Type 0 where
  pub leg : Leg K g e f.class
  pub strong : Joint e.kind f.kind

module _ {K : ℕ} {g : Graph} where
  -- ---- A closed strong path is a round.

  abbrev entry_of : {f t : ℕ} {k : Kind} → Dependency K g f k t → Entry
  entry_of {f} {t} {k} d = record { class = f; kind = k; source = (source_of K g f t k d.drawn).0 }

  leg_of : {f t : ℕ} {k : Kind} (d : Dependency K g f k t) → Leg K g (entry_of d) t
  leg_of {f} {t} {k} d =
      let l = in_range K g f t k d.drawn in
      record { in_range = l.0; to_range = l.1; drawn = (source_of K g f t k d.drawn).1 }

  route_of : {f t : ℕ} {k l : Kind} (b : Second) → strong_joint b k.first ≡ true → StrongPath K g f k t l
      → (es : List Entry) × Route K g f b es t l.second × (1 ≤ length es)
  route_of b j (one d) = (entry_of d ∷ [], pass (leg_of d) j stay, omega arith)
  route_of b j (more {k = k} d i p) =
      let r = route_of k.second i.strong p in
      (entry_of d ∷ r.0, pass (leg_of d) j r.1, omega arith)

  pub path_round : (p : ClosedStrongPath K g) → (es : List Entry) × Round K g p.at es
  path_round p =
      let r = route_of p.ends.second p.closing.strong p.path in
      (r.0, record { letter = p.ends.second; route = r.1; not_empty = r.2 })

  -- ---- A round that passes no class twice and begins at its lowest is a cycle.

  -- Each entry of a route leads to the next, and the last to any f that goes on from there.
  leads : {x y : ℕ} {b d : Second} {es : List Entry} → Route K g x b es y d → (f : Entry) → f.class ≡ y
      → strong_joint d f.kind.first ≡ true → (i : ℕ) → i < length es → Leads K g (entry_at es i) (entry_at (es ++ f ∷ []) (suc i))
  leads stay f q k i l = absurd (omega arith)
  leads (pass s j stay) f q k zero l = record { leg = rw q s; strong = record { strong = k } }
  leads (pass s j (pass t i w)) f q k zero l = record { leg = s; strong = record { strong = i } }
  leads (pass s j w) f q k (suc i) l = leads w f q k i (omega arith)

  pub first_entry : {x y : ℕ} {b d : Second} {es : List Entry} → Route K g x b es y d → 1 ≤ length es
      → ((entry_at es 0).class ≡ x) × (strong_joint b (entry_at es 0).kind.first ≡ true)
  first_entry stay l = absurd (omega arith)
  first_entry (pass s j w) l = (refl, j)

  pub round_cycle : {c : ℕ} {es : List Entry} → Round K g c es
      → ((i j : ℕ) → i < j → j < length es → (entry_at es i).class ≡ (entry_at es j).class → ⊥)
      → ((i : ℕ) → i < length es → ¬ ((entry_at es i).class < c)) → Cycle K g es
  round_cycle {es = es} r once none_below =
      record {
        not_empty = r.not_empty;
        at_most = pigeons K (length es) (λ i. (entry_at es i).class) (λ i l. (entry_leads i l).leg.in_range) once;
        in_range = λ i l. (entry_leads i l).leg.in_range;
        drawn = λ i l. (entry_leads i l).leg.drawn;
        strong = λ i l. (entry_leads i l).strong;
        once = once;
        lowest_first = λ i l. omega (arith, (first_entry r.route r.not_empty).0, none_below i l);
      }
    where
      entry_leads : (i : ℕ) → i < length es → Leads K g (entry_at es i) (following es i)
      entry_leads i l =
          let s = first_entry r.route r.not_empty in
          rw (following_at es i l) at (leads r.route (entry_at es 0) s.0 s.1 i l)

  -- ---- Descent: from a round to a shorter one or to one as long from a lower class, until there is neither.

  -- From a round of n entries from a class below m, given what comes of every shorter one.
  from_class : (n : ℕ) → (Shorter K g n → (es : List Entry) × Cycle K g es) → (m : ℕ) {c : ℕ} {es : List Entry}
      → Round K g c es → length es ≡ n → c < m → (es : List Entry) × Cycle K g es
  from_class n given zero r q l = absurd (omega arith)
  from_class n given (suc m) {c} {es} r q l =
      elim (some_below (λ j. some_below (λ i. ℕ_discrete (entry_at es i).class (entry_at es j).class) j) (length es)) [
        | yes t ↦ given (rw q at (repeats r t.2.0 t.0 t.2.1 t.1 t.2.2))
        | no twice ↦ elim (some_below (λ i. dec_lt (entry_at es i).class c) (length es)) [
          | yes t ↦ let u = turned r t.0 t.1 in from_class n given m u.1 (u.2 ∙ q) (omega (arith, t.2))
          | no below ↦ (es, round_cycle r (λ i j k h e. twice (j, h, (i, k, e))) (λ i k h. below (i, k, h)))
        ]
      ]

  -- From a round of fewer than n entries.
  from_length : (n : ℕ) {c : ℕ} {es : List Entry} → Round K g c es → length es < n → (es : List Entry) × Cycle K g es
  from_length zero r l = absurd (omega arith)
  from_length (suc n) {c} {es} r l =
      from_class (length es) (λ s. from_length n s.round (omega (arith, s.less))) (suc c) r refl (omega arith)

-- Whenever there is a closed strong path, there is a cycle that passes no class twice.
pub cycle_exists : {K : ℕ} {g : Graph} → ClosedStrongPath K g → (es : List Entry) × Cycle K g es
cycle_exists p = let r = path_round p in from_length (suc (length r.0)) r.1 (omega arith)

pub cycle_exactly : {K : ℕ} {g : Graph} → ClosedStrongPath K g ↔ ((es : List Entry) × Cycle K g es)
cycle_exactly = (cycle_exists, λ c. cycle_sound c.1)
