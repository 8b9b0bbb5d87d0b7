-- Marks clash exactly where they make a cycle of one dependency. Assumes nothing.
use mathlib.Core.Path.{◌≡◌, refl, subst}
use mathlib.Core.Bool.{true, ◌||◌}
use mathlib.Core.List.{[], ◌∷◌}
use mathlib.Core.Logic.{⊎_elim, ◌↔◌}
use Prim.Native.Nat.{ℕ, suc, ◌<◌}
use native.Mathlib.Omega.{arith}
use borrow.Author.Tests.{lt-ltb}
use Rattle.rules.specs.HeldLocks.{First, Second, E, S, R, N}
use Rattle.rules.specs.Marks.{Level, hard_irq, soft_irq}
use Rattle.rules.specs.Graph.{Kind, Graph, Source, irq, dependency_by}
use Rattle.rules.specs.KindNames.{ER, EN, SR, SN}
use Rattle.rules.specs.StrongPath.{strong_joint}
use Rattle.rules.specs.Cycle.{Cycle}
use Rattle.rules.specs.CycleDecision.{is_cycle}
use Rattle.rules.proofs.LeastCycles.{cycle_of}
use Rattle.rules.proofs.Booleans.{or_cases, or_left, or_right, and_cases, and_both}
use Rattle.clash.specs.Clash.{ClassMarks, clash_by, clash_at, clash, OneByMarks}

some_kind : (own : ClassMarks) → clash own ≡ true → (l : Level) × (k : Kind) × (clash_by own l k ≡ true)
unfolding clash
some_kind own h = ⊎_elim (at hard_irq) (at soft_irq) (or_cases (clash_at own hard_irq) (clash_at own soft_irq) h)
  where
    at : (l : Level) → clash_at own l ≡ true → (l : Level) × (k : Kind) × (clash_by own l k ≡ true)
    at l e =
        ⊎_elim (λ p. ⊎_elim (λ q. (l, ER, q)) (λ q. (l, EN, q)) (or_cases (clash_by own l ER) (clash_by own l EN) p))
        (λ p. ⊎_elim (λ q. (l, SR, q)) (λ q. (l, SN, q)) (or_cases (clash_by own l SR) (clash_by own l SN) p))
        (or_cases (clash_by own l ER || clash_by own l EN) (clash_by own l SR || clash_by own l SN) e)

any_kind : (own : ClassMarks) (l : Level) (a : First) (b : Second) → clash_by own l (record { first = a; second = b }) ≡ true → clash own ≡ true
unfolding clash
any_kind own l a b h = at l (by l a b h)
  where
    by : (l : Level) (a : First) (b : Second) → clash_by own l (record { first = a; second = b }) ≡ true → clash_at own l ≡ true
    by l E R h = or_left _ (or_left _ h)
    by l E N h = or_left _ (or_right (clash_by own l ER) h)
    by l S R h = or_right (clash_by own l ER || clash_by own l EN) (or_left _ h)
    by l S N h = or_right (clash_by own l ER || clash_by own l EN) (or_right (clash_by own l SR) h)

    at : (l : Level) → clash_at own l ≡ true → (clash_at own hard_irq || clash_at own soft_irq) ≡ true
    at hard_irq h = or_left _ h
    at soft_irq h = or_right (clash_at own hard_irq) h

-- A dependency of a class to itself that is strong where it closes is a cycle.
one_cycle : {K : ℕ} {g : Graph} (c : ℕ) (k : Kind) (o : Source) → c < K → dependency_by o g c c k ≡ true → strong_joint k.second k.first ≡ true
    → Cycle K g (record { class = c; kind = k; source = o } ∷ [])
unfolding is_cycle
one_cycle {K} {g} c k o l d j =
    cycle_of K g _ (and_both refl (and_both (lt-ltb 1 (suc K) (omega arith))
    (and_both (and_both d (and_both j (and_both (lt-ltb c K l) (and_both (lt-ltb c (suc c) (omega arith)) refl)))) refl)))

pub clash_exactly : {K : ℕ} {g : Graph} (c : ℕ) → c < K → OneByMarks K g c ↔ (clash (g.marks c) ≡ true)
clash_exactly {K} {g} c l = (
  λ o.
      let k = o.entry.kind in
      let d : dependency_by (irq o.level) g c c k ≡ true =
      subst (λ (x : ℕ). dependency_by (irq o.level) g x x k ≡ true) o.class_is
      (subst (λ (s : Source). dependency_by s g o.entry.class o.entry.class k ≡ true) o.source_is (o.cycle.drawn 0 (omega arith))) in
      any_kind (g.marks c) o.level k.first k.second (and_both d (o.cycle.strong 0 (omega arith)).strong),
  λ h.
      let s = some_kind (g.marks c) h in
      let p = and_cases (dependency_by (irq s.0) g c c s.1) (strong_joint s.1.second s.1.first) s.2 in
      record {
        entry = record { class = c; kind = s.1; source = irq s.0 };
        level = s.0;
        class_is = refl;
        source_is = refl;
        cycle = one_cycle c s.1 (irq s.0) l p.0 p.1;
      },
)
