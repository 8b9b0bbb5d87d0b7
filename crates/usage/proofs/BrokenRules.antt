-- With exclusive acquires only, a closed strong path stands exactly when one of document 002's rules is broken. Of several interrupt dependencies in
-- one closed path one suffices, because soft-unsafe brings hard-unsafe. Assumes nothing.
use mathlib.Core.Path.{◌≡◌, refl, sym, ◌∙◌}
use mathlib.Core.Bool.{true, ◌&&◌}
use mathlib.Core.Logic.{◌⊎◌, inl, inr, ⊎_elim, ◌↔◌}
use Prim.Native.Nat.{ℕ, ◌<◌}
use native.Mathlib.Omega.{arith}
use lib.Dec.{ltb}
use Rattle.rules.specs.Marks.{Level, hard_irq, soft_irq}
use Rattle.rules.specs.Graph.{Kind, Graph, lock, irq, dependency_by, dependency}
use Rattle.rules.specs.KindNames.{EN}
use Rattle.rules.specs.StrongPath.{Dependency, StrongPath, ClosedStrongPath}
use Rattle.usage.specs.UsageRules.{Exclusive, SoftBringsHard, LockDependency, LockPath, one, more, Safe, Unsafe, Broken, circle, both, path}
use Rattle.rules.proofs.Booleans.{or_cases, and_cases, and_both}
use Rattle.rules.proofs.Decided.{in_range}
use Rattle.rules.proofs.Cycles.{some_source}

module _ (K : ℕ) (g : Graph) (x : Exclusive g) (y : SoftBringsHard g) where
  -- A dependency of an exclusive graph: between held locks, or by an interrupt.
  data Drawn (f t : ℕ) : Type 0 where
    by_lock : LockDependency K g f t → Drawn f t
    by_irq : (l : Level) → f < K → t < K → Unsafe g l f → Safe g l t → Drawn f t

  drawn_irq : (f t : ℕ) (k : Kind) (l : Level) → f < K → t < K → dependency_by (irq l) g f t k ≡ true → Drawn f t
  drawn_irq f t k l lf lt h =
      let p = and_cases _ _ h in
      let b = x.safes t l k.second p.0 in
      let a = x.unsafes f l k.first p.1 in
      by_irq l lf lt (record { marked = rw a at p.1 }) (record { marked = rw b at p.0 })

  drawn_so : (f t : ℕ) (k : Kind) → dependency K g f t k ≡ true → Drawn f t
  unfolding dependency
  drawn_so f t k h =
      let l = in_range K g f t k h in
      let held : dependency_by lock g f t k ≡ true → Drawn f t =
      λ z. by_lock (record { from_class = l.0; to_class = l.1; drawn = rw (x.locks f t k z) at z }) in
      ⊎_elim (λ z. ⊎_elim held (drawn_irq f t k hard_irq l.0 l.1) (or_cases _ _ z)) (drawn_irq f t k soft_irq l.0 l.1)
      (or_cases _ _ (and_cases (ltb f K && ltb t K) _ h).1)

  -- No lock dependency, or some.
  data Ahead : ℕ → ℕ → Type 0 where
    here : {c : ℕ} → c < K → Ahead c c
    along : {f t : ℕ} → LockPath K g f t → Ahead f t

  further : {f m t : ℕ} → LockDependency K g f m → Ahead m t → LockPath K g f t
  further d (here l) = one d
  further d (along p) = more d p

  chain : {f m t : ℕ} → LockPath K g f m → Ahead m t → LockPath K g f t
  chain (one d) b = further d b
  chain (more d p) b = more d (chain p b)

  chained : {f m t : ℕ} → Ahead f m → Ahead m t → Ahead f t
  chained (here l) b = b
  chained (along p) b = along (chain p b)

  broken_by : {l : Level} {f t : ℕ} → Safe g l f → Ahead f t → Unsafe g l t → Broken K g
  broken_by s (here l) u = both l s u
  broken_by s (along p) u = path s p u

  -- From a safe class to an unsafe one a rule is broken, but from soft-safe to hard-unsafe.
  meets : (l l' : Level) {f t : ℕ} → Safe g l f → Ahead f t → Unsafe g l' t → Broken K g ⊎ ((l ≡ soft_irq) × (l' ≡ hard_irq))
  meets hard_irq hard_irq s a u = inl (broken_by s a u)
  meets soft_irq soft_irq s a u = inl (broken_by s a u)
  meets hard_irq soft_irq {t} s a u = inl (broken_by s a (record { marked = y.soft_unsafe t u.marked }))
  meets soft_irq hard_irq s a u = inr (refl, refl)

  -- What a path comes to: its first interrupt dependency leaves an unsafe class ahead of f, its last reaches a safe class that t is ahead of.
  data Passed (f t : ℕ) : Type 0 where
    breaks : Broken K g → Passed f t
    by_locks : LockPath K g f t → Passed f t
    by_irqs : {u s : ℕ} (l l' : Level) → Ahead f u → Unsafe g l u → Safe g l' s → Ahead s t → (l ≡ hard_irq → l' ≡ hard_irq) → Passed f t

  pass_one : {f t : ℕ} → Drawn f t → Passed f t
  pass_one (by_lock d) = by_locks (one d)
  pass_one (by_irq l lf lt u s) = by_irqs l l (here lf) u s (here lt) (λ q. q)

  pass_more : {f m t : ℕ} → Drawn f m → Passed m t → Passed f t
  pass_more a (breaks b) = breaks b
  pass_more (by_lock d) (by_locks p) = by_locks (more d p)
  pass_more (by_lock d) (by_irqs l l' a u s b o) = by_irqs l l' (along (further d a)) u s b o
  pass_more (by_irq l lf lm u s) (by_locks p) = by_irqs l l (here lf) u s (along p) (λ q. q)
  pass_more (by_irq l lf lm u s) (by_irqs l₁ l' a u₁ s' b o) =
      ⊎_elim breaks (λ q. by_irqs l l' (here lf) u s' b (λ z. o q.1)) (meets l l₁ s a u₁)

  passed : {f t : ℕ} {k l : Kind} → StrongPath K g f k t l → Passed f t
  passed (StrongPath.one {f} {t} {k} d) = pass_one (drawn_so f t k d.drawn)
  passed (StrongPath.more {f} {m} {k = k} d j p) = pass_more (drawn_so f m k d.drawn) (passed p)

  soft_not_hard : soft_irq ≡ hard_irq → ⊥
  soft_not_hard q =
      let n : Level → ℕ = elim [ hard_irq ↦ 0 | soft_irq ↦ 1 ] in
      let z : n soft_irq ≡ n hard_irq = λ i. n (q i) in
      omega arith

  closes : {c : ℕ} → Passed c c → Broken K g
  closes (breaks b) = b
  closes (by_locks p) = circle p
  closes (by_irqs l l' a u s b o) =
      ⊎_elim (λ z. z) (λ q. absurd (soft_not_hard (sym q.0 ∙ o q.1))) (meets l' l s (chained b a) u)

  -- ---- The other way.

  strong_one : {f t : ℕ} → LockDependency K g f t → Dependency K g f EN t
  strong_one {f} {t} d = record { drawn = some_source K g lock f t EN d.from_class d.to_class d.drawn }

  strong : {f t : ℕ} → LockPath K g f t → StrongPath K g f EN t EN
  strong (one d) = StrongPath.one (strong_one d)
  strong (more d p) = StrongPath.more (strong_one d) (record { strong = refl }) (strong p)

  by_interrupt : {l : Level} {f t : ℕ} → f < K → t < K → Unsafe g l f → Safe g l t → Dependency K g f EN t
  by_interrupt {l} {f} {t} lf lt u s = record { drawn = some_source K g (irq l) f t EN lf lt (and_both s.marked u.marked) }

  ends : {f t : ℕ} → LockPath K g f t → (f < K) × (t < K)
  ends (one d) = (d.from_class, d.to_class)
  ends (more d p) = (d.from_class, (ends p).1)

  closed_by : Broken K g → ClosedStrongPath K g
  closed_by (circle {c} p) = record { at = c; begins = EN; ends = EN; path = strong p; closing = record { strong = refl } }
  closed_by (both {c} l s u) =
      record { at = c; begins = EN; ends = EN; path = StrongPath.one (by_interrupt l l u s); closing = record { strong = refl } }
  closed_by (path {f} {t} s p u) =
      record {
        at = t;
        begins = EN;
        ends = EN;
        path = StrongPath.more (by_interrupt (ends p).1 (ends p).0 u s) (record { strong = refl }) (strong p);
        closing = record { strong = refl };
      }

  -- "a fault stands exactly when document 002's rules are broken"
  pub broken_exactly : ClosedStrongPath K g ↔ Broken K g
  broken_exactly = (λ c. closes (passed c.path), closed_by)
