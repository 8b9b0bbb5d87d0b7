-- A larger graph keeps its dependencies, strong paths and closed strong paths. Assumes nothing.
use mathlib.Core.Path.{◌≡◌}
use mathlib.Core.Bool.{true, ◌&&◌, ◌||◌}
use Prim.Native.Nat.{ℕ}
use lib.Dec.{ltb}
use Rattle.rules.specs.Marks.{Level, hard_irq, soft_irq, Usage, Marks}
use Rattle.rules.specs.Graph.{Kind, Dependencies, Graph, add_to, Source, lock, irq, dependency_by, dependency}
use Rattle.rules.specs.StrongPath.{StrongPath, one, more, ClosedStrongPath}
use Rattle.rules.specs.Decision.{cyclic}
use Rattle.rules.proofs.Booleans.{or_left, or_mono, and_cases, and_both, and_mono}
use Rattle.rules.proofs.Decided.{cyclic_sound, cyclic_complete}

pub record Within (g g' : Graph) : Type 0 where
  pub locks : (f t : ℕ) (k : Kind) → g.locks f t k ≡ true → g'.locks f t k ≡ true
  pub marks : (c : ℕ) (l : Level) (u : Usage) → g.marks c l u ≡ true → g'.marks c l u ≡ true

pub within_self : (g : Graph) → Within g g
within_self g = record { locks = λ f t k h. h; marks = λ c l u h. h }

-- What is added to the larger graph, or to both.
pub within_more : {g g' : Graph} (d : Dependencies) (m : Marks) → Within g g' → Within g (add_to g' d m)
within_more d m w = record { locks = λ f t k h. or_left _ (w.locks f t k h); marks = λ c l u h. or_left _ (w.marks c l u h) }

pub within_both : {g g' : Graph} (d d' : Dependencies) (m : Marks) → ((f t : ℕ) (k : Kind) → d f t k ≡ true → d' f t k ≡ true) → Within g g'
    → Within (add_to g d m) (add_to g' d' m)
within_both {g} d d' m covers w =
    record {
      locks = λ f t k. or_mono (g.locks f t k) (d f t k) (w.locks f t k) (covers f t k);
      marks = λ c l u. or_mono (g.marks c l u) (m c l u) (w.marks c l u) (λ h. h);
    }

module _ {g g' : Graph} (w : Within g g') where
  source_mono : (o : Source) (f t : ℕ) (k : Kind) → dependency_by o g f t k ≡ true → dependency_by o g' f t k ≡ true
  source_mono lock f t k h = w.locks f t k h
  source_mono (irq l) f t k h = let p = and_cases _ _ h in and_both (w.marks _ _ _ p.0) (w.marks _ _ _ p.1)

  pub dependency_mono : (K f t : ℕ) (k : Kind) → dependency K g f t k ≡ true → dependency K g' f t k ≡ true
  unfolding dependency
  dependency_mono K f t k =
      and_mono (ltb f K && ltb t K) (dependency_by lock g f t k || dependency_by (irq hard_irq) g f t k || dependency_by (irq soft_irq) g f t k)
      (λ h. h)
      (or_mono (dependency_by lock g f t k || dependency_by (irq hard_irq) g f t k) (dependency_by (irq soft_irq) g f t k)
      (or_mono (dependency_by lock g f t k) (dependency_by (irq hard_irq) g f t k) (source_mono lock f t k) (source_mono (irq hard_irq) f t k))
      (source_mono (irq soft_irq) f t k))

  pub strong_mono : {K f t : ℕ} {k l : Kind} → StrongPath K g f k t l → StrongPath K g' f k t l
  strong_mono (one {f} {t} {k} d) = one (record { drawn = dependency_mono _ f t k d.drawn })
  strong_mono (more {f} {m} {k = k} d j p) = more (record { drawn = dependency_mono _ f m k d.drawn }) j (strong_mono p)

  pub closed_mono : {K : ℕ} → ClosedStrongPath K g → ClosedStrongPath K g'
  closed_mono c = record { at = c.at; begins = c.begins; ends = c.ends; path = strong_mono c.path; closing = c.closing }

  pub cyclic_mono : (K : ℕ) → cyclic K g ≡ true → cyclic K g' ≡ true
  cyclic_mono K h = cyclic_complete K g' (closed_mono (cyclic_sound K g h))
