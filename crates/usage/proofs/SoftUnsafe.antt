-- Why document 002's rules need "softirq-unsafe .. hardirq-unsafe as well": an exclusive graph without it that has a closed strong path and breaks no rule.
-- Class 0 is hard-safe and soft-unsafe, class 1 soft-safe and hard-unsafe; there is no lock dependency. Assumes nothing.
use mathlib.Core.Path.{◌≡◌, refl}
use mathlib.Core.Bool.{Bool, true, false, ◌&&◌, false≢true}
use Prim.Native.Nat.{ℕ}
use native.Mathlib.Omega.{arith}
use lib.Dec.{eqb}
use borrow.Author.Tests.{eqb-true}
use Rattle.rules.specs.HeldLocks.{First, Second, E, S, R, N, same_first, same_second}
use Rattle.rules.specs.Marks.{Level, hard_irq, soft_irq, Usage, safe, unsafe}
use Rattle.rules.specs.Graph.{Graph, dependency}
use Rattle.rules.specs.StrongPath.{ClosedStrongPath}
use Rattle.rules.specs.Decision.{cyclic}
use Rattle.rules.proofs.Booleans.{and_cases}
use Rattle.rules.proofs.Decided.{cyclic_sound}
use Rattle.usage.specs.UsageRules.{LockPath, one, more, Broken, circle, both, path, Exclusive}

abbrev odd : ℕ → Level → Usage → Bool
odd c hard_irq (safe b) = eqb c 0 && same_second b N
odd c soft_irq (unsafe a) = eqb c 0 && same_first a E
odd c soft_irq (safe b) = eqb c 1 && same_second b N
odd c hard_irq (unsafe a) = eqb c 1 && same_first a E

abbrev odd_graph : Graph
odd_graph = record { locks = λ f t k. false; marks = odd }

odd_cyclic : cyclic 2 odd_graph ≡ true
unfolding cyclic dependency
odd_cyclic = refl

is_N : (b : Second) (x : Bool) → (x && same_second b N) ≡ true → b ≡ N
is_N N x h = refl
is_N R x h = absurd (false≢true (and_cases x _ h).1)

is_E : (a : First) (x : Bool) → (x && same_first a E) ≡ true → a ≡ E
is_E E x h = refl
is_E S x h = absurd (false≢true (and_cases x _ h).1)

odd_exclusive : Exclusive odd_graph
odd_exclusive =
    record {
      locks = λ f t k h. absurd (false≢true h);
      safes = λ c. elim [ hard_irq ↦ λ b. is_N b (eqb c 0) | soft_irq ↦ λ b. is_N b (eqb c 1) ];
      unsafes = λ c. elim [ hard_irq ↦ λ a. is_E a (eqb c 1) | soft_irq ↦ λ a. is_E a (eqb c 0) ];
    }

no_lock_path : {f t : ℕ} → LockPath 2 odd_graph f t → ⊥
no_lock_path (one d) = false≢true d.drawn
no_lock_path (more d p) = false≢true d.drawn

apart : (c : ℕ) → eqb c 0 ≡ true → eqb c 1 ≡ true → ⊥
apart c x y = let a = eqb-true c 0 x in let b = eqb-true c 1 y in omega arith

odd_breaks_nothing : Broken 2 odd_graph → ⊥
odd_breaks_nothing (circle p) = no_lock_path p
odd_breaks_nothing (path s p u) = no_lock_path p
odd_breaks_nothing (both {l} {c} lt s u) = by l s.marked u.marked
  where
    by : (l : Level) → odd c l (safe N) ≡ true → odd c l (unsafe E) ≡ true → ⊥
    by hard_irq x y = apart c (and_cases (eqb c 0) true x).0 (and_cases (eqb c 1) true y).0
    by soft_irq x y = apart c (and_cases (eqb c 0) true y).0 (and_cases (eqb c 1) true x).0

-- The claim without that condition is refuted.
pub without_soft_unsafe : ((K : ℕ) (g : Graph) → Exclusive g → ClosedStrongPath K g → Broken K g) → ⊥
without_soft_unsafe claim = odd_breaks_nothing (claim 2 odd_graph odd_exclusive (cyclic_sound 2 odd_graph odd_cyclic))
