-- Document 002's rules of lock classes and interrupt contexts, for exclusive locks (document 02, k). proofs/ shows that with exclusive acquires only they are
-- broken exactly when a fault stands.
use Rattle.std.specs.Prelude.{◌≡◌, Bool, true, false, ℕ, ◌<◌, eqb}
use mathlib.Core.List.{List, Memᴰ}
use Rattle.rules.specs.Record.{Bytes, Event, acquire, release, interrupt, cross_acquire, commit, cross_release, event_of, is_malformed}
use Rattle.rules.specs.HeldLocks.{First, Second, E, N, held_as}
use Rattle.rules.specs.Marks.{Level, hard_irq, soft_irq, safe, unsafe}
use Rattle.rules.specs.Graph.{Kind, Graph}
use Rattle.rules.specs.KindNames.{EN}

-- ---- The rules.

pub record LockDependency (K : ℕ) (g : Graph) (from to : ℕ) : Type 0 where
  pub from_class : from < K
  pub to_class : to < K
  pub drawn : g.locks from to EN ≡ true

-- One or more of them.
pub data LockPath (K : ℕ) (g : Graph) : (from to : ℕ) → Type 0 where
  one : {f t : ℕ} → LockDependency K g f t → LockPath K g f t
  more : {f m t : ℕ} → LockDependency K g f m → LockPath K g m t → LockPath K g f t

-- "'ever held in hardirq context' [ == hardirq-safe ]", "'ever held with hardirqs enabled' [ == hardirq-unsafe ]", and the same of softirqs (002).
pub record Safe (g : Graph) (l : Level) (class : ℕ) : Type 0 where
  pub marked : g.marks class l (safe N) ≡ true

pub record Unsafe (g : Graph) (l : Level) (class : ℕ) : Type 0 where
  pub marked : g.marks class l (unsafe E) ≡ true

-- "a circle of hold arrows, one class safe and unsafe at one level, or a path of hold arrows from a safe class to an unsafe one of that level"
pub data Broken (K : ℕ) (g : Graph) : Type 0 where
  circle : {c : ℕ} → LockPath K g c c → Broken K g
  both : {l : Level} {c : ℕ} → c < K → Safe g l c → Unsafe g l c → Broken K g
  path : {l : Level} {f t : ℕ} → Safe g l f → LockPath K g f t → Unsafe g l t → Broken K g

-- ---- "with exclusive takes only"

-- Of a graph: each lock dependency is EN, each mark has the letter N or E.
pub record Exclusive (g : Graph) : Type 0 where
  pub locks : (f t : ℕ) (k : Kind) → g.locks f t k ≡ true → k ≡ EN
  pub safes : (c : ℕ) (l : Level) (b : Second) → g.marks c l (safe b) ≡ true → b ≡ N
  pub unsafes : (c : ℕ) (l : Level) (a : First) → g.marks c l (unsafe a) ≡ true → a ≡ E

-- "A softirq-unsafe lock-class is automatically hardirq-unsafe as well" (002). It is so in every run and on every fit desk; proofs/SoftUnsafe.antt has a graph
-- where it is not.
pub record SoftBringsHard (g : Graph) : Type 0 where
  pub soft_unsafe : (c : ℕ) → g.marks c soft_irq (unsafe E) ≡ true → g.marks c hard_irq (unsafe E) ≡ true

-- Of a log: each acquire is of mode 0, or 3 for a try. A malformed record is none.
abbrev pub is_exclusive : Event → Bool
is_exclusive (acquire c m) = eqb (held_as m) 0
is_exclusive (release c m) = true
is_exclusive (interrupt e) = true
is_exclusive (cross_acquire c) = true
is_exclusive (commit c) = true
is_exclusive (cross_release c) = true

pub record ExclusiveLog (rs : List Bytes) : Type 0 where
  pub each : (r : Bytes) → Memᴰ r rs → is_malformed r ≡ false → is_exclusive (event_of r) ≡ true
