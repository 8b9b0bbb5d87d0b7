-- What every state of a run satisfies: the limits, where locks may be held, and what the dependency graph names.
use Rattle.std.specs.Prelude.{◌≡◌, true, not, List, [], ℕ, ◌≤◌, ◌<◌, eqb, length, get_or}
use Rattle.std.proofs.Math.Option.{Option, none, some}
use Rattle.rules.specs.Limits.{core_count, max_classes, max_depth, max_accepted, held_modes, mode_count, max_in_progress, max_kept}
use Rattle.rules.specs.Context.{hard_over_soft, Frame, soft, hard, may_hold_soft, may_hold_hard}
use Rattle.rules.specs.HeldLocks.{First, HeldLock, Core, fresh_core}
use Rattle.rules.specs.Marks.{Level, hard_irq, soft_irq, Usage, unsafe}
use Rattle.rules.specs.Graph.{Kind, Dependencies, Graph}
use Rattle.rules.specs.KindNames.{some_kind}
use Rattle.rules.specs.Crosslocks.{Kept, Crosslocks, size_of}
use Rattle.rules.specs.Run.{Journal, State}

pub record ValidLock (K : ℕ) (h : HeldLock) : Type 0 where
  pub class : h.class < K
  pub mode : h.mode < mode_count

-- By index, whatever the default past the end.
abbrev pub ValidLocks : ℕ → List HeldLock → Type 0
ValidLocks K hs = (p : ℕ) (d : HeldLock) → p < length hs → ValidLock K (get_or hs p d)

pub record ValidCore (K : ℕ) (c : Core) : Type 0 where
  pub states : c.state ≤ hard_over_soft
  pub depths : (f : Frame) → length (c.held f) ≤ max_depth
  pub locks : (f : Frame) → ValidLocks K (c.held f)
  pub soft_held : 0 < length (c.held soft) → may_hold_soft c.state ≡ true
  pub hard_held : 0 < length (c.held hard) → may_hold_hard c.state ≡ true
  -- There is no frame past the hard one.
  pub no_more : (f : Frame) → hard < f → c.held f ≡ []

pub record ValidGraph (K : ℕ) (g : Graph) : Type 0 where
  pub marks_in_range : (c : ℕ) (l : Level) (u : Usage) → g.marks c l u ≡ true → c < K
  -- A class that is soft-unsafe is hard-unsafe by the same letter.
  pub soft_unsafe : (c : ℕ) (a : First) → g.marks c soft_irq (unsafe a) ≡ true → g.marks c hard_irq (unsafe a) ≡ true
  pub locks_in_range : (f t : ℕ) (k : Kind) → g.locks f t k ≡ true → (f < K) × (t < K)

-- The count and the numbers are in their limit, and a pair has a number exactly where it has a lock dependency. (02, i: a number may be above the count.)
pub record ValidJournal (locks : Dependencies) (j : Journal) : Type 0 where
  pub limit : j.accepted ≤ max_accepted
  pub at_most : (f t : ℕ) → j.seen f t ≤ max_accepted
  pub numbered : (f t : ℕ) → eqb (j.seen f t) 0 ≡ not (some_kind (locks f t))

-- An entry of the history.
pub data ValidEntry (K : ℕ) : Option Kept → Type 0 where
  struck : ValidEntry K none
  counts : {e : Kept} → e.core < core_count → e.frame ≤ hard → e.class < K → e.mode < held_modes → ValidEntry K (some e)

pub record ValidCross (K : ℕ) (x : Crosslocks) : Type 0 where
  pub declared : (c : ℕ) → x.declared c ≡ true → c < K
  pub progress : (c : ℕ) → x.progress c ≡ true → x.declared c ≡ true
  pub few : size_of x.progress ≤ max_in_progress
  pub kept : length x.history ≤ max_kept
  pub since : (c : ℕ) → x.since c ≤ max_accepted
  pub no_more : (c : ℕ) → max_classes ≤ c → x.since c ≡ 0
  pub entries : (i : ℕ) → i < length x.history → ValidEntry K (get_or x.history i none)

pub record Valid (K : ℕ) (s : State) : Type 0 where
  pub cores : (i : ℕ) → ValidCore K (s.cores i)
  pub no_more : (i : ℕ) → core_count ≤ i → s.cores i ≡ fresh_core
  pub graph : ValidGraph K s.graph
  pub cross : ValidCross K s.cross
  pub journal : ValidJournal s.graph.locks s.journal
