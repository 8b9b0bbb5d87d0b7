-- Sets of arrivals (a class and the second letter of the dependency by which it was arrived at).
use Rattle.std.specs.Prelude.{◌≡◌, true, ◌⊎◌, List, ℕ, ◌+◌, ◌^◌, ◌<◌}
use Rattle.std.specs.Int.Count.{ones}
use Rattle.words.specs.Bits.{bit}
use Rattle.rules.specs.HeldLocks.{First, Second, R, N}
use Rattle.rules.specs.Graph.{Kind}
use Rattle.rules.specs.StrongPath.{strong_joint}
use Rattle.search.specs.Rows.{Successor}
use Rattle.search.specs.declared.Arrivals.{Arrivals}

abbrev pub word_by : Arrivals → Second → ℕ
word_by s R = s.r
word_by s N = s.n

abbrev pub none : Arrivals
none = record { r = 0; n = 0 }

abbrev pub In : Arrivals → ℕ → Second → Type 0
In s c a = bit (word_by s a) c ≡ 1

abbrev pub size : Arrivals → ℕ
size s = ones s.r + ones s.n

pub record Fits (s : Arrivals) : Type 0 where
  pub r : s.r < 2 ^ 64
  pub n : s.n < 2 ^ 64

-- t is s with class c put in under a.
pub record Put (c : ℕ) (a : Second) (s t : Arrivals) : Type 0 where
  pub there : In t c a
  pub kept : (j : ℕ) (b : Second) → In s j b → In t j b
  pub only : (j : ℕ) (b : Second) → In t j b → In s j b ⊎ ((j ≡ c) × (b ≡ a))
  pub more : bit (word_by s a) c ≡ 0 → size t ≡ size s + 1
  pub fits : Fits t

abbrev pub kind_by : First → Second → Kind
kind_by f b = record { first = f; second = b }

pub record Union (w v r : ℕ) : Type 0 where
  pub left : (j : ℕ) → bit w j ≡ 1 → bit r j ≡ 1
  pub right : (j : ℕ) → bit v j ≡ 1 → bit r j ≡ 1
  pub only : (j : ℕ) → bit r j ≡ 1 → (bit w j ≡ 1) ⊎ (bit v j ≡ 1)

-- t is s with the arrivals that follow x by the first letter f.
pub record Onward (rows : List ℕ) (x : ℕ) (f : First) (s t : Arrivals) : Type 0 where
  pub kept : (j : ℕ) (b : Second) → In s j b → In t j b
  pub all : (j : ℕ) (b : Second) → Successor rows x (kind_by f b) j → In t j b
  pub only : (j : ℕ) (b : Second) → In t j b → In s j b ⊎ Successor rows x (kind_by f b) j

-- t is s with the arrivals that follow x, arrived at by a.
pub record After (rows : List ℕ) (x : ℕ) (a : Second) (s t : Arrivals) : Type 0 where
  pub kept : (j : ℕ) (b : Second) → In s j b → In t j b
  pub all : (j : ℕ) (f : First) (b : Second) → strong_joint a f ≡ true → Successor rows x (kind_by f b) j → In t j b
  pub only : (j : ℕ) (b : Second) → In t j b → In s j b ⊎ ((f : First) × (strong_joint a f ≡ true) × Successor rows x (kind_by f b) j)

-- t has the arrivals that follow x, arrived at by a.
pub record Next (rows : List ℕ) (x : ℕ) (a : Second) (t : Arrivals) : Type 0 where
  pub after : After rows x a none t
  pub fits : Fits t
