-- A dependency graph as successor words, and what a class reaches there.
use Rattle.std.specs.Prelude.{◌≡◌, true, List, ℕ, zero, suc, ◌+◌, ◌*◌, ◌<◌, ◌≤◌, get_or}
use Rattle.words.specs.Bits.{bit}
use Rattle.rules.specs.HeldLocks.{First, Second, E, S, R, N}
use Rattle.rules.specs.Graph.{Kind, Graph, dependency}
use Rattle.rules.specs.StrongPath.{Reaches}

abbrev pub first_index : First → ℕ
first_index E = 0
first_index S = 2

abbrev pub second_index : Second → ℕ
second_index R = 0
second_index N = 1

-- ER 0, EN 1, SR 2, SN 3
abbrev pub kind_index : Kind → ℕ
kind_index k = first_index k.first + second_index k.second

abbrev pub first_at : ℕ → First
first_at zero = E
first_at (suc n) = S

-- The successor word of class c and kind k.
abbrev pub row_at : List ℕ → ℕ → Kind → ℕ
row_at rows c k = get_or rows (4 * c + kind_index k) 0

-- The words have a dependency of kind k from class c to class t.
abbrev pub Successor : List ℕ → ℕ → Kind → ℕ → Type 0
Successor rows c k t = bit (row_at rows c k) t ≡ 1

-- The words have the dependencies of the graph g of K classes, and no others.
pub record Rows (K : ℕ) (g : Graph) (rows : List ℕ) : Type 0 where
  pub few : K ≤ 64
  pub sound : (c : ℕ) (k : Kind) (t : ℕ) → c < K → bit (row_at rows c k) t ≡ 1 → dependency K g c t k ≡ true
  pub complete : (c : ℕ) (k : Kind) (t : ℕ) → dependency K g c t k ≡ true → bit (row_at rows c k) t ≡ 1

-- Each successor of a class below K is below K.
pub record Ranged (K : ℕ) (rows : List ℕ) : Type 0 where
  pub few : K ≤ 64
  pub inside : (c : ℕ) (k : Kind) (t : ℕ) → c < K → bit (row_at rows c k) t ≡ 1 → t < K

-- The word r has the classes that class c reaches.
pub record Reached (K : ℕ) (rows : List ℕ) (c r : ℕ) : Type 0 where
  pub sound : (g : Graph) → Rows K g rows → (t : ℕ) → bit r t ≡ 1 → Reaches K g c t
  pub complete : (g : Graph) → Rows K g rows → (t : ℕ) → Reaches K g c t → bit r t ≡ 1
