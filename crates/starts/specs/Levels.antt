-- The sets of arrivals from which a number of dependencies leads home.
use Rattle.std.specs.Prelude.{Option, None, Some, [], ◌∷◌, ◌≡◌, Bool, true, false, ◌⊎◌, List, ℕ, zero, suc, ◌+◌, ◌*◌, ◌<◌, ◌≤◌, get_or, set, length}
use Rattle.rules.specs.HeldLocks.{First, Second, R, N}
use Rattle.rules.specs.Graph.{Kind, Graph}
use Rattle.rules.specs.StrongPath.{strong_joint}
use Rattle.rules.specs.Cycle.{Entry, entry_at}
use Rattle.search.specs.Rows.{Successor, Rows}
use Rattle.search.specs.Arrivals.{In, kind_by}
use Rattle.search.specs.declared.Arrivals.{Arrivals}
use Rattle.routes.specs.Routes.{widest, Home}

abbrev pub letter_at : ℕ → Second
letter_at zero = R
letter_at (suc n) = N

-- A length that may be none as a number: 0 for none.
abbrev pub length_number : Option ℕ → ℕ
length_number None = 0
length_number (Some n) = n

-- A dependency goes on from class x, arrived at by b, into the set.
pub record LeadsInto (rows : List ℕ) (s : Arrivals) (x : ℕ) (b : Second) : Type 0 where
  pub kind : Kind
  pub to : ℕ
  pub strong : strong_joint b kind.first ≡ true
  pub drawn : Successor rows x kind to
  pub into : In s to kind.second

pub record LeadsBy (rows : List ℕ) (x : ℕ) (f : First) (s : Arrivals) (r : Bool) : Type 0 where
  pub yes' : r ≡ true → (b : Second) × (y : ℕ) × Successor rows x (kind_by f b) y × In s y b
  pub no' : r ≡ false → (b : Second) (y : ℕ) → Successor rows x (kind_by f b) y → In s y b → ⊥

pub record Widened (rows : List ℕ) (x : ℕ) (s out r : Arrivals) : Type 0 where
  pub kept : (j : ℕ) (b : Second) → In out j b → In r j b
  pub there : (b : Second) → LeadsInto rows s x b → In r x b
  pub only : (j : ℕ) (b : Second) → In r j b → In out j b ⊎ ((j ≡ x) × LeadsInto rows s x b)

pub record Behind (rows : List ℕ) (from K : ℕ) (s t : Arrivals) : Type 0 where
  pub sound : (x : ℕ) (b : Second) → In t x b → (x < K) × LeadsInto rows s x b
  pub complete : (x : ℕ) (b : Second) → from ≤ x → x < K → LeadsInto rows s x b → In t x b

pub record AtHome (c : ℕ) (h : Second) (t : Arrivals) : Type 0 where
  pub sound : (x : ℕ) (b : Second) → In t x b → (x ≡ c) × (strong_joint b (widest h) ≡ true)
  pub complete : (b : Second) → strong_joint b (widest h) ≡ true → In t c b

pub record IsIn (s : Arrivals) (c : ℕ) (b : Second) (r : Bool) : Type 0 where
  pub yes' : r ≡ true → In s c b
  pub no' : r ≡ false → In s c b → ⊥

pub record IsEmpty (s : Arrivals) (r : Bool) : Type 0 where
  pub none : r ≡ true → (x : ℕ) (b : Second) → In s x b → ⊥

-- No entry's class is below c.
pub record Above (c : ℕ) (es : List Entry) : Type 0 where
  pub above : (i : ℕ) → i < length es → c ≤ (entry_at es i).class

abbrev pub stored : List ℕ → ℕ → Arrivals → List ℕ
stored levels m s = set (set levels (2 * m) s.r) (2 * m + 1) s.n

abbrev pub level_at : List ℕ → ℕ → Arrivals
level_at levels m = record { r = get_or levels (2 * m) 0; n = get_or levels (2 * m + 1) 0 }

-- The levels' sets as words, two of each.
unfoldable pub level_words : List Arrivals → List ℕ
level_words [] = []
level_words (s ∷ ss) = s.r ∷ s.n ∷ level_words ss

-- s has arrivals from which m dependencies lead home, in every graph that the words are; and all from which they do so over no class below c.
pub record Level (rows : List ℕ) (K c : ℕ) (h : Second) (m : ℕ) (s : Arrivals) : Type 0 where
  pub sound : (g : Graph) → Rows K g rows → (x : ℕ) (b : Second) → In s x b → Home K g c h m x b
  pub complete : (g : Graph) → Rows K g rows → (x : ℕ) (b : Second) (o : Home K g c h m x b) → Above c o.entries → In s x b

-- From class c, as after h, no 1 to n entries lead home over classes from c on.
pub record NoneUpTo (rows : List ℕ) (K c : ℕ) (h : Second) (n : ℕ) : Type 0 where
  pub none : (g : Graph) → Rows K g rows → (m : ℕ) → 1 ≤ m → m ≤ n → (o : Home K g c h m c h) → Above c o.entries → ⊥

pub record Filled (rows : List ℕ) (K c : ℕ) (h : Second) (limit r : ℕ) (levels : List ℕ) : Type 0 where
  pub size : length levels ≡ 128
  pub none : r ≡ 0 → NoneUpTo rows K c h limit
  pub few : r ≤ limit
  pub shorter : (m : ℕ) → m < r → NoneUpTo rows K c h m
  pub level : (m : ℕ) → m < r → Level rows K c h m (level_at levels m)
  pub home : 0 < r → (g : Graph) → Rows K g rows → Home K g c h r c h
