-- What the walk is given and gives: whether there is a closed strong path.
use Rattle.std.specs.Prelude.{◌≡◌, Bool, true, false, List, [], ◌∷◌, ℕ, ◌+◌, ◌<◌, ◌≤◌, length, get_or}
use Rattle.words.specs.Bits.{bit}
use Rattle.rules.specs.HeldLocks.{Second}
use Rattle.rules.specs.Graph.{Kind, Graph}
use Rattle.rules.specs.StrongPath.{strong_joint, StrongPath, ClosedStrongPath}
use Rattle.rules.specs.Decision.{cyclic}
use Rattle.search.specs.Rows.{Successor, Rows}
use Rattle.search.specs.Arrivals.{word_by, In, size, Fits, Put}
use Rattle.search.specs.declared.Arrivals.{Arrivals}

abbrev pub arrivals : ℕ → ℕ → Arrivals
arrivals r n = record { r = r; n = n }

-- What is done, as two words.
abbrev pub done_of : List ℕ → Arrivals
done_of done = arrivals (get_or done 0 0) (get_or done 1 0)

-- A set as the two words that the laws of the walk speak of: done_of (words_of s) is s.
abbrev pub words_of : Arrivals → List ℕ
words_of s = s.r ∷ s.n ∷ []

pub record Words (done : List ℕ) : Type 0 where
  pub long : length done ≡ 2
  pub fits : Fits (done_of done)

-- Every strong path on from class i, arrived at by a, ends.
pub data Ends (rows : List ℕ) : ℕ → Second → Type 0 where
  ends : {i : ℕ} {a : Second} → ((j : ℕ) (k : Kind) → strong_joint a k.first ≡ true → Successor rows i k j → Ends rows j k.second) → Ends rows i a

-- The strong paths of all that is done end.
pub record Settled (rows done : List ℕ) : Type 0 where
  pub words : Words done
  pub over : (j : ℕ) (b : Second) → In (done_of done) j b → Ends rows j b

-- What was done stays done.
pub record Grown (rows done done' : List ℕ) : Type 0 where
  pub settled : Settled rows done'
  pub kept : (j : ℕ) (b : Second) → In (done_of done) j b → In (done_of done') j b

-- A strong path leads on from class j, arrived at by b, to class x, where it arrives by a.
pub record LeadsTo (K : ℕ) (g : Graph) (j : ℕ) (b : Second) (x : ℕ) (a : Second) : Type 0 where
  pub begins : Kind
  pub ends_by : Kind
  pub path : StrongPath K g j begins x ends_by
  pub goes_on : strong_joint b begins.first ≡ true
  pub arrives : ends_by.second ≡ a

pub record Meets (s t : Arrivals) (b : Bool) : Type 0 where
  pub some : b ≡ true → (j : ℕ) × (a : Second) × In s j a × In t j a
  pub none : b ≡ false → (j : ℕ) (a : Second) → In s j a → In t j a → ⊥

-- Class x is done as after a.
pub record Finished (done : List ℕ) (x : ℕ) (a : Second) (done' : List ℕ) : Type 0 where
  pub words : Words done'
  pub put : Put x a (done_of done) (done_of done')

-- What a visit of class x, arrived at by a, is given: `on` are the arrivals on the path to here, and `done` those that are done with.
pub record Given (rows : List ℕ) (x : ℕ) (a : Second) (on : Arrivals) (done : List ℕ) (left : ℕ) : Type 0 where
  pub class : x < 64
  pub fresh : bit (word_by on a) x ≡ 0
  pub fits : Fits on
  pub enough : 128 ≤ left + size on
  pub settled : Settled rows done

-- What it gives: a closed strong path if the arrivals on the path lead to here, or else x is done too.
pub record Visited (rows : List ℕ) (x : ℕ) (a : Second) (on : Arrivals) (done : List ℕ) (r : Bool) (done' : List ℕ) : Type 0 where
  pub closed : r ≡ true → (K : ℕ) (g : Graph) → Rows K g rows → x < K → ((j : ℕ) (b : Second) → In on j b → LeadsTo K g j b x a) → ClosedStrongPath K g
  pub settled : r ≡ false → Grown rows done done' × In (done_of done') x a

pub record Decided (K : ℕ) (rows : List ℕ) (r : Bool) : Type 0 where
  pub is : (g : Graph) → Rows K g rows → r ≡ cyclic K g
