-- The dependencies of a class by rank, the choice among them, and the cycle.
use Rattle.std.specs.Prelude.{Option, None, Some, [], ◌≡◌, Bool, true, List, ℕ, ◌+◌, ◌/◌, ◌<◌, ◌≤◌, min, length, get_or}
use Rattle.words.specs.Bits.{bit}
use Rattle.rules.specs.HeldLocks.{Second, R, N, Core}
use Rattle.rules.specs.Marks.{hard_irq, soft_irq, unsafe}
use Rattle.rules.specs.Graph.{Graph, Source, lock, irq, dependency_by}
use Rattle.rules.specs.Decision.{tabulate}
use Rattle.rules.specs.Cycle.{Entry, Cycle}
use Rattle.rules.specs.LeastCycle.{LeastCycle}
use Rattle.rules.specs.Ranks.{kind_of_place, rank_count, kind_at, source_at}
use Rattle.layout.specs.Encoding.{DeskBytes, SheetBytes}
use Rattle.search.specs.Rows.{Rows}
use Rattle.search.specs.Arrivals.{word_by}
use Rattle.search.specs.declared.Arrivals.{Arrivals}
use Rattle.successors.specs.Column.{kind_word}
use Rattle.successors.specs.Successors.{level_digit, usage_digit, mark_number, safe_of}
use Rattle.successors.specs.declared.KindWords.{KindWords}
use Rattle.successors.specs.declared.SafeWords.{SafeWords}
use Rattle.routes.specs.Routes.{Home, Start, Greedy}
use Rattle.starts.specs.Levels.{letter_at, level_at, Level}
use Rattle.shortest.specs.declared.Choice.{Choice}
use Rattle.shortest.specs.declared.Found.{Found}
use Rattle.shortest.specs.declared.Ranked.{Ranked}
use Rattle.shortest.specs.declared.Sources.{Sources}
use Rattle.search.specs.declared.SecondLetter.{SecondLetter}
use Rattle.search.specs.declared.SecondLetter.TheVariants as code

-- ---- The words of a class.

-- The bytes are the graph g.
pub record Encoded (K : ℕ) (g : Graph) (desk sheet : List ℕ) : Type 0 where
  pub is_closed : Bool
  pub cores : ℕ → Core
  pub in_desk : DeskBytes K is_closed cores g.marks desk
  pub in_sheet : SheetBytes K g.locks sheet

abbrev pub lock_at : KindWords → ℕ → ℕ
lock_at w p = kind_word w (kind_of_place p).first (kind_of_place p).second

abbrev pub safe_word_at : SafeWords → ℕ → ℕ
safe_word_at w p = safe_of w (kind_of_place p).second

abbrev pub unsafe_at : ℕ → ℕ
unsafe_at p = usage_digit (unsafe (kind_of_place p).first)

-- What the dependencies of a kind's place come from.
pub record OfPlace (locks : KindWords) (hard soft : SafeWords) (p : ℕ) (of : Sources) : Type 0 where
  pub by_lock : of.lock ≡ lock_at locks p
  pub by_mark : mark_number of.mark ≡ unsafe_at p
  pub by_hard : of.hard ≡ safe_word_at hard p
  pub by_soft : of.soft ≡ safe_word_at soft p

-- The dependency of a source and of a kind's place to class t, as a binary digit.
abbrev pub digit_by : Source → (mark : ℕ) → KindWords → (hard soft : SafeWords) → (p t : ℕ) → ℕ
digit_by lock mark locks hard soft p t = bit (lock_at locks p) t
digit_by (irq hard_irq) mark locks hard soft p t = min (bit mark (unsafe_at p + level_digit hard_irq)) (bit (safe_word_at hard p) t)
digit_by (irq soft_irq) mark locks hard soft p t = min (bit mark (unsafe_at p + level_digit soft_irq)) (bit (safe_word_at soft p) t)

pub record RankWord (mark : ℕ) (locks : KindWords) (hard soft : SafeWords) (j word : ℕ) : Type 0 where
  pub at : (t : ℕ) → bit word t ≡ digit_by (source_at j) mark locks hard soft (j / 3) t

-- The words of class x, one for each rank, are its dependencies in the graph g.
pub record ByRank (K : ℕ) (g : Graph) (x : ℕ) (words : List ℕ) : Type 0 where
  pub sound : (j t : ℕ) → j < rank_count → bit (get_or words j 0) t ≡ 1 → (t < K) × (dependency_by (source_at j) g x t (kind_at j) ≡ true)
  pub complete : (j t : ℕ) → j < rank_count → t < K → dependency_by (source_at j) g x t (kind_at j) ≡ true → bit (get_or words j 0) t ≡ 1

-- Whatever the bytes are, the words' classes are below K.
pub record RankWords (desk sheet : List ℕ) (K x : ℕ) (words : List ℕ) : Type 0 where
  pub ranged : (j t : ℕ) → j < rank_count → bit (get_or words j 0) t ≡ 1 → t < K
  pub graph : (g : Graph) → Encoded K g desk sheet → ByRank K g x words

-- ---- The choice.

-- The word of the set that a rank's second letter asks for.
abbrev pub Side : Arrivals → ℕ → ℕ
Side s j = word_by s (kind_at j).second

-- How many ranks may follow.
abbrev pub ranks_after : Second → ℕ
ranks_after R = 6
ranks_after N = 12

-- A member of both the word of the rank and the set.
abbrev pub Hit : List ℕ → Arrivals → ℕ → ℕ → Type 0
Hit words s j t = (bit (get_or words j 0) t ≡ 1) × (bit (Side s j) t ≡ 1)

-- The first hit by rank and by class, of the ranks below n; rank 12 if there is none.
pub record Picked (words : List ℕ) (n : ℕ) (s : Arrivals) (c : Choice) : Type 0 where
  pub small : c.rank ≤ rank_count
  pub zero : c.rank ≡ rank_count → c.to ≡ 0
  pub none : c.rank ≡ rank_count → (j t : ℕ) → j < n → Hit words s j t → ⊥
  pub below : (c.rank ≡ rank_count → ⊥) → c.rank < n
  pub hit : (c.rank ≡ rank_count → ⊥) → Hit words s c.rank c.to
  pub first : (j t : ℕ) → j < c.rank → j < n → Hit words s j t → ⊥
  pub lowest : (c.rank ≡ rank_count → ⊥) → (t : ℕ) → t < c.to → Hit words s c.rank t → ⊥

-- A choice that may be none: then rank 12 to class 0.
abbrev pub choice_of : Option Choice → Choice
choice_of None = record { rank = 12; to = 0 }
choice_of (Some c) = c

-- ---- The cycle.

-- A second letter as a number.
abbrev pub letter_number : SecondLetter → ℕ
letter_number code.R = 0
letter_number code.N = 1

-- Dependency i of a cycle: its class and its rank.
abbrev pub found_at : Found → ℕ → Ranked
found_at f i = get_or f.dependencies i (record { class = 0; rank = 0 })

abbrev pub found_entry : Found → ℕ → Entry
found_entry f i = record { class = (found_at f i).class; kind = kind_at (found_at f i).rank; source = source_at (found_at f i).rank }

-- A cycle that may be none: then one of no dependencies.
abbrev pub found_of : Option Found → Found
found_of None = record { n = 0; dependencies = [] }
found_of (Some f) = f

abbrev pub found_entries : Found → List Entry
found_entries f = tabulate f.n (found_entry f)

pub record Written (f : Found) (i class rank : ℕ) (r : Found) : Type 0 where
  pub n : r.n ≡ f.n
  pub class_at : (found_at r i).class ≡ class
  pub rank_at : (found_at r i).rank ≡ rank
  pub classes : (j : ℕ) → j < i → (found_at r j).class ≡ (found_at f j).class
  pub ranks : (j : ℕ) → j < i → (found_at r j).rank ≡ (found_at f j).rank

pub record Letter (rank letter : ℕ) : Type 0 where
  pub is : rank < rank_count → letter_at letter ≡ (kind_at rank).second

-- The start and the levels are right for the graph g: a cycle of `size` dependencies from class `start` as after the letter `by`.
pub record Prepared (K : ℕ) (g : Graph) (desk sheet rows : List ℕ) (size start by : ℕ) (levels : List ℕ) : Type 0 where
  pub encoded : Encoded K g desk sheet
  pub graph : Rows K g rows
  pub begins : Start K g size start (letter_at by)
  pub level : (m : ℕ) → m < size → Level rows K start (letter_at by) m (level_at levels m)
  pub home : Home K g start (letter_at by) size start (letter_at by)

pub record Chained (desk sheet : List ℕ) (K size start by : ℕ) (levels : List ℕ) (f : Found) : Type 0 where
  pub n : f.n ≡ size
  pub greedy : (g : Graph) (rows : List ℕ) → Prepared K g desk sheet rows size start by levels
      → Greedy K g start (letter_at by) start (letter_at by) (found_entries f)

-- With a cycle of at most `limit` dependencies f is the least cycle of the graph that bytes and words are.
pub record Shortest (desk sheet rows : List ℕ) (K limit : ℕ) (f : Found) : Type 0 where
  pub few : f.n ≤ K
  pub some : (g : Graph) → Rows K g rows → (es : List Entry) → Cycle K g es → length es ≤ limit → 0 < f.n
  pub least : 0 < f.n → (g : Graph) → Encoded K g desk sheet → Rows K g rows → LeastCycle K g (found_entries f)
