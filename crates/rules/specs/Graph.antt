-- The dependency graph ("drawing"): lock dependencies ("hold arrows") and interrupt dependencies ("interrupt arrows") between lock classes.
use Rattle.std.specs.Prelude.{Bool, false, not, ◌&&◌, ◌||◌, ℕ, ltb, eqb}
use Rattle.rules.specs.Record.{Event, acquire, release, interrupt, cross_acquire, commit, cross_release}
use Rattle.rules.specs.HeldLocks.{First, Second, E, S, R, N, same_first, same_second, is_try, first_of, second_by, some_held, Core, current}
use Rattle.rules.specs.Marks.{Level, hard_irq, soft_irq, safe, unsafe, Marks}

-- The kind of a dependency: what its first lock blocks and how its second lock waits (001).
pub record Kind : Type 0 where
  pub first : First
  pub second : Second

-- The kind's bit in a byte of the sheet: "ER 1, EN 2, SR 4, SN 8".
abbrev pub kind_bit_by : First → Second → ℕ
kind_bit_by E R = 1
kind_bit_by E N = 2
kind_bit_by S R = 4
kind_bit_by S N = 8

abbrev pub kind_bit : Kind → ℕ
kind_bit k = kind_bit_by k.first k.second

-- Which dependencies there are: from a class, to a class, of a kind.
abbrev pub Dependencies : Type 0
Dependencies = (from to : ℕ) → Kind → Bool

pub record Graph : Type 0 where
  pub locks : Dependencies
  pub marks : Marks

abbrev pub empty_graph : Graph
empty_graph = record { locks = λ f t k. false; marks = λ c l u. false }

abbrev pub add_to : Graph → Dependencies → Marks → Graph
add_to g d m = record { locks = λ f t k. g.locks f t k || d f t k; marks = λ c l u. g.marks c l u || m c l u }

-- What is drawn from held locks. "A take draws one hold arrow to the new class from every hold in the core's current frame"; a try "draws no arrow from
-- the older holds". The take of a crosslock "draws hold arrows, EN or SN by the hold's mode, from the current frame's holds (TC)". No other record draws
-- one from them; a commit draws from the history (Crosslocks.antt).
abbrev pub drawn_by : Event → Core → Dependencies
drawn_by (acquire c m) core f t k =
    not (is_try m)
    && (eqb t c && same_second k.second (second_by m) && some_held f (λ h. same_first k.first (first_of h)) (current core))
drawn_by (release c m) core f t k = false
drawn_by (interrupt e) core f t k = false
drawn_by (cross_acquire c) core f t k =
    eqb t c && same_second k.second N && some_held f (λ h. same_first k.first (first_of h)) (current core)
drawn_by (commit c) core f t k = false
drawn_by (cross_release c) core f t k = false

-- Where a dependency comes from. Numbers 0 hold, 1 hard, 2 soft in the slip.
pub data Source : Type 0 where
  lock : Source
  irq : Level → Source

abbrev pub source_number : Source → ℕ
source_number lock = 0
source_number (irq hard_irq) = 1
source_number (irq soft_irq) = 2

-- "An interrupt arrow goes from each class with an unsafe mark to each class with a safe mark of the same level, its kind made of the two
-- letters."
abbrev pub dependency_by : Source → Graph → Dependencies
dependency_by lock g f t k = g.locks f t k
dependency_by (irq l) g f t k = g.marks t l (safe k.second) && g.marks f l (unsafe k.first)

-- "The drawing is all hold and interrupt arrows", between the classes 0 to K-1.
unfoldable pub dependency : ℕ → Graph → Dependencies
dependency K g f t k =
    (ltb f K && ltb t K) && (dependency_by lock g f t k || dependency_by (irq hard_irq) g f t k || dependency_by (irq soft_irq) g f t k)
