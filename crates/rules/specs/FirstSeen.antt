-- Document 02, e: the numbers, worked out from a list of records alone. proofs/Journals.antt shows that a run's journal has them.
use Rattle.std.specs.Prelude.{cond, List, [], ◌∷◌, ℕ, zero, suc}
use Rattle.rules.specs.Record.{Bytes, core_of}
use Rattle.rules.specs.Graph.{Dependencies}
use Rattle.rules.specs.KindNames.{some_kind}
use Rattle.rules.specs.Run.{State, drawn_with, step}
use Rattle.rules.specs.Balance.{is_accepted}
use Rattle.rules.specs.Join.{first_or}

-- The lock dependencies that each accepted record draws, in the order of the records.
abbrev pub drawings : ℕ → State → List Bytes → List Dependencies
drawings K s [] = []
drawings K s (r ∷ rs) =
    let o = step K s r in
    cond (is_accepted o.answer) (drawn_with (s.cores (core_of r)) s.cross r ∷ drawings K o.state rs) (drawings K o.state rs)

-- One more than a number, but 0 of 0.
abbrev pub one_later : ℕ → ℕ
one_later zero = zero
one_later (suc n) = suc (suc n)

-- "the number of the accepted record that first drew a hold arrow there, 0 for none": counted from 1.
abbrev pub first_drawn : (from to : ℕ) → List Dependencies → ℕ
first_drawn f t [] = 0
first_drawn f t (d ∷ ds) = cond (some_kind (d f t)) 1 (one_later (first_drawn f t ds))

-- The number of a pair after a list of records from a state with no record counted: the one it has at the start, which stays, or the one that the list
-- gives it. At opening no pair has one.
abbrev pub number_after : ℕ → State → List Bytes → (from to : ℕ) → ℕ
number_after K s rs f t = first_or (s.journal.seen f t) (first_drawn f t (drawings K s rs))
