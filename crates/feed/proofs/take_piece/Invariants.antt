-- The invariant: the bytes passed were taken. Assumes nothing.
use mathlib.Core.Path.{◌≡◌}
use Prim.Native.Nat.{◌-◌, ◌≤◌, ◌<◌}
use lib.ListN.{length, take}
use Rattle.rules.specs.Log.{unit_size}
use Rattle.validator.specs.Calls.{buffers}
use Rattle.progress.specs.Code.{feed_of, Counted}
use Rattle.feed.specs.Fed.{Fed}
use Rattle.feed.proofs.take_piece.Given as goal

abbrev pub invariant-loop-at : goal.invariant-loop-at
invariant-loop-at l =
    (l.at ≤ length l.piece)
    × (length l.desk ≡ length l.initial.desk)
    × (length l.sheet ≡ length l.initial.sheet)
    × (length l.seen ≡ length l.initial.seen)
    × (length l.history ≡ length l.initial.history)
    × (length l.slip ≡ length l.initial.slip)
    × Counted l.now
    × (l.now.count < unit_size l.now.opened (feed_of l.now).loose)
    × Fed (feed_of l.initial.now) (buffers l.initial.desk l.initial.sheet l.initial.seen l.initial.history l.initial.slip) (take l.at l.piece) (feed_of l.now) (buffers l.desk l.sheet l.seen l.history l.slip)

abbrev pub decreases-loop-at : goal.decreases-loop-at
decreases-loop-at l =
    length l.piece - l.at
