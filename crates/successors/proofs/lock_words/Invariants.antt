-- The invariant: the words are the columns of the bytes from the block on.
use Prim.Native.Nat.{◌-◌, ◌*◌, ◌≤◌}
use lib.ListN.{length}
use Rattle.successors.specs.Column.{Columns}
use Rattle.successors.proofs.lock_words.Given as goal

abbrev pub invariant-loop-i : goal.invariant-loop-i
invariant-loop-i l = (16 * l.i ≤ length l.row) × Columns l.row (16 * l.i) (length l.row - 16 * l.i) l.words
