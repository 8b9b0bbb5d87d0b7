-- The invariant: the word is the column of the bytes that came, from the last one on.
use Prim.Native.Nat.{◌-◌, ◌≤◌}
use mathlib.Core.Path.{◌≡◌}
use lib.ListN.{length}
use Rattle.successors.specs.Column.{column}
use Rattle.successors.proofs.column_of.Given as goal

abbrev pub invariant-loop-byte : goal.invariant-loop-byte
invariant-loop-byte l =
    (length l.yielded ≤ length l.bytes) × (l.word ≡ column l.bytes (length l.bytes - length l.yielded) l.d (length l.yielded))
