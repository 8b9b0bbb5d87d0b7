-- The invariant: the lanes are the columns of the bytes that came, from the last one on.
use Prim.Native.Nat.{◌-◌, ◌≤◌}
use mathlib.Core.Path.{◌≡◌}
use lib.ListN.{length}
use Rattle.successors.specs.Column as col
use Rattle.successors.proofs.block.Given as goal

abbrev pub invariant-loop-byte : goal.invariant-loop-byte
invariant-loop-byte l =
    (length l.yielded ≤ length l.bytes) × (l.lanes ≡ col.lanes l.bytes (length l.bytes - length l.yielded) (length l.yielded))
