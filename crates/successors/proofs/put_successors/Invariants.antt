-- The invariant: the words of the classes below class are stored.
use Prim.Native.Nat.{◌≤◌}
use Rattle.successors.specs.Successors.{Filled}
use Rattle.successors.proofs.put_successors.Given as goal

abbrev pub invariant-loop-class : goal.invariant-loop-class
invariant-loop-class l = (l.class ≤ l.k) × Filled l.desk l.sheet l.k l.class l.rows
