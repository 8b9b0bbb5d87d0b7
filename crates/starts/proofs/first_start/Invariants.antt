-- The invariants: the best of the starts before this class, and before this letter of the class.
use Prim.Native.Nat.{◌+◌, ◌*◌}
use Rattle.starts.proofs.Starts.{Trying}
use Rattle.starts.proofs.first_start.Given as goal

abbrev pub invariant-loop-class : goal.invariant-loop-class
invariant-loop-class l = Trying l.rows l.k l.fn.limit (2 * l.class) l.best l.most

abbrev pub invariant-loop-letter : goal.invariant-loop-letter
invariant-loop-letter l = Trying l.rows l.k l.fn.limit (2 * l.class + l.letter-index) l.best l.most
