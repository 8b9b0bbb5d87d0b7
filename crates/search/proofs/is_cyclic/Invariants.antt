-- The loop's invariant: the classes below are done as after N, and the strong paths of all that is done end.
use Prim.Native.Nat.{ℕ, ◌<◌}
use Rattle.rules.specs.HeldLocks.{N}
use Rattle.search.specs.Arrivals.{In}
use Rattle.search.specs.Walk.{words_of, Settled}
use Rattle.search.proofs.is_cyclic.Given as goal

abbrev pub invariant-loop-class : goal.invariant-loop-class
invariant-loop-class l = Settled l.rows (words_of l.done) × ((j : ℕ) → j < l.class → In l.done j N)
