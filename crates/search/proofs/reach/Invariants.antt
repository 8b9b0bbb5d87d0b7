-- The loop's invariant is Progress, and its measure counts the arrivals that are not expanded.
use Prim.Native.Nat.{◌-◌}
use Rattle.search.specs.Arrivals.{size}
use Rattle.search.proofs.Paths.{Progress}
use Rattle.search.proofs.reach.Given as goal

abbrev pub invariant-loop-next : goal.invariant-loop-next
invariant-loop-next l = Progress l.rows l.k l.class l.reached l.expanded

abbrev pub decreases-loop-next : goal.decreases-loop-next
decreases-loop-next l = 128 - size l.expanded
