-- The measure of the walk is what is not on the path. The loops' invariant: the strong paths of all that is done end. Their measure: what is not done.
use Rattle.std.proofs.Common.{◌-◌}
use Rattle.search.specs.Arrivals.{size}
use Rattle.search.specs.Walk.{words_of, Grown}
use Rattle.search.proofs.+walk.Given as goal

abbrev pub decreases-arrived_by_n : goal.decreases-arrived_by_n
decreases-arrived_by_n l = 128 - size l.on

abbrev pub decreases-arrived_by_r : goal.decreases-arrived_by_r
decreases-arrived_by_r l = 128 - size l.on

abbrev pub invariant-arrived_by_n-loop-next : goal.invariant-arrived_by_n-loop-next
invariant-arrived_by_n-loop-next l = Grown l.rows (words_of l.initial.done) (words_of l.done)

abbrev pub decreases-arrived_by_n-loop-next : goal.decreases-arrived_by_n-loop-next
decreases-arrived_by_n-loop-next l = 128 - size l.done

abbrev pub invariant-arrived_by_r-loop-next : goal.invariant-arrived_by_r-loop-next
invariant-arrived_by_r-loop-next l = Grown l.rows (words_of l.initial.done) (words_of l.done)

abbrev pub decreases-arrived_by_r-loop-next : goal.decreases-arrived_by_r-loop-next
decreases-arrived_by_r-loop-next l = 128 - size l.done
