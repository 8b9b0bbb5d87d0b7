use borrow.Author.Count.{below_more}
use native.Mathlib.Omega.{arith}
use Rattle.rules.specs.HeldLocks.{N}
use Rattle.search.proofs.Visits.{none_done, cyclic_law, acyclic_law}
use Rattle.search.proofs.is_cyclic.Goals as goal

pub loop-class-init : goal.loop-class-init
loop-class-init c = (none_done, λ j h. absurd (omega arith))

pub returns-then-met_from : goal.returns-then-met_from
returns-then-met_from c = cyclic_law c.loop-class-test.true c.met_from.ensures c.if-met_from.true

pub loop-class-preserved : goal.loop-class-preserved
loop-class-preserved c = let q = c.met_from.ensures.settled c.if-met_from.false in (q.0.settled, below_more _ _ (λ j h. q.0.kept j N (c.loop-class.invariant.1 j h)) q.1)

pub returns : goal.returns
returns c = acyclic_law c.loop-class.invariant.0 (λ j h. c.loop-class.invariant.1 j (omega arith))
