use borrow.Author.Rules.{rules}
use Rattle.rules.specs.HeldLocks.{R, N}
use Rattle.search.specs.Walk.{Meets}
use Rattle.search.proofs.Sets.{by_zero, meets_by, meets_not}
use Rattle.search.proofs.Arrivals.meets.Goals as goal

pub returns-then-both-ne0 : goal.returns-then-both-ne0
returns-then-both-ne0 c = by_zero (Meets c.args.self c.args.other) c.both.result (λ n. meets_by R c.both.ensures (search rules) n) (λ z. absurd (c.if-both-ne0.true z))

pub returns-else-both-ne0 : goal.returns-else-both-ne0
returns-else-both-ne0 c =
    by_zero (Meets c.args.self c.args.other) c.both-else-both-ne0.result (λ n. meets_by N c.both-else-both-ne0.ensures (search rules) n)
    (λ z. meets_not c.both.ensures c.if-both-ne0.false c.both-else-both-ne0.ensures z)
