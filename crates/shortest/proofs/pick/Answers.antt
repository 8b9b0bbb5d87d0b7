use mathlib.Core.Path.{◌≡◌, ap, ◌∙◌}
use native.Mathlib.Omega.{arith}
use Rattle.search.specs.Letters.{second_letter}
use Rattle.search.specs.Arrivals.{word_by}
use Rattle.shortest.specs.Shortest.{ranks_after}
use Rattle.shortest.proofs.Picks.{ranks_few, passed_none, passed_more, picked_some, picked_none}
use Rattle.shortest.proofs.pick.Goals as goal

pub loop-rank-init : goal.loop-rank-init
loop-rank-init c = passed_none

pub returns-then-hit-ne0 : goal.returns-then-hit-ne0
returns-then-hit-ne0 c =
    let few = ranks_few (second_letter c.args.letter) in (
      picked_some c.loop-rank.invariant (c.by.ensures ∙ ap (word_by c.args.to) c.letter_of.ensures) c.both-hit.ensures (omega (arith, c.ranks-rank-end.ensures)) few c.lowest.ensures,
      omega (arith, c.ranks-rank-end.ensures),
    )

pub loop-rank-preserved : goal.loop-rank-preserved
loop-rank-preserved c = passed_more c.loop-rank.invariant (c.by.ensures ∙ ap (word_by c.args.to) c.letter_of.ensures) c.both-hit.ensures c.if-hit-ne0.false

pub returns : goal.returns
returns c =
    let e : c.loop-rank.rank ≡ ranks_after (second_letter c.args.letter) = omega (arith, c.ranks-rank-end.ensures) in
    (picked_none (rw e at c.loop-rank.invariant), tt)
