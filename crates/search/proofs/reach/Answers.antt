use Rattle.search.specs.Letters.{second_letter}
use Rattle.search.proofs.Paths.{after_joined, progress_none, progress_more, reached_law}
use Rattle.search.proofs.Sets.{union_law}
use Rattle.search.proofs.reach.Goals as goal

pub loop-next-init : goal.loop-next-init
loop-next-init c = progress_none c.requires.0 c.requires.1 c.after-reached.ensures.after

pub loop-next-preserved : goal.loop-next-preserved
loop-next-preserved c =
    let b = second_letter c.in-Some.by in
    let e = c.in-Some.ensures in
    progress_more c.requires.0 c.requires.1 b c.loop-next.invariant ((c.without.ensures b).from _ e.member) c.with-expanded.ensures
    (after_joined c.after.ensures c.union-reached.ensures)

pub returns : goal.returns
returns c = reached_law c.requires.0 c.loop-next.invariant c.without.ensures c.in_default.ensures (union_law c.loop-next.reached.r c.loop-next.reached.n)
