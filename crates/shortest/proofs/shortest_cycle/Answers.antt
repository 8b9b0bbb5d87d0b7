use mathlib.Core.Path.{refl}
use Rattle.shortest.proofs.Chains.{none_found, found_law}
use Rattle.shortest.proofs.shortest_cycle.Goals as goal

pub returns-in_err-b : goal.returns-in_err-b
returns-in_err-b c =
    let o = rw c.in_err-b.was at c.first_start.ensures in
    rw c.from_residual.ensures (none_found o.0 refl refl)

pub returns : goal.returns
returns c =
    let o = rw c.in_ok-b.was at c.first_start.ensures in
    found_law c.in_ok-b.b o.0 o.1.0 c.fill_after.ensures.0 c.chain.ensures
