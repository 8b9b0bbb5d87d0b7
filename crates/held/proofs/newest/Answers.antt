use Rattle.std.proofs.Common.{rules}
use borrow.Author.Tests.{tests}
use Prim.Native.Nat.{◌%◌}
use lib.Dec.{eqb}
use Rattle.held.proofs.Last.{last_found, newest_found}
use Rattle.held.proofs.newest.Goals as goal

pub returns : goal.returns
returns c =
    let e = c.rposition.ensures in
    let u = e.runs.0 in
    let back = rw e.runs.1 at (c.iter.ensures.runs_back u u.seen) in
    let xs = c.iter.result.rest.now in
    newest_found _ _ _ (rw (← c.iter.ensures.rest) at c.held_bytes.ensures)
    (last_found _ xs (λ b. eqb (b % 64) c.args.class) (λ y b q h. search (rules, tests)) u back _ e.bound e.runs.2)
