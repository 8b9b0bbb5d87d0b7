use native.Mathlib.Omega.{arith}
use lib.ListN.{length-set}
use Rattle.held.proofs.Frames.{push_law}
use Rattle.held.proofs.push.Goals as goal

pub bounds-desk-frame-3 : goal.bounds-desk-frame-3
bounds-desk-frame-3 c = simp length-set (omega (arith, c.put_origin.ensures.long))

pub returns : goal.returns
returns c =
    let p = c.requires in
    push_law _ _ p.0 p.1 p.2 _ _ _ p.4 c.put_origin.ensures
