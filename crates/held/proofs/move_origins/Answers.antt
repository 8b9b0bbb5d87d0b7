use Prim.Native.Nat.{ℕ}
use native.Mathlib.Omega.{arith}
use mathlib.Core.Path.{◌≡◌, ◌∙◌, subst}
use Rattle.held.proofs.Frames.{OriginsMoving, origins_start, origins_step, origins_done}
use Rattle.held.proofs.move_origins.Goals as goal

pub loop-p-init : goal.loop-p-init
loop-p-init c = origins_start _ _ _

pub origin-next-requires : goal.origin-next-requires
origin-next-requires c = (omega (arith, c.loop-p.invariant.long), omega arith)

pub put_origin-requires : goal.put_origin-requires
put_origin-requires c =
    (omega (arith, c.loop-p.invariant.long), omega arith, rw c.origin-next.ensures (omega arith))

pub loop-p-preserved : goal.loop-p-preserved
loop-p-preserved c =
    let l = c.loop-p in
    let p = c.requires in
    let put = rw c.origin-next.ensures at c.put_origin.ensures in
    origins_step l.invariant p.1 (omega arith) put

pub put_origin-requires-2 : goal.put_origin-requires-2
put_origin-requires-2 c = (omega (arith, c.loop-p.invariant.long), omega arith, omega arith)

pub shape_of-desk : goal.shape_of-desk
shape_of-desk c = c.put_origin-2.ensures.long ∙ c.loop-p.invariant.long

pub returns : goal.returns
returns c =
    let l = c.loop-p in
    let a = c.args in
    let p = c.requires in
    let e : l.p ≡ a.last = omega arith in
    origins_done (subst (λ (m : ℕ). OriginsMoving a.desk.now a.frame a.at m l.desk) e l.invariant) p.1 p.3 c.put_origin-2.ensures
