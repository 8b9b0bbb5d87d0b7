use native.Mathlib.Omega.{arith}
use Prim.Native.Nat.{◌-◌}
use Rattle.layout.specs.Layout.{depth_of}
use Rattle.held.proofs.Frames.{moving_copied, remove_law}
use Rattle.held.proofs.remove.Goals as goal

pub returns : goal.returns
returns c =
    let p = c.requires in
    let a = c.args in
    let k = c.copy_within.ensures in
    let m = moving_copied a.frame a.at (depth_of a.desk.now a.frame - 1) (omega arith) k.len k.by_index.0 k.by_index.1 k.by_index.2 in
    remove_law _ _ _ p.0 p.1 p.2 p.3 _ _ (omega arith) m _ c.move_origins.ensures
