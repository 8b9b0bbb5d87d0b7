use Prim.Native.Nat.{◌-◌}
use mathlib.Core.Path.{◌≡◌}
use native.Mathlib.Omega.{arith}
use lib.ListN.{length}
use Rattle.std.proofs.lemmas.List.{length_push, length-reverse}
use Rattle.std.proofs.lemmas.Iterator.Adapters.{YieldsList-from_rev_slice}
use Rattle.std.proofs.lemmas.Iterator.Consumers.{YieldsList-turn, YieldsList-end}
use Rattle.successors.proofs.Digits.{column_none, lanes_back, lanes_split, from_end}
use Rattle.successors.proofs.block.Goals as goal

pub loop-byte-init : goal.loop-byte-init
loop-byte-init c = (omega arith, simp column_none)

pub overflow_mul-lanes : goal.overflow_mul-lanes
overflow_mul-lanes c =
    let xs = c.args.bytes.now in
    let n = length c.loop-byte.yielded in
    let t = from_end xs n c.in-Some.byte.now (YieldsList-turn (YieldsList-from_rev_slice xs cc) c.loop-byte.yielded _ c.loop-byte.yielded_by _ _ c.in-Some.byte c.in-Some.is c.next.ensures.steps) in
    let e = lanes_back xs n t.0 c.requires in
    omega arith

pub overflow_add-lanes : goal.overflow_add-lanes
overflow_add-lanes c =
    let xs = c.args.bytes.now in
    let n = length c.loop-byte.yielded in
    let t = from_end xs n c.in-Some.byte.now (YieldsList-turn (YieldsList-from_rev_slice xs cc) c.loop-byte.yielded _ c.loop-byte.yielded_by _ _ c.in-Some.byte c.in-Some.is c.next.ensures.steps) in
    let e = lanes_back xs n t.0 c.requires in
    let d = rw t.1 at c.spread.ensures in
    omega arith

pub loop-byte-preserved : goal.loop-byte-preserved
loop-byte-preserved c =
    let xs = c.args.bytes.now in
    let n = length c.loop-byte.yielded in
    let t = from_end xs n c.in-Some.byte.now (YieldsList-turn (YieldsList-from_rev_slice xs cc) c.loop-byte.yielded _ c.loop-byte.yielded_by _ _ c.in-Some.byte c.in-Some.is c.next.ensures.steps) in
    let e = lanes_back xs n t.0 c.requires in
    let p = length_push c.loop-byte.yielded c.in-Some.byte in
    let d = rw t.1 at c.spread.ensures in
    rw p (omega arith, omega arith)

pub returns : goal.returns
returns c =
    let xs = c.args.bytes.now in
    let t = YieldsList-end (YieldsList-from_rev_slice xs cc) c.loop-byte.yielded _ c.loop-byte.yielded_by _ _ c.in-None.is c.next.ensures.steps in
    let e : length c.loop-byte.yielded ≡ length xs = rw length-reverse at t.1 in
    let z : length xs - length xs ≡ 0 = omega arith in
    lanes_split xs 0 (length xs) c.loop-byte.lanes c.requires (rw (e, z) at c.loop-byte.invariant.1)
