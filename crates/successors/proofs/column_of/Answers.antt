use Prim.Native.Nat.{◌-◌}
use mathlib.Core.Path.{◌≡◌, sym}
use native.Mathlib.Omega.{arith}
use lib.ListN.{length}
use Rattle.std.proofs.lemmas.List.{length_push, length-reverse}
use Rattle.std.proofs.lemmas.Iterator.Adapters.{YieldsList-from_rev_slice}
use Rattle.std.proofs.lemmas.Iterator.Consumers.{YieldsList-turn, YieldsList-end}
use Rattle.words.proofs.Words.{bit_two}
use Rattle.successors.proofs.Digits.{column_none, column_back, column_bound, from_end}
use Rattle.successors.proofs.column_of.Goals as goal

pub loop-byte-init : goal.loop-byte-init
loop-byte-init c = (omega arith, sym (column_none c.args.bytes.now c.args.d _))

pub overflow_mul-word : goal.overflow_mul-word
overflow_mul-word c =
    let xs = c.args.bytes.now in
    let n = length c.loop-byte.yielded in
    let t = from_end xs n c.in-Some.byte.now (YieldsList-turn (YieldsList-from_rev_slice xs cc) c.loop-byte.yielded _ c.loop-byte.yielded_by _ _ c.in-Some.byte c.in-Some.is c.next.ensures.steps) in
    let b = column_bound xs c.args.d n (length xs - n) 63 (omega arith) in
    omega arith

pub overflow_add-word : goal.overflow_add-word
overflow_add-word c =
    let xs = c.args.bytes.now in
    let n = length c.loop-byte.yielded in
    let t = from_end xs n c.in-Some.byte.now (YieldsList-turn (YieldsList-from_rev_slice xs cc) c.loop-byte.yielded _ c.loop-byte.yielded_by _ _ c.in-Some.byte c.in-Some.is c.next.ensures.steps) in
    let b = column_bound xs c.args.d n (length xs - n) 63 (omega arith) in
    omega (arith, bit_two c.in-Some.byte.now c.args.d)

pub loop-byte-preserved : goal.loop-byte-preserved
loop-byte-preserved c =
    let xs = c.args.bytes.now in
    let n = length c.loop-byte.yielded in
    let t = from_end xs n c.in-Some.byte.now (YieldsList-turn (YieldsList-from_rev_slice xs cc) c.loop-byte.yielded _ c.loop-byte.yielded_by _ _ c.in-Some.byte c.in-Some.is c.next.ensures.steps) in
    let e = column_back xs c.args.d n t.0 in
    let p = length_push c.loop-byte.yielded c.in-Some.byte in
    let d = rw t.1 at c.digit.ensures in
    rw p (omega arith, omega arith)

pub returns : goal.returns
returns c =
    let xs = c.args.bytes.now in
    let t = YieldsList-end (YieldsList-from_rev_slice xs cc) c.loop-byte.yielded _ c.loop-byte.yielded_by _ _ c.in-None.is c.next.ensures.steps in
    let e : length c.loop-byte.yielded ≡ length xs = rw length-reverse at t.1 in
    let z : length xs - length xs ≡ 0 = omega arith in
    rw (e, z) at c.loop-byte.invariant.1
