use native.Mathlib.Omega.{arith}
use Rattle.search.proofs.Visits.{visiting, back_law, undone_law, all_done, deeper, call_given, call_closed, call_less, finish_r, finish_n}
use Rattle.search.proofs.+walk.Goals as goal

pub arrived_by_n-returns-then-meets : goal.arrived_by_n-returns-then-meets
arrived_by_n-returns-then-meets t c =
    back_law c.with-here.ensures c.after.ensures c.meets.ensures c.if-meets.true

pub arrived_by_n-arrived_by_r-requires : goal.arrived_by_n-arrived_by_r-requires
arrived_by_n-arrived_by_r-requires t c =
    let v = visiting c.requires c.with-here.ensures c.after.ensures c.meets.ensures c.if-meets.false in
    (omega (arith, c.decreases, deeper v), call_given v c.loop-next.invariant (undone_law c.after-in-loop-next.ensures c.without.ensures (rw c.in-R.is at c.in-Some.ensures)))

pub arrived_by_n-returns-then-arrived_by_r : goal.arrived_by_n-returns-then-arrived_by_r
arrived_by_n-returns-then-arrived_by_r t c =
    call_closed (visiting c.requires c.with-here.ensures c.after.ensures c.meets.ensures c.if-meets.false)
    (undone_law c.after-in-loop-next.ensures c.without.ensures (rw c.in-R.is at c.in-Some.ensures)) c.arrived_by_r.ensures c.if-arrived_by_r.true

pub arrived_by_n-loop-next-smaller-else-arrived_by_r : goal.arrived_by_n-loop-next-smaller-else-arrived_by_r
arrived_by_n-loop-next-smaller-else-arrived_by_r t c =
    call_less c.loop-next.invariant.settled.words (undone_law c.after-in-loop-next.ensures c.without.ensures (rw c.in-R.is at c.in-Some.ensures)) (c.arrived_by_r.ensures.settled c.if-arrived_by_r.false)

pub arrived_by_n-arrived_by_n-requires : goal.arrived_by_n-arrived_by_n-requires
arrived_by_n-arrived_by_n-requires t c =
    let v = visiting c.requires c.with-here.ensures c.after.ensures c.meets.ensures c.if-meets.false in
    (omega (arith, c.decreases, deeper v), call_given v c.loop-next.invariant (undone_law c.after-in-loop-next.ensures c.without.ensures (rw c.in-N.is at c.in-Some.ensures)))

pub arrived_by_n-returns-then-arrived_by_n : goal.arrived_by_n-returns-then-arrived_by_n
arrived_by_n-returns-then-arrived_by_n t c =
    call_closed (visiting c.requires c.with-here.ensures c.after.ensures c.meets.ensures c.if-meets.false)
    (undone_law c.after-in-loop-next.ensures c.without.ensures (rw c.in-N.is at c.in-Some.ensures)) c.arrived_by_n.ensures c.if-arrived_by_n.true

pub arrived_by_n-loop-next-smaller : goal.arrived_by_n-loop-next-smaller
arrived_by_n-loop-next-smaller t c =
    call_less c.loop-next.invariant.settled.words (undone_law c.after-in-loop-next.ensures c.without.ensures (rw c.in-N.is at c.in-Some.ensures)) (c.arrived_by_n.ensures.settled c.if-arrived_by_n.false)

pub arrived_by_n-returns : goal.arrived_by_n-returns
arrived_by_n-returns t c =
    finish_n (visiting c.requires c.with-here.ensures c.after.ensures c.meets.ensures c.if-meets.false) c.loop-next.invariant
    (all_done c.after-in-loop-next.ensures c.without.ensures c.in_default.ensures) c.with.ensures c.with-2.ensures

pub arrived_by_r-returns-then-meets : goal.arrived_by_r-returns-then-meets
arrived_by_r-returns-then-meets t c =
    back_law c.with-here.ensures c.after.ensures c.meets.ensures c.if-meets.true

pub arrived_by_r-arrived_by_r-requires : goal.arrived_by_r-arrived_by_r-requires
arrived_by_r-arrived_by_r-requires t c =
    let v = visiting c.requires c.with-here.ensures c.after.ensures c.meets.ensures c.if-meets.false in
    (omega (arith, c.decreases, deeper v), call_given v c.loop-next.invariant (undone_law c.after-in-loop-next.ensures c.without.ensures (rw c.in-R.is at c.in-Some.ensures)))

pub arrived_by_r-returns-then-arrived_by_r : goal.arrived_by_r-returns-then-arrived_by_r
arrived_by_r-returns-then-arrived_by_r t c =
    call_closed (visiting c.requires c.with-here.ensures c.after.ensures c.meets.ensures c.if-meets.false)
    (undone_law c.after-in-loop-next.ensures c.without.ensures (rw c.in-R.is at c.in-Some.ensures)) c.arrived_by_r.ensures c.if-arrived_by_r.true

pub arrived_by_r-loop-next-smaller-else-arrived_by_r : goal.arrived_by_r-loop-next-smaller-else-arrived_by_r
arrived_by_r-loop-next-smaller-else-arrived_by_r t c =
    call_less c.loop-next.invariant.settled.words (undone_law c.after-in-loop-next.ensures c.without.ensures (rw c.in-R.is at c.in-Some.ensures)) (c.arrived_by_r.ensures.settled c.if-arrived_by_r.false)

pub arrived_by_r-arrived_by_n-requires : goal.arrived_by_r-arrived_by_n-requires
arrived_by_r-arrived_by_n-requires t c =
    let v = visiting c.requires c.with-here.ensures c.after.ensures c.meets.ensures c.if-meets.false in
    (omega (arith, c.decreases, deeper v), call_given v c.loop-next.invariant (undone_law c.after-in-loop-next.ensures c.without.ensures (rw c.in-N.is at c.in-Some.ensures)))

pub arrived_by_r-returns-then-arrived_by_n : goal.arrived_by_r-returns-then-arrived_by_n
arrived_by_r-returns-then-arrived_by_n t c =
    call_closed (visiting c.requires c.with-here.ensures c.after.ensures c.meets.ensures c.if-meets.false)
    (undone_law c.after-in-loop-next.ensures c.without.ensures (rw c.in-N.is at c.in-Some.ensures)) c.arrived_by_n.ensures c.if-arrived_by_n.true

pub arrived_by_r-loop-next-smaller : goal.arrived_by_r-loop-next-smaller
arrived_by_r-loop-next-smaller t c =
    call_less c.loop-next.invariant.settled.words (undone_law c.after-in-loop-next.ensures c.without.ensures (rw c.in-N.is at c.in-Some.ensures)) (c.arrived_by_n.ensures.settled c.if-arrived_by_n.false)

pub arrived_by_r-returns : goal.arrived_by_r-returns
arrived_by_r-returns t c =
    finish_r (visiting c.requires c.with-here.ensures c.after.ensures c.meets.ensures c.if-meets.false) c.loop-next.invariant
    (all_done c.after-in-loop-next.ensures c.without.ensures c.in_default.ensures) c.with.ensures
