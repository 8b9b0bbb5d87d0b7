use native.Mathlib.Omega.{arith}
use Rattle.held.proofs.Last.{found_inside, fitting_none, fitting_hit, fitting_miss}
use Rattle.held.proofs.fitting.Goals as goal

pub returns-in_err-p : goal.returns-in_err-p
returns-in_err-p c = fitting_none _ _ _ _ c.newest.ensures c.in_err-p.was _ c.from_residual.ensures

pub overflow_add-held_as-2 : goal.overflow_add-held_as-2
overflow_add-held_as-2 c = let m = found_inside _ _ _ 0 c.newest.ensures _ c.in_ok-p.was in omega arith

pub bounds-desk-frame : goal.bounds-desk-frame
bounds-desk-frame c = let m = found_inside _ _ _ 0 c.newest.ensures _ c.in_ok-p.was in omega arith

pub overflow_add-frame : goal.overflow_add-frame
overflow_add-frame c = let m = found_inside _ _ _ 0 c.newest.ensures _ c.in_ok-p.was in omega arith

pub origin-tried-requires : goal.origin-tried-requires
origin-tried-requires c = let m = found_inside _ _ _ 0 c.newest.ensures _ c.in_ok-p.was in (omega arith, omega arith)

pub returns-then-mode-held_as : goal.returns-then-mode-held_as
returns-then-mode-held_as c =
    fitting_hit _ _ _ _ c.newest.ensures _ c.in_ok-p.was (rw c.origin-tried.ensures at c.if-mode-held_as.true)

pub returns : goal.returns
returns c = fitting_miss _ _ _ _ c.newest.ensures _ c.in_ok-p.was (rw c.origin-tried.ensures at c.if-mode-held_as.false)
