use native.Mathlib.Omega.{arith}
use Rattle.update.proofs.Marking.{mode_small, marking_start, marking_step, marking_done}
use Rattle.update.proofs.Notes.{noting_start, noting_step, noting_done}
use Rattle.update.proofs.mark.Goals as goal

pub loop-p-init : goal.loop-p-init
loop-p-init c = (marking_start _ _ _, noting_start _)

pub origin-tried-requires : goal.origin-tried-requires
origin-tried-requires c =
    let l = c.loop-p in
    let p = c.requires in
    (omega (arith, l.invariant.0.keeps.long, p.0.long), omega (arith, p.0.frame, p.0.depth))

pub overflow_cast-tried : goal.overflow_cast-tried
overflow_cast-tried c = rw c.origin-tried.ensures (omega arith)

pub overflow_mul-tried : goal.overflow_mul-tried
overflow_mul-tried c = rw c.origin-tried.ensures (omega arith)

pub overflow_add-held-in-loop-p-2 : goal.overflow_add-held-in-loop-p-2
overflow_add-held-in-loop-p-2 c =
    let l = c.loop-p in
    let p = c.requires in
    let h = mode_small _ _ _ l.invariant.0 l.p (p.0.mode l.p (omega arith)) in
    rw c.origin-tried.ensures (omega arith)

pub mark_bits-requires : goal.mark_bits-requires
mark_bits-requires c =
    let l = c.loop-p in
    let p = c.requires in
    rw c.origin-tried.ensures (mode_small _ _ _ l.invariant.0 l.p (p.0.mode l.p (omega arith)))

pub loop-p-preserved : goal.loop-p-preserved
loop-p-preserved c =
    let p = c.requires in
    let l = c.loop-p in (
      rw (c.mark_bits.ensures, c.origin-tried.ensures)
          (marking_step _ _ _ l.p _ l.invariant.0 (omega arith) (omega (arith, p.0.depth)) p.0.long (omega arith)),
      noting_step l.invariant.1 _ _ (omega (arith, l.invariant.0.keeps.long, p.0.long)),
    )

pub shape_of-desk : goal.shape_of-desk
shape_of-desk c = c.loop-p.invariant.0.keeps.long

pub returns : goal.returns
returns c = (marking_done _ _ _ _ _ c.loop-p.invariant.0 (omega arith), noting_done c.loop-p.invariant.1)
