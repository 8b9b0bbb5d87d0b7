use native.Mathlib.Omega.{arith}
use Rattle.cores.proofs.Bytes.{state_less, held_in}
use Rattle.conclusion.proofs.Conclusions.{found_some, found_ranged, conclude_clean, conclude_fault}
use Rattle.conclusion.proofs.conclude.Goals as goal

pub frame_of-frame-requires : goal.frame_of-frame-requires
frame_of-frame-requires c =
    (c.requires.0.encodes.long, c.requires.1, state_less c.args.desk.now c.requires.0 c.args.core c.requires.1)

pub state_of-context-requires : goal.state_of-context-requires
state_of-context-requires c =
    (c.requires.0.encodes.long, c.requires.1, state_less c.args.desk.now c.requires.0 c.args.core c.requires.1)

pub mark-requires : goal.mark-requires
mark-requires c =
    let p = c.requires in
    let a = c.args in
    (rw c.frame_of-frame.ensures (held_in a.desk.now p.0 a.core p.1), p.0.few)

pub put_successors-requires : goal.put_successors-requires
put_successors-requires c =
    record { long = omega (arith, c.mark.ensures.0.keeps.long, c.requires.0.encodes.long); few = c.requires.0.few; room = c.requires.2.bytes.long }

pub returns-in_default : goal.returns-in_default
returns-in_default c =
    let p = c.requires in
    conclude_clean _ _ _ _ _ p.0.few p.1 _ _ (rw (c.frame_of-frame.ensures, c.state_of-context.ensures) at c.mark.ensures.0) c.put_successors.ensures (rw c.in_default.is at c.cycle_bound.ensures.bounded)

pub unreachable-requires : goal.unreachable-requires
unreachable-requires c =
    let p = c.requires in
    let h = found_some c.args.desk.now c.args.sheet.now c.args.seen.now c.args.slip.now c.args.core p.0.few p.1 _ _
    (rw (c.frame_of-frame.ensures, c.state_of-context.ensures) at c.mark.ensures.0) c.put_successors.ensures p.0 p.2 (rw c.in-Some.is at c.cycle_bound.ensures.bounded) (rw c.in-Some.is at c.cycle_bound.ensures.some)
    (rw c.in_default-shortest_cycle.is at c.shortest_cycle.ensures) in
    omega (arith, h)

pub show-requires : goal.show-requires
show-requires c =
    let p = c.requires in
    let f = rw c.in-Some-shortest_cycle.is at c.shortest_cycle.ensures in (
      p.0.few,
      f.few,
      found_ranged c.args.desk.now c.args.sheet.now c.args.seen.now c.args.slip.now c.args.core p.0.few p.1 _ _
          (rw (c.frame_of-frame.ensures, c.state_of-context.ensures) at c.mark.ensures.0) c.put_successors.ensures p.0 p.2 (rw c.in-Some.is at c.cycle_bound.ensures.bounded) (λ z. let l = rw c.in-Some.is at c.cycle_bound.ensures.some in absurd (omega arith)) f,
      p.3,
      omega (arith, f.few, p.4),
    )

pub bounds-desk-1 : goal.bounds-desk-1
bounds-desk-1 c =
    omega (arith, c.mark.ensures.0.keeps.long, c.requires.0.encodes.long)

pub returns : goal.returns
returns c =
    let p = c.requires in
    conclude_fault _ _ _ _ _ p.0.few p.1 _ _ (rw (c.frame_of-frame.ensures, c.state_of-context.ensures) at c.mark.ensures.0) c.put_successors.ensures _ (rw c.in-Some.is at c.cycle_bound.ensures.bounded) (rw c.in-Some.is at c.cycle_bound.ensures.some) (rw c.in-Some-shortest_cycle.is at c.shortest_cycle.ensures) c.show.ensures
