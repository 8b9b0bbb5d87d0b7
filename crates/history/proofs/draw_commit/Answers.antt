use native.Mathlib.Omega.{arith}
use Rattle.history.proofs.Committing.{entry_draws, entry_passed, committing_start, committing_step, committing_done}
use Rattle.history.proofs.draw_commit.Goals.{in-Some, in_default}
use Rattle.history.proofs.draw_commit.Goals as goal

pub loop-i-init : goal.loop-i-init
loop-i-init c = committing_start _ _ _ _ _ _ c.requires.4 c.requires.5 _ c.since_of-i.ensures

pub loop-i-preserved : goal.loop-i-preserved
loop-i-preserved c =
    let p = c.requires in
    let l = c.loop-i in
    let s = c.since_of-i.ensures in
    let k = c.kept_of-i-end.ensures in
    committing_step _ _ _ _ _ _ p.4 p.5 l.i _ l.invariant (omega arith) (omega arith) _
    (elim c.match-lock_in.branch [
      | in-Some w ↦
          rw (w.sheet-is, w.in-Some.ensures.1) (entry_draws _ _ _ _ _ _ _ (rw w.in-Some.ensures.1 at w.kind_bit.ensures) w.in-Some.ensures.0)
      | in_default w ↦ rw w.sheet-is (entry_passed _ _ _ _ _ _ w.in_default.ensures)
    ])
    (p.2.class l.i (omega arith)) p.3

pub returns : goal.returns
returns c =
    let p = c.requires in
    let k = c.kept_of-i-end.ensures in
    committing_done _ _ _ _ _ _ p.4 p.5 _ _ (omega arith) c.loop-i.invariant
