use mathlib.Core.Path.{◌≡◌}
use Prim.Native.Nat.{suc, ◌+◌}
use native.Mathlib.Omega.{arith}
use Rattle.layout.specs.Layout.{accepted_of}
use Rattle.history.proofs.Numbering.{entry_numbers, entry_passed, numbering_start, numbering_step, numbering_done}
use Rattle.history.proofs.number_commit.Goals.{in-Some, in_default}
use Rattle.history.proofs.number_commit.Goals as goal

pub loop-i-init : goal.loop-i-init
loop-i-init c =
    let p = c.requires in
    numbering_start _ _ _ _ _ _ p.4 p.5 p.7 _ c.since_of-i.ensures

pub loop-i-preserved : goal.loop-i-preserved
loop-i-preserved c =
    let p = c.requires in
    let l = c.loop-i in
    let s = c.since_of-i.ensures in
    let k = c.kept_of-i-end.ensures in
    let n : c.number_at-number.result + 1 ≡ suc (accepted_of c.args.desk.now) = omega (arith, c.number_at-number.ensures) in
    numbering_step _ _ _ _ _ _ p.4 p.5 p.7 l.i _ l.invariant (omega arith) (omega arith) (p.2.class l.i (omega arith)) _ _ n
    (elim c.match-lock_in.branch [
      | in-Some w ↦ rw w.seen-is (entry_numbers _ _ _ _ _ _ _ _ w.in-Some.ensures.0 (rw w.in-Some.ensures.1 at w.number_pair.ensures))
      | in_default w ↦ rw w.seen-is (entry_passed _ _ _ _ _ _ _ w.in_default.ensures)
    ])

pub returns : goal.returns
returns c =
    let p = c.requires in
    let k = c.kept_of-i-end.ensures in
    numbering_done _ _ _ _ _ _ p.4 p.5 p.7 _ _ (omega arith) c.loop-i.invariant
