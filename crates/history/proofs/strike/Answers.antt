use native.Mathlib.Omega.{arith}
use Rattle.history.proofs.Striking.{striking_start, striking_step, striking_done}
use Rattle.history.proofs.strike.Goals as goal

pub loop-i-init : goal.loop-i-init
loop-i-init c = striking_start _ _

pub strike_entry-requires : goal.strike_entry-requires
strike_entry-requires c =
    let p = c.requires in
    let l = c.loop-i.invariant.keeps.long in
    let k = c.kept_of-i-end.ensures in
    (omega arith, omega arith, p.3)

pub loop-i-preserved : goal.loop-i-preserved
loop-i-preserved c = striking_step _ _ _ _ _ c.loop-i.invariant c.strike_entry.ensures

pub shape_of-history : goal.shape_of-history
shape_of-history c = c.loop-i.invariant.keeps.long

pub returns : goal.returns
returns c = let k = c.kept_of-i-end.ensures in striking_done _ _ _ _ _ (omega arith) c.loop-i.invariant
