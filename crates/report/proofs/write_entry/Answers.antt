-- `report::write_entry` meets its contract. Assumes nothing.
use native.Mathlib.Omega.{arith}
use lib.ListN.{length-set}
use Rattle.report.proofs.Writing.{entry_written}
use Rattle.report.proofs.write_entry.Goals as goal

pub bounds-slip-at-2 : goal.bounds-slip-at-2
bounds-slip-at-2 c = simp length-set (omega arith)

pub bounds-slip-at-3 : goal.bounds-slip-at-3
bounds-slip-at-3 c = simp length-set (omega arith)

pub put_number-requires : goal.put_number-requires
put_number-requires c = simp length-set (omega (arith, c.requires.1))

pub shape_of-slip : goal.shape_of-slip
shape_of-slip c =
    (entry_written c.args.slip.now c.args.i c.args.class c.args.kind c.args.source c.args.number c.requires.1 _ c.put_number.ensures).long

pub returns : goal.returns
returns c =
    entry_written c.args.slip.now c.args.i c.args.class c.args.kind c.args.source c.args.number c.requires.1 _ c.put_number.ensures
