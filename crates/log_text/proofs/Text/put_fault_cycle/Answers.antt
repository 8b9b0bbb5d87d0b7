-- `log_text::Text::put_fault_cycle` meets its contract. Assumes nothing.
use native.Mathlib.Omega.{arith}
use Rattle.log_text.proofs.Lines.{fault_short}
use Rattle.log_text.proofs.Writing.{appended_both, kept}
use Rattle.log_text.proofs.Text.put_fault_cycle.Goals as goal

pub put_cycle-requires : goal.put_cycle-requires
put_cycle-requires c =
    let p = c.put_fault.ensures.put in
    (omega (arith, fault_short c.args.number (omega arith), p.end_is, kept p), c.requires.1, c.requires.2)

pub returns-clause-put : goal.returns-clause-put
returns-clause-put c = appended_both c.put_fault.ensures.put c.put_cycle.ensures.put
