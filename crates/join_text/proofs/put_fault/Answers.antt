use native.Mathlib.Omega.{arith}
use Rattle.log_text.proofs.Writing.{appended_both, kept}
use Rattle.join_text.proofs.put_fault.Goals as goal

pub put_cycle-requires : goal.put_cycle-requires
put_cycle-requires c = let p = c.put_word.ensures.put in (omega (arith, p.end_is, kept p), c.requires.1, c.requires.2)

pub returns-clause-put : goal.returns-clause-put
returns-clause-put c = appended_both c.put_word.ensures.put c.put_cycle.ensures.put
