-- `log_text::next_entry` meets its contract. Assumes nothing.
use native.Mathlib.Omega.{arith}
use Rattle.layout.proofs.Slips.{next_more, next_last}
use Rattle.log_text.proofs.next_entry.Goals as goal

pub returns-then-i-n : goal.returns-then-i-n
returns-then-i-n c = let e = next_more c.args.n c.args.i c.if-i-n.true in omega (arith, e)

pub returns : goal.returns
returns c = let e = next_last c.args.n c.args.i c.if-i-n.false in omega (arith, e)
