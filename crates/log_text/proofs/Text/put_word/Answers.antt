-- `log_text::Text::put_word` meets its contract. Assumes nothing.
use native.Mathlib.Omega.{arith}
use Rattle.log_text.proofs.Writing.{copied}
use Rattle.log_text.proofs.Text.put_word.Goals as goal

pub returns-clause-put : goal.returns-clause-put
returns-clause-put c = copied c.args.self.now.out.now c.args.self.now.end c.args.word.now _ _ c.copy_from_slice.ensures.after (omega arith) c.requires
