-- `log_text::Text::put_fault` meets its contract. Assumes nothing.
use native.Mathlib.Omega.{arith}
use Rattle.log_text.specs.Text.{fault_text}
use Rattle.log_text.proofs.Digits.{places_of_word}
use Rattle.log_text.proofs.Writing.{appended_both, kept}
use Rattle.log_text.proofs.Text.put_fault.Goals as goal

pub put_number-requires : goal.put_number-requires
put_number-requires c =
    let p = c.put_word.ensures.put in
    omega (arith, p.end_is, kept p, places_of_word c.args.number (omega arith))

pub put_word-requires-2 : goal.put_word-requires-2
put_word-requires-2 c =
    let p = c.put_word.ensures.put in
    let q = c.put_number.ensures.put in
    omega (arith, p.end_is, kept p, q.end_is, kept q, places_of_word c.args.number (omega arith))

pub returns-clause-put : goal.returns-clause-put
unfolding fault_text
returns-clause-put c = appended_both (appended_both c.put_word.ensures.put c.put_number.ensures.put) c.put_word-2.ensures.put
